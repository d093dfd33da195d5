-- `word::read_extended` meets its contract: its two tests are its causes, in their order; each part is that of the definition.
use Rattle.ground.proofs.Causes.{ladder}
use Rattle.message.specs.Words.{extended_answer}
use Rattle.message.proofs.word.read_extended.Goals as goal

pub returns-then-bits-ge536870912 : goal.returns-then-bits-ge536870912
unfolding extended_answer
returns-then-bits-ge536870912 c =
    record { answer = search ladder; report = search ladder }

pub returns-then-bits-ne15 : goal.returns-then-bits-ne15
unfolding extended_answer
returns-then-bits-ne15 c =
    record { answer = search ladder; report = search ladder }

pub returns : goal.returns
unfolding extended_answer
returns c =
    record {
      answer = simp (c.line_number.ensures, c.line_number-2.ensures) (search ladder);
      report = simp (c.line_number.ensures, c.line_number-2.ensures) (search ladder);
    }
