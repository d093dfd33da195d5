-- `word::word_of` meets its contract: its one test is its one cause.
use Rattle.ground.proofs.Causes.{ladder}
use Rattle.message.specs.Words.{word_answer}
use Rattle.message.proofs.word.word_of.Goals as goal

pub returns-then-not-valid : goal.returns-then-not-valid
unfolding word_answer
returns-then-not-valid c =
    record { answer = search ladder; report = search ladder }

pub returns : goal.returns
unfolding word_answer
returns c =
    record { answer = rw c.bits_of.ensures (search ladder); report = rw c.bits_of.ensures (search ladder) }
