-- `word::read_standard` meets its contract: its one test is its one cause.
use mathlib.Core.Path.{ap}
use Rattle.ground.proofs.Causes.{ladder}
use Rattle.message.specs.Words.{standard_answer, said}
use Rattle.message.proofs.word.read_standard.Goals as goal

pub returns-then-bits-ge512 : goal.returns-then-bits-ge512
unfolding standard_answer
returns-then-bits-ge512 c =
    record { answer = search ladder; report = search ladder }

pub returns : goal.returns
unfolding standard_answer
returns c =
    let read = ap said c.nine_read.ensures in
    record { answer = search ladder; report = search ladder }
