-- `taken` meets its contract: its one test is its one cause.
use Rattle.ground.proofs.Causes.{ladder}
use Rattle.wire.specs.Messages.{taken_message}
use Rattle.wire.proofs.taken.Goals as goal

pub returns-then-not-valid : goal.returns-then-not-valid
unfolding taken_message
returns-then-not-valid c = search ladder

pub returns : goal.returns
unfolding taken_message
returns c = search ladder
