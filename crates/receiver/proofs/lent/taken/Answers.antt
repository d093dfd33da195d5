-- `receivers::taken` meets its contract: its one test is its one cause.
use Rattle.ground.proofs.Causes.{ladder}
use Rattle.receiver.specs.Bytes.{taken_receiver}
use Rattle.receiver.proofs.lent.taken.Goals as goal

pub returns-then-not-valid : goal.returns-then-not-valid
unfolding taken_receiver
returns-then-not-valid c = search ladder

pub returns : goal.returns
unfolding taken_receiver
returns c = search ladder
