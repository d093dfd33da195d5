-- `step_valid` meets its contract: of the two causes of `step_causes` the second does not apply.
use Rattle.ground.proofs.Causes.{ladder}
use Rattle.receiver.specs.Receivers.{step_of}
use Rattle.receiver.proofs.ReceiverLaws.{valid_parts}
use Rattle.receiver.proofs.step_valid.Goals as goal

pub returns-then-half-gt1 : goal.returns-then-half-gt1
unfolding step_of
returns-then-half-gt1 c = search ladder

pub takes-requires : goal.takes-requires
takes-requires c = (c.if-half-gt1.false, (valid_parts c.args.r c.requires).0)

pub returns : goal.returns
unfolding step_of
returns c = search ladder
