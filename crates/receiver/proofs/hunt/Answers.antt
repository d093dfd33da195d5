-- `hunt` meets its contract: the test of the start picks the case of `hunt_of`.
use Rattle.receiver.specs.Receivers.{hunt_of}
use Rattle.receiver.proofs.hunt.Goals as goal

pub returns-then-past-half : goal.returns-then-past-half
unfolding hunt_of
returns-then-past-half c = simp (c.saying.ensures, c.starts.ensures, c.shift-now.ensures, c.if-past-half.true)

pub returns : goal.returns
unfolding hunt_of
returns c = simp (c.saying-2.ensures, c.hunts.ensures, c.shift-now.ensures, c.if-past-half.false)
