-- `takes` meets its contract: where the receiver stands picks the case of `takes_of`.
use native.Mathlib.Omega.{arith}
use borrow.Author.Tests.{le-leb, lt-leb}
use Rattle.receiver.specs.Receivers.{takes_of}
use Rattle.receiver.proofs.ReceiverLaws.{hunts_not, hunts_waiting, place_waits}
use Rattle.receiver.proofs.takes.Goals as goal

pub returns-then-r-eq0 : goal.returns-then-r-eq0
unfolding takes_of
returns-then-r-eq0 c = simp (c.hunt.ensures, c.if-r-eq0.true)

pub returns-then-r-le4 : goal.returns-then-r-le4
unfolding takes_of
returns-then-r-le4 c =
    let reads = hunts_not c.args.r.at c.if-r-eq0.false (omega arith) in
    simp (c.awaits.ensures, reads, le-leb _ _ c.if-r-le4.true)

pub returns-then-r-le62 : goal.returns-then-r-le62
unfolding takes_of
returns-then-r-le62 c = simp (c.reads.ensures, hunts_not _ c.if-r-eq0.false c.if-r-le62.true, lt-leb _ _ c.if-r-le4.false)

pub wait-requires : goal.wait-requires
wait-requires c = (c.requires.0, place_waits _ _ c.requires.1 c.if-r-le62.false)

pub returns : goal.returns
unfolding takes_of
returns c = simp (c.wait.ensures, hunts_waiting _ c.if-r-le62.false)
