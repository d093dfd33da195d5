-- `place_fits` meets its contract: which of the three kinds of place it is picks the test.
use mathlib.Core.Bool.{or-false}
use native.Mathlib.Omega.{arith}
use borrow.Author.Tests.{le-leb, lt-leb}
use Rattle.receiver.specs.Receivers.{pairs_ok}
use Rattle.receiver.proofs.place_fits.Goals as goal

pub returns-then-at-le22 : goal.returns-then-at-le22
unfolding pairs_ok
returns-then-at-le22 c = simp (le-leb _ _ c.if-at-le22.true)

pub returns-then-at-gt62 : goal.returns-then-at-gt62
unfolding pairs_ok
returns-then-at-gt62 c = simp (c.waiting_fits.ensures, lt-leb _ _ c.if-at-le22.false, lt-leb _ _ c.if-at-gt62.true)

pub returns : goal.returns
unfolding pairs_ok
returns c =
    let at = c.args.at in
    let frame = le-leb _ _ c.if-at-gt62.false in
    simp (lt-leb _ _ c.if-at-le22.false, frame, lt-leb 70 at (omega arith), lt-leb 152 at (omega arith), or-false)
