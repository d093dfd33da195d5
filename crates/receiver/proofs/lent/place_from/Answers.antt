-- `place_from` meets its contract: its tests are those of `place_from`, one after the other.
use mathlib.Core.Path.{◌≡◌}
use mathlib.Core.Bool.{true, ◌&&◌, and-eq-true_iff}
use Prim.Native.Nat.{ℕ, ◌≤◌}
use borrow.Author.Tests.{leb-true, eq-eqb, ne_eqb}
use lib.Dec.{eqb, leb}
use Rattle.receiver.specs.Bytes.{place_from}
use Rattle.receiver.proofs.lent.place_from.Goals as goal

since_most : (at since most : ℕ) → (eqb at 0 && leb since most) ≡ true → since ≤ most
since_most at since most t = leb-true since most ((and-eq-true_iff (eqb at 0) (leb since most)).0 t).1

pub returns-then-since-at : goal.returns-then-since-at
unfolding place_from
returns-then-since-at c = simp (eq-eqb _ _ c.if-target-eq0.true, c.if-since-at.true)

pub returns-else-since-at : goal.returns-else-since-at
unfolding place_from
returns-else-since-at c = simp (eq-eqb _ _ c.if-target-eq0.true, c.if-since-at.false)

pub returns-then-at-since : goal.returns-then-at-since
unfolding place_from
returns-then-at-since c = simp (ne_eqb _ _ c.if-target-eq0.false, eq-eqb _ _ c.if-target-eq22.true, c.if-at-since.true)

pub returns-else-at-since : goal.returns-else-at-since
unfolding place_from
returns-else-at-since c = simp (ne_eqb _ _ c.if-target-eq0.false, eq-eqb _ _ c.if-target-eq22.true, c.if-at-since.false)

pub returns-then-at-since-2 : goal.returns-then-at-since-2
unfolding place_from
returns-then-at-since-2 c = simp (ne_eqb _ _ c.if-target-eq0.false, ne_eqb _ _ c.if-target-eq22.false, eq-eqb _ _ c.if-target-eq62.true, c.if-at-since-2.true)

pub returns-else-at-since-2 : goal.returns-else-at-since-2
unfolding place_from
returns-else-at-since-2 c = simp (ne_eqb _ _ c.if-target-eq0.false, ne_eqb _ _ c.if-target-eq22.false, eq-eqb _ _ c.if-target-eq62.true, c.if-at-since-2.false)

pub returns : goal.returns
unfolding place_from
returns c = simp (ne_eqb _ _ c.if-target-eq0.false, ne_eqb _ _ c.if-target-eq22.false, ne_eqb _ _ c.if-target-eq62.false)
