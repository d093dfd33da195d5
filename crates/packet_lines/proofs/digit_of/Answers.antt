-- `digit_of` meets its contract: its tests are those of `digit_of`, and each bounds what is taken away.
use mathlib.Core.Path.{◌≡◌, refl}
use mathlib.Core.Bool.{true, ◌&&◌, and-eq-true_iff}
use Prim.Native.Nat.{ℕ, ◌≤◌}
use lib.Dec.{leb}
use borrow.Author.Tests.{leb-true}
use Rattle.packet_lines.specs.Lines.{digit_of}
use Rattle.packet_lines.proofs.digit_of.Goals as goal

-- a character of a range is not below its first
from : (low high b : ℕ) → (leb low b && leb b high) ≡ true → low ≤ b
from low high b t = leb-true low b ((and-eq-true_iff (leb low b) (leb b high)).0 t).0

pub returns-then-b : goal.returns-then-b
unfolding digit_of
returns-then-b c = rw c.if-b.true refl

pub returns-then-b-2 : goal.returns-then-b-2
unfolding digit_of
returns-then-b-2 c = rw (c.if-b.false, c.if-b-2.true) refl

pub returns-then-b-3 : goal.returns-then-b-3
unfolding digit_of
returns-then-b-3 c = rw (c.if-b.false, c.if-b-2.false, c.if-b-3.true) refl

pub returns : goal.returns
unfolding digit_of
returns c = rw (c.if-b.false, c.if-b-2.false, c.if-b-3.false) refl
