-- Laws of choices and tests.
--
--     pick_both                     what holds of both values holds of the chosen one
--     both                          two tests at once
--     below_sixteen, both_below     what the test of a house or unit says as an inequality
use mathlib.Core.Path.{◌≡◌}
use mathlib.Core.Bool.{Bool, true, false, ◌&&◌, and-eq-true_iff}
use Prim.Native.Nat.{ℕ, ◌≤◌, ◌<◌}
use native.Mathlib.Omega.{arith}
use borrow.Author.Tests.{leb-true}
use lib.Dec.{leb}
use Rattle.ground.specs.Choice.{pick}

pub pick_both {ℓ} : {A : Type 0} (P : A → Type ℓ) (b : Bool) (x y : A) → P x → P y → P (pick b x y)
pick_both P true x y px py = px
pick_both P false x y px py = py

pub both : {a b : Bool} → a ≡ true → b ≡ true → (a && b) ≡ true
both {a} {b} p q = (and-eq-true_iff a b).1 (p, q)

pub below_sixteen : (n : ℕ) → leb n 15 ≡ true → n < 16
below_sixteen n t = let low : n ≤ 15 = leb-true n 15 t in omega arith

pub both_below : (h u : ℕ) → (leb h 15 && leb u 15) ≡ true → (h < 16) × (u < 16)
both_below h u t =
    let p = (and-eq-true_iff (leb h 15) (leb u 15)).0 t in
    (below_sixteen h p.0, below_sixteen u p.1)
