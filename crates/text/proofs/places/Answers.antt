use mathlib.Core.Path.{◌≡◌, ap, subst, ◌∙◌}
use Prim.Native.Nat.{ℕ, suc, ◌+◌, ◌-◌, ◌/◌, ◌^◌, ◌≤◌, ◌<◌}
use native.Mathlib.Omega.{arith}
use lib.ListN.{length}
use Rattle.text.specs.Texts.{digits_up_to}
use Rattle.text.proofs.TextLaws.{digits_small, length_more}
use Rattle.text.proofs.places.Goals as goal

-- one turn
shorter : (k rest whole : ℕ) → 1 ≤ k → k ≤ 20 → 9 < rest → rest < 10 ^ (21 - k) → whole + 1 ≡ k + length (digits_up_to (21 - k) rest)
    → (1 ≤ k + 1) × (k + 1 ≤ 20) × (rest / 10 < 10 ^ (21 - (k + 1))) × (whole + 1 ≡ k + 1 + length (digits_up_to (21 - (k + 1)) (rest / 10)))
shorter k rest whole one most big below e =
    let m : 21 - k ≡ suc (20 - k) = omega arith in
    let m' : 21 - (k + 1) ≡ 20 - k = omega arith in
    let below' : rest < 10 ^ suc (20 - k) = subst (λ (n : ℕ). rest < 10 ^ n) m below in
    let less : k ≡ 20 → ⊥ = λ z. omega (arith, subst (λ (n : ℕ). rest < 10 ^ (21 - n)) z below) in
    let fewer : rest / 10 < 10 ^ (20 - k) = omega arith in
    let one_less : length (digits_up_to (21 - k) rest) ≡ suc (length (digits_up_to (20 - k) (rest / 10))) =
    ap (λ (n : ℕ). length (digits_up_to n rest)) m ∙ length_more (20 - k) rest big in
    rw m' (omega arith, omega arith, fewer, omega arith)

-- at the end one digit is left
last : (k rest whole : ℕ) → k ≤ 20 → rest ≤ 9 → whole + 1 ≡ k + length (digits_up_to (21 - k) rest) → k ≡ whole
last k rest whole most small e =
    let m : 21 - k ≡ suc (20 - k) = omega arith in
    let one : length (digits_up_to (21 - k) rest) ≡ 1 = ap (λ (n : ℕ). length (digits_up_to n rest)) m ∙ ap length (digits_small (20 - k) rest (omega arith)) in
    omega arith

pub loop-rest-preserved : goal.loop-rest-preserved
loop-rest-preserved c =
    let l = c.loop-rest in
    shorter l.k l.rest (length (digits_up_to 20 c.args.number)) l.invariant.0 l.invariant.1 c.loop-rest-test.true l.invariant.2 l.invariant.3

pub returns : goal.returns
returns c =
    let l = c.loop-rest in
    last l.k l.rest (length (digits_up_to 20 c.args.number)) l.invariant.1 c.loop-rest-test.false l.invariant.3
