-- How often the n stations have said DONE in all.
--
--     total           the sum over the stations
--     total_grows     it never falls, and rises with a DONE
--     total_short     it is below n while one of them has yet to say DONE
use mathlib.Core.Path.{◌≡◌, refl, ap}
use mathlib.Core.Bool.{false}
use mathlib.Core.List.{List, ◌∷◌}
use Prim.Native.Nat.{ℕ, zero, suc, ◌+◌, ◌≤◌, ◌<◌}
use native.Mathlib.Nat.{not-suc-le-zero}
use native.Mathlib.Decide.{ℕ_discrete}
use native.Mathlib.Omega.{arith}
use lib.ListN.{get_or}
use Rattle.bench_run.specs.Calls.{Answered}
use Rattle.bench_laws.specs.Demand3.{SaysDone, times_done}
use Rattle.bench_laws.proofs.StationStates.{mark}

-- the sum of f below n
abbrev sum : (ℕ → ℕ) → ℕ → ℕ
sum f zero = 0
sum f (suc n) = f n + sum f n

module _ (f g : ℕ → ℕ) where
  sum-le : (n : ℕ) → ((i : ℕ) → i < n → f i ≤ g i) → sum f n ≤ sum g n
  sum-le zero h = omega arith
  sum-le (suc n) h = omega (arith, h n (omega arith), sum-le n (λ i l. h i (omega arith)))

  -- strictly, where they differ at one place
  sum_lt : (n : ℕ) → ((i : ℕ) → i < n → f i ≤ g i) → (j : ℕ) → j < n → f j < g j → sum f n < sum g n
  sum_lt zero h j l u = absurd (not-suc-le-zero l)
  sum_lt (suc n) h j l u = go (ℕ_discrete j n) (λ k. sum_lt n (λ i l. h i (omega arith)) j k u)
    where
      go : Dec (j ≡ n) → (j < n → sum f n < sum g n) → sum f (suc n) < sum g (suc n)
      go (yes e) rest = omega (arith, ap f e, ap g e, sum-le n (λ i l. h i (omega arith)))
      go (no e) rest = omega (arith, rest (omega arith), h n (omega arith))

sum_ones : (n : ℕ) → sum (λ i. 1) n ≡ n
sum_ones zero = refl
sum_ones (suc n) = omega (arith, sum_ones n)

unfoldable pub total : ℕ → List Answered → ℕ
total n past = sum (λ i. times_done i past) n

module _ (n : ℕ) (a : Answered) (past : List Answered) where
  pub total_grows : total n past ≤ total n (a ∷ past)
  unfolding total
  total_grows = sum-le (λ i. times_done i past) (λ i. times_done i (a ∷ past)) n (λ i l. omega arith)

  pub total_rises : (j : ℕ) → j < n → SaysDone j a → total n past < total n (a ∷ past)
  unfolding total
  total_rises j l d =
      let one : mark (get_or a.done j false) ≡ 1 = ap mark d in
      sum_lt (λ i. times_done i past) (λ i. times_done i (a ∷ past)) n (λ i l. omega arith) j l (omega arith)

pub total_short : (n : ℕ) (past : List Answered) → ((i : ℕ) → i < n → times_done i past ≤ 1) → (j : ℕ) → j < n → times_done j past ≡ 0 → total n past < n
unfolding total
total_short n past h j l e = omega (arith, sum_ones n, sum_lt (λ i. times_done i past) (λ i. 1) n h j l (omega arith))
