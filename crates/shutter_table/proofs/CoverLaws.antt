-- Laws of the places that a motion covers.
--
--     covers_unit, covers_house, covers_every, covers_none        a motion that reaches one unit, a house, every house or nothing covers so many places
use mathlib.Core.Path.{◌≡◌, refl, sym, ◌∙◌}
use mathlib.Core.Bool.{Bool, true, false, ◌&&◌, true≢false, and-eq-true_iff}
use Prim.Native.Nat.{ℕ, ◌+◌, ◌*◌, ◌/◌, ◌%◌, ◌≤◌, ◌<◌}
use native.Mathlib.Omega.{arith}
use borrow.Author.Tests.{eqb-true, eq-eqb, leb-true, ltb-true, le-leb, lt-ltb}
use lib.Dec.{eqb, leb, ltb}
use Rattle.ground.proofs.Choices.{both}
use Rattle.plan.specs.declared.Motion.{Motion}
use Rattle.shutter.specs.Shutters.{of_house, of_unit, reaches}
use Rattle.shutter_table.specs.Covers.{Covers}
use Rattle.shutter_table.specs.ShutterTable.{SHUTTERS}

-- two tests that hold together are equal
together : (x y : Bool) → (x ≡ true → y ≡ true) → (y ≡ true → x ≡ true) → x ≡ y
together true y f g = sym (f refl)
together false true f g = absurd (true≢false (sym (g refl)))
together false false f g = refl

-- a test that holds exactly from the first place to the last is the test of the run
run_test : (test : Bool) (first many i : ℕ) → (test ≡ true → (first ≤ i) × (i < first + many)) → (first ≤ i → i < first + many → test ≡ true)
    → test ≡ (leb first i && ltb i (first + many))
run_test test first many i inside whole =
    together test (leb first i && ltb i (first + many))
    (λ e. both (le-leb first i (inside e).0) (lt-ltb i (first + many) (inside e).1))
    (λ e. let p = (and-eq-true_iff (leb first i) (ltb i (first + many))).0 e in whole (leb-true first i p.0) (ltb-true i (first + many) p.1))

module _ (a : Motion) (h : ℕ) where
  pub covers_unit : (u : ℕ) → h < 16 → u < 16 → ((i : ℕ) → reaches a h i ≡ of_unit h u i) → Covers a h (h * 16 + u) 1
  covers_unit u house unit one = record {
    within = omega arith;
    exactly = λ i below. one i
        ∙ run_test (of_unit h u i) (h * 16 + u) 1 i
        (λ e.
        let p = (and-eq-true_iff (of_house h i) (eqb (i % 16) u)).0 e in
        let here : i / 16 ≡ h = eqb-true (i / 16) h p.0 in
        let same : i % 16 ≡ u = eqb-true (i % 16) u p.1 in
        (omega arith, omega arith))
        (λ from to. both (eq-eqb (i / 16) h (omega arith)) (eq-eqb (i % 16) u (omega arith)));
  }

  pub covers_house : h < 16 → ((i : ℕ) → reaches a h i ≡ of_house h i) → Covers a h (h * 16) 16
  covers_house house own = record {
    within = omega arith;
    exactly = λ i below. own i
        ∙ run_test (eqb (i / 16) h) (h * 16) 16 i
        (λ e. let same = eqb-true (i / 16) h e in (omega arith, omega arith))
        (λ from to. eq-eqb (i / 16) h (omega arith));
  }

  pub covers_every : ((i : ℕ) → reaches a h i ≡ true) → Covers a h 0 SHUTTERS
  covers_every every = record {
    within = omega arith;
    exactly = λ i below. every i ∙ run_test true 0 SHUTTERS i (λ e. (omega arith, omega arith)) (λ from to. refl);
  }

  pub covers_none : ((i : ℕ) → reaches a h i ≡ false) → Covers a h 0 0
  covers_none none = record {
    within = omega arith;
    exactly = λ i below. none i ∙ run_test false 0 0 i (λ e. absurd (true≢false (sym e))) (λ from to. absurd (omega arith));
  }
