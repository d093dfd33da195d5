-- A constant table's rule, shown by one test that antt computes over all of its entries.
--
--     every_from   the test at each entry with its place            every_at    what the test then says of one entry
--     ReadsBack   each entry is found at its own place             read-back   the entry at k is found at k
--     one-to-one  such a table has no entry twice                  place_absent   what no entry equals is found nowhere
--     get_d_any    an entry within the table is the same whatever the default
--     entry_below what stands at any place is below the bound of all entries
use mathlib.Core.Path.{◌≡◌, refl, sym, ap, ◌∙◌}
use mathlib.Core.Bool.{Bool, true, ◌&&◌, and-eq-true_iff}
use mathlib.Core.List.{List, [], ◌∷◌}
use Prim.Native.Nat.{ℕ, zero, suc, ◌+◌, ◌≤◌, ◌<◌}
use native.Mathlib.Nat.{add-zero, zero-add, add-suc, suc-add, le_of_suc-le-suc, not-suc-le-zero}
use native.Mathlib.Omega.{arith}
use borrow.Author.Tests.{eqb-true, ltb-true, ne_eqb}
use lib.Dec.{eqb, ltb}
use lib.ListN.{length, get_or}
use Rattle.message.specs.Codes.{place_in}

-- the test f holds at each entry with its place, counted from i
abbrev pub every_from : {A : Type 0} → (ℕ → A → Bool) → ℕ → List A → Bool
every_from f i [] = true
every_from f i (x ∷ xs) = f i x && every_from f (suc i) xs

module _ {A : Type 0} where
  pub get_d_any : (xs : List A) (i : ℕ) (d e : A) → i < length xs → get_or xs i d ≡ get_or xs i e
  get_d_any [] i d e h = absurd (not-suc-le-zero h)
  get_d_any (x ∷ xs) zero d e h = refl
  get_d_any (x ∷ xs) (suc i) d e h = get_d_any xs i d e (le_of_suc-le-suc h)

  from : (f : ℕ → A → Bool) (xs : List A) (d : A) (i k : ℕ) → every_from f i xs ≡ true → k < length xs → f (i + k) (get_or xs k d) ≡ true
  from f [] d i k t h = absurd (not-suc-le-zero h)
  from f (x ∷ xs) d i zero t h = ap (λ (n : ℕ). f n x) (add-zero i) ∙ ((and-eq-true_iff (f i x) (every_from f (suc i) xs)).0 t).0
  from f (x ∷ xs) d i (suc k) t h =
      ap (λ (n : ℕ). f n (get_or xs k d)) (add-suc i k ∙ sym (suc-add i k))
      ∙ from f xs d (suc i) k ((and-eq-true_iff (f i x) (every_from f (suc i) xs)).0 t).1 (le_of_suc-le-suc h)

  pub every_at : (f : ℕ → A → Bool) (xs : List A) (d : A) (k : ℕ) → every_from f 0 xs ≡ true → k < length xs → f k (get_or xs k d) ≡ true
  every_at f xs d k t h = ap (λ (n : ℕ). f n (get_or xs k d)) (sym (zero-add k)) ∙ from f xs d 0 k t h

  module _ (same : A → A → Bool) (xs : List A) where
    -- the computed test: looked for, each entry is found at its own place
    abbrev pub ReadsBack : Type 0
    ReadsBack = every_from (λ k x. eqb (place_in same x xs) k) 0 xs ≡ true

    pub read_back : (d : A) (k : ℕ) → ReadsBack → k < length xs → place_in same (get_or xs k d) xs ≡ k
    read_back d k t h = eqb-true (place_in same (get_or xs k d) xs) k (every_at (λ n x. eqb (place_in same x xs) n) xs d k t h)

    pub one_to_one : (d : A) (i j : ℕ) → ReadsBack → i < length xs → j < length xs → get_or xs i d ≡ get_or xs j d → i ≡ j
    one_to_one d i j t hi hj e = sym (read_back d i t hi) ∙ ap (λ (x : A). place_in same x xs) e ∙ read_back d j t hj

-- a number that is at least the bound of all entries is none of them
pub place_absent : (xs : List ℕ) (c b i : ℕ) → every_from (λ k x. ltb x b) i xs ≡ true → b ≤ c → place_in eqb c xs ≡ length xs
unfolding place_in
place_absent [] c b i t h = refl
place_absent (x ∷ xs) c b i t h =
    let low = (and-eq-true_iff (ltb x b) (every_from (λ k x. ltb x b) (suc i) xs)).0 t in
    let below : x < b = ltb-true x b low.0 in
    rw (ne_eqb c x (λ e. omega arith)) (ap suc (place_absent xs c b (suc i) low.1 h))

-- what stands at any place of a table whose entries are below b, and past its end
pub entry_below : (xs : List ℕ) (n b i : ℕ) → every_from (λ k x. ltb x b) i xs ≡ true → 0 < b → get_or xs n 0 < b
entry_below [] n b i t l = l
entry_below (x ∷ xs) zero b i t l = ltb-true x b ((and-eq-true_iff (ltb x b) (every_from (λ k y. ltb y b) (suc i) xs)).0 t).0
entry_below (x ∷ xs) (suc n) b i t l =
    entry_below xs n b (suc i) ((and-eq-true_iff (ltb x b) (every_from (λ k y. ltb y b) (suc i) xs)).0 t).1 l
