-- Laws of lists that several crates put into lent memory.
--
--     sets-append     a list in two parts is put part by part
--     sets-whole      a list put over another of its length
--     sets-front      a list put at the front: what stands beyond it stays
--     flat_append     bytes of entries, in two parts
--     flat_length     the same number of bytes for each entry
--     bytes_length, bytes_at_lem, bytes_same       bytes from a place on: how many, one of them, and equal ones
--     bytes_whole, sets-bytes                   a list is its own elements from its front on, and so it is put
use mathlib.Core.Path.{◌≡◌, refl, sym, ap, ap₂, ◌∙◌}
use mathlib.Core.List.{List, [], ◌∷◌, ◌++◌, append-nil, append_assoc, flat_map}
use Prim.Native.Nat.{ℕ, zero, suc, ◌+◌, ◌*◌, ◌≤◌, ◌<◌}
use native.Mathlib.Nat.{add-zero, add-suc, add_comm, suc-add, zero-add, mul-suc, le_of_suc-le-suc, not-suc-le-zero}
use native.Mathlib.Omega.{arith}
use lib.ListN.{length, get_or, set, drop, drop_of_length-le, length-append}
use lib.Seq.{sets, sets-eq, ext_get_or}
use Rattle.ground.specs.Records.{bytes_at}

pub sets-append : (l : List ℕ) (i : ℕ) (s t : List ℕ) → sets l i (s ++ t) ≡ sets (sets l i s) (i + length s) t
sets-append l i [] t = ap (λ (k : ℕ). sets l k t) (sym (add-zero i))
sets-append l i (x ∷ s) t =
    sets-append (set l i x) (suc i) s t
    ∙ ap (λ (k : ℕ). sets (sets (set l i x) (suc i) s) k t) (suc-add i (length s) ∙ sym (add-suc i (length s)))

pub sets-front : (vs l : List ℕ) → length vs ≤ length l → sets l 0 vs ≡ vs ++ drop (length vs) l
sets-front vs l h = sets-eq vs l 0 (omega arith) ∙ ap (λ (k : ℕ). vs ++ drop k l) (zero-add (length vs))

pub sets-whole : (vs l : List ℕ) → length vs ≡ length l → sets l 0 vs ≡ vs
sets-whole vs l e =
    let beyond : length l ≤ length vs = omega arith in
    sets-front vs l (omega arith) ∙ ap (λ (r : List ℕ). vs ++ r) (drop_of_length-le l beyond) ∙ append-nil vs

pub flat_append : {A : Type 0} (f : A → List ℕ) (xs ys : List A) → flat_map f (xs ++ ys) ≡ flat_map f xs ++ flat_map f ys
unfolding flat_map
flat_append f [] ys = refl
flat_append f (x ∷ xs) ys = ap (λ (l : List ℕ). f x ++ l) (flat_append f xs ys) ∙ sym (append_assoc (f x) (flat_map f xs) (flat_map f ys))

pub flat_length : {A : Type 0} (f : A → List ℕ) (n : ℕ) (xs : List A) → ((x : A) → length (f x) ≡ n) → length (flat_map f xs) ≡ n * length xs
unfolding flat_map
flat_length f n [] each = omega arith
flat_length f n (x ∷ xs) each =
    length-append (f x) (flat_map f xs) ∙ ap₂ (λ (a b : ℕ). a + b) (each x) (flat_length f n xs each) ∙ add_comm n (n * length xs) ∙ sym (mul-suc n (length xs))

pub bytes_length : (t : List ℕ) (at k n : ℕ) → length (bytes_at t at k n) ≡ n
bytes_length t at k zero = refl
bytes_length t at k (suc n) = ap suc (bytes_length t at (suc k) n)

pub bytes_at_lem : (t : List ℕ) (at k n j : ℕ) → j < n → get_or (bytes_at t at k n) j 0 ≡ get_or t (at + (k + j)) 0
bytes_at_lem t at k zero j h = absurd (not-suc-le-zero h)
bytes_at_lem t at k (suc n) zero h = rw (add-zero k)
bytes_at_lem t at k (suc n) (suc j) h = bytes_at_lem t at (suc k) n j (le_of_suc-le-suc h) ∙ rw (suc-add k j, add-suc k j)

pub bytes_same : (t u : List ℕ) (a b k n : ℕ) → ((j : ℕ) → j < n → get_or t (a + (k + j)) 0 ≡ get_or u (b + (k + j)) 0) → bytes_at t a k n ≡ bytes_at u b k n
bytes_same t u a b k zero e = refl
bytes_same t u a b k (suc n) e =
    ap₂ (λ (x : ℕ) (xs : List ℕ). x ∷ xs) (rw add-zero at (e 0 (omega arith)))
    (bytes_same t u a b (suc k) n (λ j h. rw (suc-add k j, ← add-suc k j) (e (suc j) (omega arith))))

-- a list is its own elements, from its front on
pub bytes_whole : (xs : List ℕ) (n : ℕ) → length xs ≡ n → bytes_at xs 0 0 n ≡ xs
bytes_whole xs n e =
    ext_get_or 0 (bytes_at xs 0 0 n) xs (bytes_length xs 0 0 n ∙ sym e)
    (λ j h. bytes_at_lem xs 0 0 n j (omega (arith, bytes_length xs 0 0 n)) ∙ rw (zero-add j, zero-add j))

-- so it is put element by element: at a numeral n these are n stores
pub sets-bytes : (t : List ℕ) (at : ℕ) (xs : List ℕ) (n : ℕ) → length xs ≡ n → sets t at (bytes_at xs 0 0 n) ≡ sets t at xs
sets-bytes t at xs n e = ap (sets t at) (bytes_whole xs n e)
