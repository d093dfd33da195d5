-- Laws of records of one size in lent bytes, once over the size.
--
--     get_d_sets_before, get_d_sets_after, get_d_sets_in    an element of a list after a run of stores
--     sets-sets                                           two runs of stores that do not meet, in either order
--     ends_before                                         the record of a place ends where that of a later one begins
--     Apart, byte_put_own, byte_put_apart                 a byte after a record is put
--     laid_by_bytes                                       a record that is made of its bytes one after the other lies as a layout says
--     read_sound, put_own, put_other, put_as              the records after a record is put; what a record put is
--     same_records                                        tables that are equal record by record are equal
--     lent_records                                        LentRecords
--     each-length, each_other, each_at, each_byte         n records stepped
--     sum-ext, sum-none, sum-at_most, one_at_most         a sum of equal numbers, of zeros, and of numbers of at most 1
--     differing_ext, differing_before, differing_none, differing_at_most, differing_put, differing_as      the count of records that differ in a value
--     stepped_length                                      one record stepped
--     Turn, turn_first, turn_length, turn_next_lem, turn_last                  a turn of a loop that steps records and counts
--     below_at, below_all, below_not                      a test at every number, and at one
--     below_and                                           two tests at every number
--     below_add, below_next, below_runs                   a test at every number, in two parts; one run of n numbers more, and m runs
--     zeros_in, zeros_each                                a byte of a part of zeros; records of zeros are judged as one of them
use mathlib.Core.Path.{◌≡◌, refl, sym, ap, ap₂, subst, ◌∙◌}
use mathlib.Core.Bool.{Bool, true, false, ◌&&◌, false≢true, and-true, and-false, and_assoc, and-eq-true_iff}
use mathlib.Core.List.{List, [], ◌∷◌}
use mathlib.Core.Logic.{◌⊎◌, inl, inr, ⊎_elim}
use Prim.Native.Nat.{ℕ, zero, suc, ◌+◌, ◌-◌, ◌*◌, ◌/◌, ◌%◌, ◌≤◌, ◌<◌}
use native.Mathlib.Nat.{add-zero, zero-add, add-suc, suc-add, suc-mul, zero-mul, le_of_suc-le-suc, not-suc-le-zero, mul-le-mul_right, mod-lt, div-add-mod'}
use native.Mathlib.Nat.{mul-zero, div-lt_iff_lt-mul}
use native.Mathlib.Numerals.{add-one}
use native.Mathlib.Omega.{arith}
use native.Mathlib.Decide.{dec_lt}
use borrow.Author.Tests.{eqb-true, eq-eqb}
use lib.Dec.{eqb}
use lib.ListN.{length, get_or, set, take, drop, length-set, length-drop}
use lib.Seq.{sets, length-sets, get_or-set_same, get_or-set_other, set_comm, ext_get_or, length-take-le, get_or-take, get_or-drop}
use Rattle.ground.specs.Choice.{pick}
use Rattle.ground.specs.Records.{bytes_at, Layout, put_at, step_each, Stepped, all_below, zeros, each_ok, sum_below, differing, value_at}
use Rattle.ground.specs.Records.{LaidOut, Sound, LentRecords}
use Rattle.ground.proofs.Choices.{pick_both}
use Rattle.ground.proofs.Lists.{bytes_length, bytes_at_lem, bytes_same}

-- ---- a layout

-- a record whose bytes are those from its place on, and that is made of them alone
pub laid_by_bytes : {R : Type 0} (L : Layout R) (n : ℕ) → L.size ≡ suc n
    → ((t : List ℕ) (i : ℕ) → L.bytes (L.at t i) ≡ get_or t (i * L.size) 0 ∷ bytes_at t (i * L.size) 1 n)
    → ((t : List ℕ) (i : ℕ) → L.at t i ≡ L.at (get_or t (i * L.size) 0 ∷ bytes_at t (i * L.size) 1 n) 0)
    → LaidOut L
laid_by_bytes {R} L n size bytes made = record { sized = sized; byte = byte; same = same }
  where
    sized : (t : List ℕ) (i : ℕ) → length (L.bytes (L.at t i)) ≡ L.size
    sized t i = ap length (bytes t i) ∙ ap suc (bytes_length t (i * L.size) 1 n) ∙ sym size

    byte : (t : List ℕ) (i k : ℕ) → k < L.size → get_or t (i * L.size + k) 0 ≡ get_or (L.bytes (L.at t i)) k 0
    byte t i zero h = rw (bytes t i, add-zero (i * L.size))
    byte t i (suc k) h =
        rw (bytes t i) (sym (bytes_at_lem t (i * L.size) 1 n k (omega arith) ∙ ap (λ (j : ℕ). get_or t (i * L.size + j) 0) (suc-add 0 k ∙ ap suc (zero-add k))))

    same : (t u : List ℕ) (i j : ℕ) → ((k : ℕ) → k < L.size → get_or t (i * L.size + k) 0 ≡ get_or u (j * L.size + k) 0) → L.at t i ≡ L.at u j
    same t u i j e =
        let first : get_or t (i * L.size) 0 ≡ get_or u (j * L.size) 0 = simp add-zero at (e 0 (omega arith)) in
        let rest = bytes_same t u (i * L.size) (j * L.size) 1 n (λ k h. e (1 + k) (omega arith)) in
        made t i ∙ ap₂ (λ (x : ℕ) (xs : List ℕ). L.at (x ∷ xs) 0) first rest ∙ sym (made u j)

-- ---- a run of stores

module _ {A : Type 0} where
  pub get_d_sets_before : (vs l : List A) (i j : ℕ) (d : A) → j < i → get_or (sets l i vs) j d ≡ get_or l j d
  get_d_sets_before [] l i j d h = refl
  get_d_sets_before (v ∷ vs) l i j d h =
      get_d_sets_before vs (set l i v) (suc i) j d (omega arith) ∙ get_or-set_other l i j v d (λ e. omega arith)

  pub get_d_sets_after : (vs l : List A) (i j : ℕ) (d : A) → i + length vs ≤ j → get_or (sets l i vs) j d ≡ get_or l j d
  get_d_sets_after [] l i j d h = refl
  get_d_sets_after (v ∷ vs) l i j d h =
      get_d_sets_after vs (set l i v) (suc i) j d (omega arith) ∙ get_or-set_other l i j v d (λ e. omega arith)

  pub get_d_sets_in : (vs l : List A) (i k : ℕ) (d : A) → k < length vs → i + length vs ≤ length l → get_or (sets l i vs) (i + k) d ≡ get_or vs k d
  get_d_sets_in [] l i k d hk hl = absurd (not-suc-le-zero hk)
  get_d_sets_in (v ∷ vs) l i zero d hk hl =
      ap (λ (n : ℕ). get_or (sets (set l i v) (suc i) vs) n d) (add-zero i)
      ∙ get_d_sets_before vs (set l i v) (suc i) i d (omega arith)
      ∙ get_or-set_same l i v d (omega arith)
  get_d_sets_in (v ∷ vs) l i (suc k) d hk hl =
      ap (λ (n : ℕ). get_or (sets (set l i v) (suc i) vs) n d) (add-suc i k ∙ sym (suc-add i k))
      ∙ get_d_sets_in vs (set l i v) (suc i) k d (le_of_suc-le-suc hk) (omega (arith, length-set l i v))

-- ---- a test at every number below another

pub below_at : (f : ℕ → Bool) (n : ℕ) → all_below n f ≡ true → (i : ℕ) → i < n → f i ≡ true
unfolding all_below
below_at f zero e i h = absurd (not-suc-le-zero h)
below_at f (suc n) e i h = go (dec_lt i n) (below_at f n p.0 i)
  where
    p : (all_below n f ≡ true) × (f n ≡ true)
    p = (and-eq-true_iff (all_below n f) (f n)).0 e

    go : Dec (i < n) → (i < n → f i ≡ true) → f i ≡ true
    go (yes below) ih = ih below
    go (no past) ih = let last : n ≡ i = omega arith in subst (λ (j : ℕ). f j ≡ true) last p.1

pub below_all : (f : ℕ → Bool) (n : ℕ) → ((i : ℕ) → i < n → f i ≡ true) → all_below n f ≡ true
unfolding all_below
below_all f zero h = refl
below_all f (suc n) h = (and-eq-true_iff (all_below n f) (f n)).1 (below_all f n (λ i below. h i (omega arith)), h n (omega arith))

pub below_not : (f : ℕ → Bool) (n i : ℕ) → i < n → f i ≡ false → all_below n f ≡ false
below_not f n i h e = go (all_below n f) refl
  where
    go : (b : Bool) → all_below n f ≡ b → all_below n f ≡ false
    go true all = absurd (false≢true (sym e ∙ below_at f n all i h))
    go false some = some

pub below_and : (f g : ℕ → Bool) (n : ℕ) → all_below n (λ i. f i && g i) ≡ (all_below n f && all_below n g)
unfolding all_below
below_and f g zero = refl
below_and f g (suc n) = ap (λ (b : Bool). b && (f n && g n)) (below_and f g n) ∙ middle (all_below n f) (all_below n g) (f n) (g n)
  where
    and_left : (b c d : Bool) → (b && (c && d)) ≡ (c && (b && d))
    and_left true c d = refl
    and_left false c d = sym (and-false c)

    middle : (a b c d : Bool) → ((a && b) && (c && d)) ≡ ((a && c) && (b && d))
    middle true b c d = and_left b c d
    middle false b c d = refl

pub below_add : (f : ℕ → Bool) (m n : ℕ) → (all_below m f && all_below n (λ k. f (m + k))) ≡ all_below (m + n) f
unfolding all_below
below_add f m zero = and-true (all_below m f) ∙ ap (λ (k : ℕ). all_below k f) (sym (add-zero m))
below_add f m (suc n) =
    rw (add-suc m n) (sym (and_assoc (all_below m f) (all_below n (λ k. f (m + k))) (f (m + n))) ∙ ap (λ (b : Bool). b && f (m + n)) (below_add f m n))

-- one run of n numbers more, and m runs of them
pub below_next : (f : ℕ → Bool) (m n : ℕ) → (all_below (m * n) f && all_below n (λ k. f (m * n + k))) ≡ all_below ((m + 1) * n) f
below_next f m n = below_add f (m * n) n ∙ ap (λ (k : ℕ). all_below k f) (sym (ap (λ (k : ℕ). k * n) (add-one m) ∙ suc-mul m n))

pub below_runs : (f : ℕ → Bool) (m n : ℕ) → all_below m (λ i. all_below n (λ k. f (i * n + k))) ≡ all_below (m * n) f
unfolding all_below
below_runs f zero n = ap (λ (k : ℕ). all_below k f) (sym (zero-mul n))
below_runs f (suc m) n =
    ap (λ (b : Bool). b && all_below n (λ k. f (m * n + k))) (below_runs f m n) ∙ below_next f m n ∙ ap (λ (k : ℕ). all_below (k * n) f) (add-one m)

-- ---- two runs of stores that do not meet

module _ {A : Type 0} where
  set-sets : (ws l : List A) (i j : ℕ) (v : A) → i < j → sets (set l i v) j ws ≡ set (sets l j ws) i v
  set-sets [] l i j v h = refl
  set-sets (w ∷ ws) l i j v h =
      ap (λ (k : List A). sets k (suc j) ws) (set_comm l i j v w (λ e. omega arith)) ∙ set-sets ws (set l j w) i (suc j) v (omega arith)

  pub sets-sets : (vs ws l : List A) (i j : ℕ) → i + length vs ≤ j → sets (sets l i vs) j ws ≡ sets (sets l j ws) i vs
  sets-sets [] ws l i j h = refl
  sets-sets (v ∷ vs) ws l i j h =
      sets-sets vs ws (set l i v) (suc i) j (omega arith) ∙ ap (λ (k : List A). sets k (suc i) vs) (set-sets ws l i j v (omega arith))

-- ---- places of records

-- the record of a place ends where that of a later one begins, or before
pub ends_before : (i j w : ℕ) → i < j → i * w + w ≤ j * w
ends_before i j w h =
    let up : suc i * w ≤ j * w = mul-le-mul_right w h in
    omega (arith, suc-mul i w)

-- ---- a record put

module _ {R : Type 0} (L : Layout R) where
  -- a byte that lies before or after the record's
  abbrev pub Apart : ℕ → ℕ → Type 0
  Apart i j = (j < i * L.size) ⊎ (i * L.size + L.size ≤ j)

  pub length-put : (t : List ℕ) (i : ℕ) (r : R) → length (put_at L t i r) ≡ length t
  length-put t i r = length-sets t (i * L.size) (L.bytes r)

  module _ (r : R) (sound : Sound L r) where
    pub byte_put_own : (t : List ℕ) (i k : ℕ) → i * L.size + L.size ≤ length t → k < L.size
        → get_or (put_at L t i r) (i * L.size + k) 0 ≡ get_or (L.bytes r) k 0
    byte_put_own t i k h hk = get_d_sets_in (L.bytes r) t (i * L.size) k 0 (omega (arith, sound.size)) (omega (arith, sound.size))

    pub byte_put_apart : (t : List ℕ) (i j d : ℕ) → Apart i j → get_or (put_at L t i r) j d ≡ get_or t j d
    byte_put_apart t i j d =
        ⊎_elim
        (λ h. get_d_sets_before (L.bytes r) t (i * L.size) j d h)
        (λ h. get_d_sets_after (L.bytes r) t (i * L.size) j d (omega (arith, sound.size)))

  -- the bytes of one record lie apart from another record
  apart : (i j k : ℕ) → (i ≡ j → ⊥) → k < L.size → Apart i (j * L.size + k)
  apart i j k ne hk = go (dec_lt j i)
    where
      go : Dec (j < i) → Apart i (j * L.size + k)
      go (yes h) = inl (let up = ends_before j i L.size h in omega arith)
      go (no h) = inr (let up = ends_before i j L.size (omega arith) in omega arith)

  module _ (laid : LaidOut L) where
    pub read_sound : (t : List ℕ) (i : ℕ) → Sound L (L.at t i)
    read_sound t i = record {
      size = laid.sized t i;
      back = laid.same (L.bytes (L.at t i)) t 0 i
          (λ k hk. ap (λ (n : ℕ). get_or (L.bytes (L.at t i)) n 0) (ap (λ (z : ℕ). z + k) (zero-mul L.size) ∙ zero-add k) ∙ sym (laid.byte t i k hk));
    }

    pub put_own : (t : List ℕ) (i : ℕ) (r : R) → Sound L r → i * L.size + L.size ≤ length t → L.at (put_at L t i r) i ≡ r
    put_own t i r sound h =
        laid.same (put_at L t i r) (L.bytes r) i 0
        (λ k hk. byte_put_own r sound t i k h hk
        ∙ ap (λ (n : ℕ). get_or (L.bytes r) n 0) (sym (ap (λ (z : ℕ). z + k) (zero-mul L.size) ∙ zero-add k)))
        ∙ sound.back

    pub put_other : (t : List ℕ) (i j : ℕ) (r : R) → Sound L r → (i ≡ j → ⊥) → L.at (put_at L t i r) j ≡ L.at t j
    put_other t i j r sound ne =
        laid.same (put_at L t i r) t j j (λ k hk. byte_put_apart r sound t i (j * L.size + k) 0 (apart i j k ne hk))

    -- a table that differs in no byte but those of one record is that record put
    pub put_as : (t u : List ℕ) (i : ℕ) → i * L.size + L.size ≤ length t → length u ≡ length t
        → ((j : ℕ) → Apart i j → get_or u j 0 ≡ get_or t j 0) → put_at L t i (L.at u i) ≡ u
    put_as t u i h size same =
        ext_get_or 0 (put_at L t i r) u (length-put t i r ∙ sym size)
        (λ j low. go j (dec_lt j (i * L.size)) (dec_lt j (i * L.size + L.size)))
      where
        r : R
        r = L.at u i

        sound : Sound L r
        sound = read_sound u i

        outside : (j : ℕ) → Apart i j → get_or (put_at L t i r) j 0 ≡ get_or u j 0
        outside j off = byte_put_apart r sound t i j 0 off ∙ sym (same j off)

        go : (j : ℕ) → Dec (j < i * L.size) → Dec (j < i * L.size + L.size) → get_or (put_at L t i r) j 0 ≡ get_or u j 0
        go j (yes before) q = outside j (inl before)
        go j (no from) (no behind) = outside j (inr (omega arith))
        go j (no from) (yes within) =
            let k = j - i * L.size in
            let place : i * L.size + k ≡ j = omega arith in
            subst (λ (x : ℕ). get_or (put_at L t i r) x 0 ≡ get_or u x 0) place
            (byte_put_own r sound t i k h (omega arith) ∙ sym (laid.byte u i k (omega arith)))

    pub same_records : (t u : List ℕ) (n : ℕ) → length t ≡ n * L.size → length u ≡ length t
        → ((i : ℕ) → i < n → L.at t i ≡ L.at u i) → t ≡ u
    same_records t u n size long same = ext_get_or 0 t u (sym long) (λ j low. go j low (dec_lt 0 L.size))
      where
        w : ℕ
        w = L.size

        go : (j : ℕ) → j < length t → Dec (0 < w) → get_or t j 0 ≡ get_or u j 0
        go j low (no none) =
            let empty : w ≡ 0 = omega arith in
            let z : n * w ≡ 0 = ap (λ (x : ℕ). n * x) empty ∙ mul-zero n in
            absurd (omega arith)
        go j low (yes some) =
            let i = j / w in
            let k = j % w in
            let place : i * w + k ≡ j = div-add-mod' j w in
            let below : i < n = (div-lt_iff_lt-mul some).1 (omega arith) in
            let small : k < w = mod-lt j some in
            subst (λ (x : ℕ). get_or t x 0 ≡ get_or u x 0) place
            (laid.byte t i k small ∙ ap (λ (r : R). get_or (L.bytes r) k 0) (same i below) ∙ sym (laid.byte u i k small))

    pub put_commute : (t : List ℕ) (i j : ℕ) (r s : R) → Sound L r → Sound L s → (i ≡ j → ⊥)
        → put_at L (put_at L t i r) j s ≡ put_at L (put_at L t j s) i r
    put_commute t i j r s hr hs ne = go (dec_lt i j)
      where
        go : Dec (i < j) → put_at L (put_at L t i r) j s ≡ put_at L (put_at L t j s) i r
        go (yes h) =
            let up = ends_before i j L.size h in
            sets-sets (L.bytes r) (L.bytes s) t (i * L.size) (j * L.size) (omega (arith, hr.size))
        go (no h) =
            let up = ends_before j i L.size (omega arith) in
            sym (sets-sets (L.bytes s) (L.bytes r) t (j * L.size) (i * L.size) (omega (arith, hs.size)))

pub lent_records : LentRecords
lent_records R L laid = record {
  length-put = length-put L;
  read_back = put_own L laid;
  apart = put_other L laid;
  commute = put_commute L laid;
  read = read_sound L laid;
  extensional = same_records L laid;
}

-- ---- bytes that are all zeros

-- a byte of a part of zeros
pub zeros_in : (t : List ℕ) (from to : ℕ) → to ≤ length t → zeros (take (to - from) (drop from t)) ≡ true → (j : ℕ) → from ≤ j → j < to → get_or t j 0 ≡ 0
zeros_in t from to room none j low high =
    let k = j - from in
    let place : from + k ≡ j = omega arith in
    let long : length (take (to - from) (drop from t)) ≡ to - from = length-take-le (to - from) (drop from t) (omega (arith, length-drop from t)) in
    let zero-there = below_at (λ i. eqb (get_or (take (to - from) (drop from t)) i 0) 0) (length (take (to - from) (drop from t))) none k (omega arith) in
    ap (λ (i : ℕ). get_or t i 0) (sym place)
    ∙ sym (get_or-take (to - from) (drop from t) k 0 (omega arith) ∙ get_or-drop from t k 0)
    ∙ eqb-true (get_or (take (to - from) (drop from t)) k 0) 0 zero-there

-- n records from a place on whose bytes are all zeros: each is the record of zeros, and keeps a rule that this one keeps
pub zeros_each : {R : Type 0} (L : Layout R) → LaidOut L → (ok : R → Bool) → ok (L.at [] 0) ≡ true → (t : List ℕ) (first n from to : ℕ)
    → from ≡ first * L.size → to ≡ (first + n) * L.size → to ≤ length t → zeros (take (to - from) (drop from t)) ≡ true
    → each_ok L ok first n t ≡ true
zeros_each L laid ok good t first n from to begins ends room none = below_all (λ k. ok (L.at t (first + k))) n (λ k below. ap ok (same k below) ∙ good)
  where
    same : (k : ℕ) → k < n → L.at t (first + k) ≡ L.at [] 0
    same k below =
        laid.same t [] (first + k) 0
        (λ j small.
        let low : first * L.size ≤ (first + k) * L.size = mul-le-mul_right L.size (omega arith) in
        let high = ends_before (first + k) (first + n) L.size (omega arith) in
        zeros_in t from to room none ((first + k) * L.size + j) (omega arith) (omega arith))

-- ---- records stepped

module _ {R : Type 0} (L : Layout R) (laid : LaidOut L) (step : ℕ → R → R) (keeps : (k : ℕ) (r : R) → Sound L r → Sound L (step k r)) where
  -- what the step makes of a record that lies there
  made : (t : List ℕ) (i k : ℕ) → Sound L (step k (L.at t i))
  made t i k = keeps k (L.at t i) (read_sound L laid t i)

  module _ (first : ℕ) (t : List ℕ) where
    -- the table with n of its records stepped
    abbrev after : ℕ → List ℕ
    after n = step_each L step first n t

    pub each-length : (n : ℕ) → length (after n) ≡ length t
    unfolding step_each
    each-length zero = refl
    each-length (suc n) = length-put L (after n) (first + n) (step n (L.at (after n) (first + n))) ∙ each-length n

    pub each_other : (n j : ℕ) → ((k : ℕ) → k < n → first + k ≡ j → ⊥) → L.at (after n) j ≡ L.at t j
    unfolding step_each
    each_other zero j ne = refl
    each_other (suc n) j ne =
        put_other L laid (after n) (first + n) j _ (made (after n) (first + n) n) (ne n (omega arith))
        ∙ each_other n j (λ k hk. ne k (omega arith))

    pub each_at : (n k : ℕ) → k < n → (first + n) * L.size ≤ length t → L.at (after n) (first + k) ≡ step k (L.at t (first + k))
    unfolding step_each
    each_at zero k lt room = absurd (not-suc-le-zero lt)
    each_at (suc n) k lt room =
        let low : (first + n) * L.size + L.size ≤ (first + suc n) * L.size = ends_before (first + n) (first + suc n) L.size (omega arith) in
        go (omega arith) (dec_lt k n) (λ h. each_at n k h (omega arith))
      where
        go : (first + n) * L.size + L.size ≤ length t → Dec (k < n) → (k < n → L.at (after n) (first + k) ≡ step k (L.at t (first + k)))
            → L.at (after (suc n)) (first + k) ≡ step k (L.at t (first + k))
        go low (yes below) ih = put_other L laid (after n) (first + n) (first + k) _ (made (after n) (first + n) n) (λ e. omega arith) ∙ ih below
        go low (no past) ih =
            let last : n ≡ k = omega arith in
            subst (λ (j : ℕ). L.at (after (suc n)) (first + j) ≡ step j (L.at t (first + j))) last
            (put_own L laid (after n) (first + n) _ (made (after n) (first + n) n) (omega (arith, each-length n))
            ∙ ap (step n) (each_other n (first + n) (λ j hj e. omega arith)))

    pub each_byte : (n x d : ℕ) → ((k : ℕ) → k < n → Apart L (first + k) x) → get_or (after n) x d ≡ get_or t x d
    unfolding step_each
    each_byte zero x d off = refl
    each_byte (suc n) x d off =
        byte_put_apart L _ (made (after n) (first + n) n) (after n) (first + n) x d (off n (omega arith)) ∙ each_byte n x d (λ k hk. off k (omega arith))

-- ---- a sum over numbers below another

pub sum-ext : (f g : ℕ → ℕ) (n : ℕ) → ((i : ℕ) → i < n → f i ≡ g i) → sum_below n f ≡ sum_below n g
unfolding sum_below
sum-ext f g zero e = refl
sum-ext f g (suc n) e = ap₂ ◌+◌ (sum-ext f g n (λ i h. e i (omega arith))) (e n (omega arith))

pub sum-none : (f : ℕ → ℕ) (n : ℕ) → ((i : ℕ) → i < n → f i ≡ 0) → sum_below n f ≡ 0
unfolding sum_below
sum-none f zero e = refl
sum-none f (suc n) e = rw (sum-none f n (λ i h. e i (omega arith)), e n (omega arith))

pub sum-at_most : (f : ℕ → ℕ) (n : ℕ) → ((i : ℕ) → f i ≤ 1) → sum_below n f ≤ n
unfolding sum_below
sum-at_most f zero small = omega arith
sum-at_most f (suc n) small = omega (arith, sum-at_most f n small, small n)

pub one_at_most : (b : Bool) → pick b 0 1 ≤ 1
one_at_most b = pick_both (λ (x : ℕ). x ≤ 1) b 0 1 (omega arith) (omega arith)

-- ---- the count of records that differ

module _ {R : Type 0} (L : Layout R) (value : R → ℕ) where
  pub differing_ext : (n : ℕ) (b t u : List ℕ) → ((i : ℕ) → i < n → value (L.at t i) ≡ value (L.at u i))
      → differing (value_at L value) n b t ≡ differing (value_at L value) n b u
  differing_ext n b t u e = sum-ext _ _ n (λ i h. ap (λ (x : ℕ). pick (eqb (value (L.at b i)) x) 0 1) (e i h))

  pub differing_before : (n : ℕ) (b c t : List ℕ) → ((i : ℕ) → i < n → value (L.at b i) ≡ value (L.at c i))
      → differing (value_at L value) n b t ≡ differing (value_at L value) n c t
  differing_before n b c t e = sum-ext _ _ n (λ i h. ap (λ (x : ℕ). pick (eqb x (value (L.at t i))) 0 1) (e i h))

  pub differing_none : (n : ℕ) (t : List ℕ) → differing (value_at L value) n t t ≡ 0
  differing_none n t = sum-none _ n (λ i h. ap (λ (b : Bool). pick b 0 1) (eq-eqb (value (L.at t i)) (value (L.at t i)) refl))

  pub differing_at_most : (n : ℕ) (b t : List ℕ) → differing (value_at L value) n b t ≤ n
  differing_at_most n b t = sum-at_most _ n (λ i. one_at_most (eqb (value (L.at b i)) (value (L.at t i))))

  module _ (laid : LaidOut L) where
    -- the last of n + 1 records put
    differing_last : (n : ℕ) (b t : List ℕ) (r : R) → Sound L r → n * L.size + L.size ≤ length t → L.at b n ≡ L.at t n
        → differing (value_at L value) (suc n) b (put_at L t n r) ≡ differing (value_at L value) (suc n) b t + pick (eqb (value (L.at t n)) (value r)) 0 1
    unfolding sum_below
    differing_last n b t r sound hl e =
        rw (
          differing_ext n b (put_at L t n r) t (λ i h. ap value (put_other L laid t n i r sound (λ q. omega arith))),
          put_own L laid t n r sound hl,
          e,
          eq-eqb (value (L.at t n)) (value (L.at t n)) refl,
        )
        (omega arith)

    pub differing_put : (n i : ℕ) (b t : List ℕ) (r : R) → Sound L r → i < n → i * L.size + L.size ≤ length t → L.at b i ≡ L.at t i
        → differing (value_at L value) n b (put_at L t i r) ≡ differing (value_at L value) n b t + pick (eqb (value (L.at t i)) (value r)) 0 1
    unfolding sum_below
    differing_put zero i b t r sound hi hl e = absurd (not-suc-le-zero hi)
    differing_put (suc n) i b t r sound hi hl e = go (dec_lt i n) (λ h. differing_put n i b t r sound h hl e)
      where
        go : Dec (i < n)
            → (i < n → differing (value_at L value) n b (put_at L t i r) ≡ differing (value_at L value) n b t + pick (eqb (value (L.at t i)) (value r)) 0 1)
            → differing (value_at L value) (suc n) b (put_at L t i r) ≡ differing (value_at L value) (suc n) b t + pick (eqb (value (L.at t i)) (value r)) 0 1
        go (yes h) ih = rw (ih h, put_other L laid t i n r sound (λ q. omega arith)) (omega arith)
        go (no h) ih =
            let last : n ≡ i = omega arith in
            subst (λ (k : ℕ). k * L.size + L.size ≤ length t → L.at b k ≡ L.at t k
            → differing (value_at L value) (suc n) b (put_at L t k r) ≡ differing (value_at L value) (suc n) b t + pick (eqb (value (L.at t k)) (value r)) 0 1)
            last (differing_last n b t r sound) hl e

-- a value that is another's is counted as that one
pub differing_as : (value worth : List ℕ → ℕ → ℕ) → ((t : List ℕ) (i : ℕ) → value t i ≡ worth t i) → (n : ℕ) (b t : List ℕ)
    → differing value n b t ≡ differing worth n b t
differing_as value worth same n b t = sum-ext _ _ n (λ i h. ap₂ (λ (x y : ℕ). pick (eqb x y) 0 1) (same b i) (same t i))

-- ---- one record stepped

pub stepped_length : {R : Type 0} (L : Layout R) (value : R → ℕ) (step : R → R) (i : ℕ) (b t : List ℕ) (answer : ℕ)
    → Stepped L value step i b t answer → length t ≡ length b
stepped_length L value step i b t answer new = ap length new.table ∙ length-put L b i (step (L.at b i))

-- ---- a loop that steps records and counts

-- after n of `most` turns from a place on: the records passed are stepped, and the count is that of the values changed among the first `all`
pub record Turn {R : Type 0} (L : Layout R) (value : R → ℕ) (step : ℕ → R → R) (first most all : ℕ) (b t : List ℕ) (count n : ℕ) : Type 0 where
  pub room : n ≤ most
  pub table : t ≡ step_each L step first n b
  pub counted : count ≡ differing (value_at L value) all b t
  pub few : count ≤ n

module _ {R : Type 0} (L : Layout R) (laid : LaidOut L) (value : R → ℕ) (step : ℕ → R → R) (keeps : (k : ℕ) (r : R) → Sound L r → Sound L (step k r))
    (first most all : ℕ) (b : List ℕ) where
  pub turn_first : Turn L value step first most all b b 0 0
  unfolding step_each
  turn_first = record { room = omega arith; table = refl; counted = sym (differing_none L value all b); few = omega arith }

  module _ (t : List ℕ) (count n : ℕ) (old : Turn L value step first most all b t count n) where
    pub turn_length : length t ≡ length b
    turn_length = ap length old.table ∙ each-length L laid step keeps first b n

    pub turn_last : most ≤ n → (t ≡ step_each L step first most b) × (count ≡ differing (value_at L value) all b t)
    turn_last done =
        let end : n ≡ most = omega (arith, old.room) in
        (old.table ∙ ap (λ (k : ℕ). step_each L step first k b) end, old.counted)

    pub turn_next_lem : (u : List ℕ) (answer : ℕ) → n < most → first + n < all → (first + n) * L.size + L.size ≤ length b
        → Stepped L value (step n) (first + n) t u answer → Turn L value step first most all b u (count + answer) (n + 1)
    unfolding step_each
    turn_next_lem u answer more low room new =
        let i = first + n in
        let fits : i * L.size + L.size ≤ length t = omega (arith, turn_length) in
        let ahead : L.at b i ≡ L.at t i =
        sym (ap (λ (l : List ℕ). L.at l i) old.table ∙ each_other L laid step keeps first b n i (λ k hk e. omega arith)) in
        let total : differing (value_at L value) all b u
        ≡ differing (value_at L value) all b t + pick (eqb (value (L.at t i)) (value (step n (L.at t i)))) 0 1 =
        ap (λ (l : List ℕ). differing (value_at L value) all b l) new.table
        ∙ differing_put L value laid all i b t (step n (L.at t i)) (keeps n (L.at t i) (read_sound L laid t i)) low fits ahead in
        record {
          room = omega arith;
          table = new.table ∙ rw (add-one, ← old.table);
          counted = sym (total ∙ ap₂ ◌+◌ (sym old.counted) (sym new.count));
          few = omega (arith, old.few, new.small);
        }
