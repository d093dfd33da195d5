-- Records of one size that lie in lent bytes, one after the other: the modules of a table, the shutters of another. What holds of a record that is put, read
-- and left is stated here once, over its size: proofs/Records.antt.
use Rattle.std.specs.Prelude.{ℕ, zero, suc, ◌+◌, ◌*◌, ◌≤◌, ◌<◌, ◌≡◌, Bool, true, ◌&&◌, List, [], ◌∷◌, ◌++◌, eqb, length, get_or, drop}
use Rattle.std.proofs.lemmas.List.Edits.{sets}
use Rattle.ground.specs.Choice.{pick}

-- n bytes from place at + k on, with 0 beyond the end: at a numeral k and n it is written out
abbrev pub bytes_at : List ℕ → ℕ → ℕ → ℕ → List ℕ
bytes_at t at k zero = []
bytes_at t at k (suc n) = get_or t (at + k) 0 ∷ bytes_at t at (suc k) n

-- bytes at a lent buffer's front; "bytes beyond stay"
abbrev pub front : List ℕ → List ℕ → List ℕ
front bytes buf = bytes ++ drop (length bytes) buf

-- how the records of a kind lie: the size of one in bytes, the record at place i, and the bytes of a record
pub record Layout (R : Type 0) : Type 0 where
  pub size : ℕ
  pub at : List ℕ → ℕ → R
  pub bytes : R → List ℕ

-- a record put at place i
abbrev pub put_at : {R : Type 0} → Layout R → List ℕ → ℕ → R → List ℕ
put_at L t i r = sets t (i * L.size) (L.bytes r)

-- n records from a place on, each made into what `step` makes of it; `step` is told how many of them come before it
unfoldable pub step_each : {R : Type 0} → Layout R → (ℕ → R → R) → ℕ → ℕ → List ℕ → List ℕ
step_each L step first zero t = t
step_each L step first (suc n) t =
    let s = step_each L step first n t in
    put_at L s (first + n) (step n (L.at s (first + n)))

-- the record at place i is made into what `step` makes of it, and the answer is 1 where its value has changed
pub record Stepped {R : Type 0} (L : Layout R) (value : R → ℕ) (step : R → R) (i : ℕ) (before after : List ℕ) (answer : ℕ) : Type 0 where
  pub table : after ≡ put_at L before i (step (L.at before i))
  pub count : answer ≡ pick (eqb (value (L.at before i)) (value (step (L.at before i)))) 0 1
  pub small : answer ≤ 1

-- a test at every number below n
unfoldable pub all_below : ℕ → (ℕ → Bool) → Bool
all_below zero f = true
all_below (suc n) f = all_below n f && f n

-- every byte of a list is 0
abbrev pub zeros : List ℕ → Bool
zeros t = all_below (length t) (λ k. eqb (get_or t k 0) 0)

-- a test of each of n records from a place on
abbrev pub each_ok : {R : Type 0} → Layout R → (R → Bool) → ℕ → ℕ → List ℕ → Bool
each_ok L ok first n t = all_below n (λ k. ok (L.at t (first + k)))

-- the sum of what each number below n gives
unfoldable pub sum_below : ℕ → (ℕ → ℕ) → ℕ
sum_below zero f = 0
sum_below (suc n) f = sum_below n f + f n

-- how many of the first n records have another value after than before; a value is read from the bytes and the record's place
abbrev pub differing : (List ℕ → ℕ → ℕ) → ℕ → List ℕ → List ℕ → ℕ
differing value n before after = sum_below n (λ i. pick (eqb (value before i) (value after i)) 0 1)

-- such a value, of the record that lies there
abbrev pub value_at : {R : Type 0} → Layout R → (R → ℕ) → List ℕ → ℕ → ℕ
value_at L value t i = value (L.at t i)

-- ---- what holds of them

-- what makes it a layout: a record that lies there has its size, its bytes are those that lie there, and it is made of them alone
pub record LaidOut {R : Type 0} (L : Layout R) : Type 0 where
  pub sized : (t : List ℕ) (i : ℕ) → length (L.bytes (L.at t i)) ≡ L.size
  pub byte : (t : List ℕ) (i k : ℕ) → k < L.size → get_or t (i * L.size + k) 0 ≡ get_or (L.bytes (L.at t i)) k 0
  pub same : (t u : List ℕ) (i j : ℕ) → ((k : ℕ) → k < L.size → get_or t (i * L.size + k) 0 ≡ get_or u (j * L.size + k) 0)
      → L.at t i ≡ L.at u j

-- a record that has its size and is read back from its own bytes
pub record Sound {R : Type 0} (L : Layout R) (r : R) : Type 0 where
  pub size : length (L.bytes r) ≡ L.size
  pub back : L.at (L.bytes r) 0 ≡ r

-- of every layout: a record put
pub record RecordsLieApart {R : Type 0} (L : Layout R) : Type 0 where
  -- leaves the length,
  pub length-put : (t : List ℕ) (i : ℕ) (r : R) → length (put_at L t i r) ≡ length t
  -- is read back,
  pub read_back : (t : List ℕ) (i : ℕ) (r : R) → Sound L r → i * L.size + L.size ≤ length t → L.at (put_at L t i r) i ≡ r
  -- leaves every other record,
  pub apart : (t : List ℕ) (i j : ℕ) (r : R) → Sound L r → (i ≡ j → ⊥) → L.at (put_at L t i r) j ≡ L.at t j
  -- and may be put before or after another
  pub commute : (t : List ℕ) (i j : ℕ) (r s : R) → Sound L r → Sound L s → (i ≡ j → ⊥)
      → put_at L (put_at L t i r) j s ≡ put_at L (put_at L t j s) i r
  -- what is read is sound
  pub read : (t : List ℕ) (i : ℕ) → Sound L (L.at t i)
  -- tables of n records and no other bytes that are equal record by record are equal
  pub extensional : (t u : List ℕ) (n : ℕ) → length t ≡ n * L.size → length u ≡ length t
      → ((i : ℕ) → i < n → L.at t i ≡ L.at u i) → t ≡ u

abbrev pub LentRecords : Type 1
LentRecords = (R : Type 0) (L : Layout R) → LaidOut L → RecordsLieApart L
