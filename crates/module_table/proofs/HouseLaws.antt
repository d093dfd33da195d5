-- Laws of a house's records stepped and of an act run, record by record and byte by byte.
--
--     length-step, step_own, step_other, step_byte    a house's records stepped, by ground's laws: the length, a record of the house and another,
--                                                     a byte that is not the house's
--     step_house_at                                   houses' own bytes after the steps
--     run_length, run_record, run-byte                the same after an act is run
--     run_house, run_house_other, run_lit_other       houses' own bytes after it, and another house's lit modules
--     Whole, whole                                    the three parts of a valid table
--     run_stays_valid                                 a valid table stays valid
use mathlib.Core.Path.{◌≡◌, refl, sym, ap, ap₂, subst, ◌∙◌}
use mathlib.Core.Bool.{Bool, true, false, ◌&&◌, and-eq-true_iff}
use mathlib.Core.List.{List}
use mathlib.Core.Logic.{inl, inr}
use Prim.Native.Nat.{ℕ, ◌+◌, ◌*◌, ◌/◌, ◌%◌, ◌≤◌, ◌<◌}
use native.Mathlib.Omega.{arith}
use native.Mathlib.Decide.{dec_lt, ℕ_discrete}
use borrow.Author.Tests.{eqb-true, eqb-false, ne_eqb}
use lib.Dec.{eqb}
use lib.ListN.{length, get_or}
use Rattle.ground.specs.Choice.{pick}
use Rattle.ground.specs.Records.{step_each}
use Rattle.ground.proofs.Choices.{pick_both}
use Rattle.ground.proofs.Records.{Apart, each-length, each_other, each_at, each_byte, below_at, below_all}
use Rattle.plan.specs.declared.Act.{Act}
use Rattle.record.specs.declared.House.{House}
use Rattle.record.specs.Layout.{RECORD_BYTES, UNITS, HOUSES, RECORDS, HEARD_AT, LIT_AT, TABLE_BYTES, record_at, modules, house_at}
use Rattle.record.specs.ModuleTable.{record_ok, lit_in, house_ok, records_ok, houses_ok, table_ok, step_record, house_after, run_act}
use Rattle.record.proofs.RecordLaws.{record_stays_valid, house_stays_valid}
use Rattle.module_table.proofs.TableLaws.{modules_laid, read_four, step_keeps, length-put_house, byte_put_house, record_put_house}
use Rattle.module_table.proofs.TableLaws.{house_put_own, house_put_other, lit_ext, lit_put_house}

-- ---- a house's records stepped

module _ (a : Act) (own : House) (h : ℕ) (t : List ℕ) where
  -- the table with the sixteen records of the house stepped
  abbrev pub stepped : List ℕ
  stepped = step_each modules (step_record a own) (h * UNITS) UNITS t

  pub length-step : length stepped ≡ length t
  length-step = each-length modules modules_laid (step_record a own) (step_keeps a own) (h * UNITS) t UNITS

  pub step_own : (k : ℕ) → k < UNITS → h < HOUSES → length t ≡ TABLE_BYTES
      → record_at stepped (h * UNITS + k) ≡ step_record a own k (record_at t (h * UNITS + k))
  step_own k below house size = each_at modules modules_laid (step_record a own) (step_keeps a own) (h * UNITS) t UNITS k below (omega arith)

  pub step_other : (j : ℕ) → (j / UNITS ≡ h → ⊥) → record_at stepped j ≡ record_at t j
  step_other j other = each_other modules modules_laid (step_record a own) (step_keeps a own) (h * UNITS) t UNITS j (λ k hk e. other (omega arith))

  pub step_byte : (j : ℕ) → (j / (UNITS * RECORD_BYTES) ≡ h → ⊥) → get_or stepped j 0 ≡ get_or t j 0
  step_byte j other =
      each_byte modules modules_laid (step_record a own) (step_keeps a own) (h * UNITS) t UNITS j 0
      (λ k hk. go k hk (dec_lt j ((h * UNITS + k) * RECORD_BYTES)))
    where
      go : (k : ℕ) → k < UNITS → Dec (j < (h * UNITS + k) * RECORD_BYTES) → Apart modules (h * UNITS + k) j
      go k hk (yes before) = inl before
      go k hk (no behind) = inr (let low : h * 192 ≤ j = omega arith in let other' : j / 192 ≡ h → ⊥ = other in omega arith)

  -- a byte behind the records
  step_behind : (j : ℕ) → h < HOUSES → HEARD_AT ≤ j → get_or stepped j 0 ≡ get_or t j 0
  step_behind j house behind =
      each_byte modules modules_laid (step_record a own) (step_keeps a own) (h * UNITS) t UNITS j 0 (λ k hk. inr (omega arith))

  pub step_house_at : (g : ℕ) → h < HOUSES → house_at stepped g ≡ house_at t g
  unfolding house_at
  step_house_at g house =
      ap₂ (λ (x y : ℕ). record { heard = x; lit = y }) (step_behind (HEARD_AT + g) house (omega arith)) (step_behind (LIT_AT + g) house (omega arith))

-- ---- an act run

module _ (a : Act) (h : ℕ) (t : List ℕ) where
  -- the house's own bytes before, and the table with its records stepped by them
  abbrev own : House
  own = house_at t h

  abbrev after : List ℕ
  after = stepped a own h t

  -- and its own bytes after
  abbrev next : House
  next = house_after a (lit_in after h) own

  pub run_length : length (run_act a h t) ≡ length t
  unfolding run_act
  run_length = length-put_house after h next ∙ length-step a own h t

  -- the record of each place, of the house and of another
  pub run_record : (i : ℕ) → i < RECORDS → length t ≡ TABLE_BYTES
      → record_at (run_act a h t) i ≡ pick (eqb (i / UNITS) h) (step_record a (house_at t h) (i % UNITS) (record_at t i)) (record_at t i)
  unfolding run_act
  run_record i below size = record_put_house after i h next below ∙ go (eqb (i / UNITS) h) refl
    where
      go : (b : Bool) → eqb (i / UNITS) h ≡ b → record_at after i ≡ pick b (step_record a own (i % UNITS) (record_at t i)) (record_at t i)
      go true e =
          let ours : i / UNITS ≡ h = eqb-true (i / UNITS) h e in
          let place : h * UNITS + i % UNITS ≡ i = omega arith in
          subst (λ (j : ℕ). record_at after j ≡ step_record a own (i % UNITS) (record_at t j)) place
          (step_own a own h t (i % UNITS) (omega arith) (omega arith) size)
      go false e = step_other a own h t i (eqb-false (i / UNITS) h e)

  -- a byte that is not the house's
  pub run-byte : (k : ℕ) → (k / (UNITS * RECORD_BYTES) ≡ h → ⊥) → (k ≡ HEARD_AT + h → ⊥) → (k ≡ LIT_AT + h → ⊥) → get_or (run_act a h t) k 0 ≡ get_or t k 0
  unfolding run_act
  run-byte k other heard lit = byte_put_house after h k next heard lit ∙ step_byte a own h t k other

  module _ (house : h < HOUSES) where
    -- the number of lit modules, by the records that are left
    run_lit_own : lit_in after h ≡ lit_in (run_act a h t) h
    unfolding run_act
    run_lit_own = sym (lit_put_house after h h next house)

    -- the house's own bytes, and another house's
    own_bytes : length t ≡ TABLE_BYTES → house_at (run_act a h t) h ≡ next
    unfolding run_act
    own_bytes size = house_put_own after h next house (length-step a own h t ∙ size)

    pub run_house : length t ≡ TABLE_BYTES → house_at (run_act a h t) h ≡ house_after a (lit_in (run_act a h t) h) (house_at t h)
    run_house size = own_bytes size ∙ ap (λ (n : ℕ). house_after a n own) run_lit_own

    pub run_house_other : (g : ℕ) → g < HOUSES → (g ≡ h → ⊥) → house_at (run_act a h t) g ≡ house_at t g
    unfolding run_act
    run_house_other g there other = house_put_other after h g next house there other ∙ step_house_at a own h t g house

    -- and its lit modules
    pub run_lit_other : (g : ℕ) → g < HOUSES → length t ≡ TABLE_BYTES → (g ≡ h → ⊥) → lit_in (run_act a h t) g ≡ lit_in t g
    run_lit_other g there size other =
        lit_ext (run_act a h t) t g UNITS
        (λ k below.
        let i = g * UNITS + k in
        let far : eqb (i / UNITS) h ≡ false = ne_eqb (i / UNITS) h (λ e. other (omega arith)) in
        run_record i (omega arith) size ∙ rw far)

-- ---- a valid table

pub record Whole (t : List ℕ) : Type 0 where
  pub long : eqb (length t) TABLE_BYTES ≡ true
  pub size : length t ≡ TABLE_BYTES
  pub records : records_ok RECORDS t ≡ true
  pub houses : houses_ok HOUSES t ≡ true

pub whole : (t : List ℕ) → table_ok t ≡ true → Whole t
unfolding table_ok
whole t e =
    let p = (and-eq-true_iff (eqb (length t) TABLE_BYTES && records_ok RECORDS t) (houses_ok HOUSES t)).0 e in
    let q = (and-eq-true_iff (eqb (length t) TABLE_BYTES) (records_ok RECORDS t)).0 p.0 in
    record { long = q.0; size = eqb-true (length t) TABLE_BYTES q.0; records = q.1; houses = p.1 }

module _ (a : Act) (h : ℕ) (t : List ℕ) (house : h < HOUSES) (ok : table_ok t ≡ true) where
  records_stay : (i : ℕ) → i < RECORDS → record_ok (record_at (run_act a h t) i) ≡ true
  records_stay i below =
      let before = below_at (λ k. record_ok (record_at t k)) RECORDS (whole t ok).records i below in
      rw (run_record a h t i below (whole t ok).size)
      (pick_both (λ r. record_ok r ≡ true) (eqb (i / UNITS) h) _ _ (record_stays_valid a (house_at t h) (i % UNITS) (record_at t i) (read_four t i) before) before)

  houses_stay : (g : ℕ) → g < HOUSES → house_ok (lit_in (run_act a h t) g) (house_at (run_act a h t) g) ≡ true
  houses_stay g below = go (ℕ_discrete g h)
    where
      before : (k : ℕ) → k < HOUSES → house_ok (lit_in t k) (house_at t k) ≡ true
      before = below_at (λ k. house_ok (lit_in t k) (house_at t k)) HOUSES (whole t ok).houses

      go : Dec (g ≡ h) → house_ok (lit_in (run_act a h t) g) (house_at (run_act a h t) g) ≡ true
      go (yes same) =
          rw (same, run_house a h t house (whole t ok).size)
          (house_stays_valid a (house_at t h) (lit_in t h) (lit_in (run_act a h t) h) (before h house))
      go (no other) = rw (run_house_other a h t house g below other, run_lit_other a h t house g below (whole t ok).size other) (before g below)

  pub run_stays_valid : table_ok (run_act a h t) ≡ true
  unfolding table_ok
  run_stays_valid =
      rw (
        run_length a h t,
        (whole t ok).long,
        below_all (λ i. record_ok (record_at (run_act a h t) i)) RECORDS records_stay,
        below_all (λ g. house_ok (lit_in (run_act a h t) g) (house_at (run_act a h t) g)) HOUSES houses_stay,
      )
