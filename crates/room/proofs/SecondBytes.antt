-- The second byte of each record of a table, kept in a list, and compared with those of a table after it.
--
--     SecondBytesOf, second_bytes_next  the second bytes of a table's first records
--     second_within                     where such a byte lies
--     changed_next                      one more record compared with the byte kept of it
--     levels_are, openings_are          of modules they are the levels, of shutters the openings
use mathlib.Core.Path.{◌≡◌, refl, sym, ap, ap₂, subst, ◌∙◌}
use mathlib.Core.List.{List}
use Prim.Native.Nat.{ℕ, ◌+◌, ◌*◌, ◌≤◌, ◌<◌}
use native.Mathlib.Numerals.{add-one}
use native.Mathlib.Decide.{ℕ_discrete}
use native.Mathlib.Omega.{arith}
use lib.Dec.{eqb}
use lib.ListN.{length, get_or, set}
use lib.Seq.{get_or-set_same, get_or-set_other}
use Rattle.ground.specs.Choice.{pick}
use Rattle.ground.specs.Records.{sum_below, differing, value_at}
use Rattle.ground.proofs.Records.{ends_before, differing_as}
use Rattle.record.specs.Layout.{RECORDS, RECORD_BYTES, record_at, modules}
use Rattle.record.specs.ModuleTable.{level_of, changed}
use Rattle.shutter_table.specs.ShutterTable.{SHUTTER_BYTES, shutter_at, shutters, opening_of, openings_changed}
use Rattle.room.specs.Lent.{second_byte}

module _ (size : ℕ) where
  abbrev pub SecondBytesOf : ℕ → List ℕ → List ℕ → Type 0
  SecondBytesOf n t kept = (k : ℕ) → k < n → get_or kept k 0 ≡ second_byte size t k

  pub second_within : (t : List ℕ) (i : ℕ) → RECORDS * size ≤ length t → 2 ≤ size → i < RECORDS → i * size + 1 < length t
  second_within t i room two below = let up = ends_before i RECORDS size below in omega arith

  pub second_bytes_next : (t kept : List ℕ) (i : ℕ) → i < length kept → SecondBytesOf i t kept
      → SecondBytesOf (i + 1) t (set kept i (get_or t (i * size + 1) 0))
  second_bytes_next t kept i within old k h = go (ℕ_discrete k i)
    where
      x : ℕ
      x = get_or t (i * size + 1) 0

      go : Dec (k ≡ i) → get_or (set kept i x) k 0 ≡ get_or t (k * size + 1) 0
      go (yes e) = subst (λ (n : ℕ). get_or (set kept i x) n 0 ≡ get_or t (n * size + 1) 0) (sym e) (get_or-set_same kept i x 0 within)
      go (no ne) = get_or-set_other kept i k x 0 ne ∙ old k (omega arith)

  pub changed_next : (before t kept : List ℕ) (i count more : ℕ) → SecondBytesOf RECORDS before kept → i < RECORDS
      → count ≡ differing (second_byte size) i before t → more ≡ pick (eqb (get_or kept i 0) (get_or t (i * size + 1) 0)) 0 1
      → count + more ≡ differing (second_byte size) (i + 1) before t
  unfolding sum_below
  changed_next before t kept i count more old h e d =
      rw (add-one i) (ap₂ (λ (a b : ℕ). a + b) e (d ∙ ap (λ (x : ℕ). pick (eqb x (get_or t (i * size + 1) 0)) 0 1) (old i h)))

pub levels_are : (before after : List ℕ) → differing (second_byte RECORD_BYTES) RECORDS before after ≡ changed before after
unfolding record_at
levels_are before after = differing_as (second_byte RECORD_BYTES) (value_at modules level_of) (λ t i. refl) RECORDS before after

pub openings_are : (before after : List ℕ) → differing (second_byte SHUTTER_BYTES) RECORDS before after ≡ openings_changed before after
unfolding shutter_at
openings_are before after = differing_as (second_byte SHUTTER_BYTES) (value_at shutters opening_of) (λ t i. refl) RECORDS before after
