-- The lit bytes of a room: the statements of specs/Lit.antt.
--
--     lit_stays_true, own_lit_only     LitStaysTrue, OwnLitOnly
--     all_off_all_on                   AllOffAllOn
use Rattle.std.specs.Prelude.{Ok}
use mathlib.Core.Path.{◌≡◌, refl, ap, ◌∙◌}
use mathlib.Core.Bool.{Bool, true, false, ◌&&◌}
use Prim.Native.Nat.{ℕ, ◌+◌, ◌*◌, ◌/◌, ◌<◌}
use native.Mathlib.Omega.{arith}
use borrow.Author.Tests.{eqb-true, ne_eqb, le-leb}
use lib.Dec.{eqb, leb}
use Rattle.ground.specs.Choice.{pick}
use Rattle.ground.specs.Records.{sum_below}
use Rattle.ground.proofs.Choices.{pick_both}
use Rattle.ground.proofs.Records.{below_at, sum-ext}
use Rattle.message.specs.declared.Function.TheVariants.{AllUnitsOff}
use Rattle.message.specs.declared.Message.{Message}
use Rattle.message.specs.declared.Message.TheVariants.{Function as Command, Extended}
use Rattle.plan.specs.Plans.{house_of, extended_plan}
use Rattle.plan.specs.declared.Act.{Act}
use Rattle.record.specs.declared.House.{House}
use Rattle.record.specs.declared.Record.{Record}
use Rattle.record.specs.Layout.{RECORD_BYTES, UNITS, HOUSES, RECORDS, HEARD_AT, LIT_AT, record_at, lit_byte, present}
use Rattle.record.specs.ModuleTable.{all_zeros, record_ok, lit_of, acted, step_record}
use Rattle.record.proofs.RecordLaws.{good}
use Rattle.module_table.proofs.HouseLaws.{whole}
use Rattle.lit.specs.Lit.{lit_answer}
use Rattle.lit.proofs.LitLaws.{lit_is_the_count, that_byte_alone}
use Rattle.room.specs.Rooms.{Room, room_ok, room_after}
use Rattle.room.specs.Routes.{room_after_all}
use Rattle.room.proofs.ApplyLaws.{valid_parts, valid_stays, house_below, Outcome, stays, did, moved, outcome}
use Rattle.room_laws.specs.Statements.{own_byte}
use Rattle.room_laws.specs.Lit.{LitStaysTrue, OwnLitOnly, AllOffAllOn}
use Rattle.room_laws.proofs.Theorems.{own_house_only}
use Rattle.room_laws.proofs.Carried.{all_stay}
use Rattle.room_laws.proofs.Press.{done}

pub lit_stays_true : LitStaysTrue
lit_stays_true ms room ok h house =
    lit_is_the_count h (room_after_all ms room).modules house (valid_parts (room_after_all ms room) (all_stay ms room ok)).modules_valid_lem

-- the lit byte of one house is none of another's own bytes
not_own : (h g : ℕ) → h < HOUSES → g < HOUSES → (g ≡ h → ⊥) → own_byte h (LIT_AT + g) ≡ false
not_own h g house there other =
    rw (
      ne_eqb ((LIT_AT + g) / (UNITS * RECORD_BYTES)) h (λ e. omega arith),
      ne_eqb (LIT_AT + g) (HEARD_AT + h) (λ e. omega arith),
      ne_eqb (LIT_AT + g) (LIT_AT + h) (λ e. other (omega arith)),
    )

pub own_lit_only : OwnLitOnly
own_lit_only m room g there other =
    let byte = go (outcome m room) in
    record { byte = byte; answer = that_byte_alone g (room_after m room).modules room.modules (own_house_only m room).modules_as_long byte }
  where
    go : Outcome m room → lit_byte (room_after m room).modules g ≡ lit_byte room.modules g
    go (stays why e same) = rw same
    go (did a r) = (own_house_only m room).modules (LIT_AT + g) (not_own (house_of m) g (house_below m r.message) there other)
    go (moved a r) = rw r.left

-- ---- all off, all on

-- a record with no module is at level 0
absent_dark : (r : Record) → record_ok r ≡ true → present r ≡ false → r.level ≡ 0
absent_dark r ok gone =
    let zeros : all_zeros r ≡ true = rw gone at (good r ok).zeros in
    eqb-true r.level 0 (first (eqb r.level 0) (eqb r.addressed 0) (eqb r.groups.mask 0) _ zeros)
  where
    first : (a b c d : Bool) → (a && b && c && d) ≡ true → a ≡ true
    first true b c d all = refl
    first false b c d all = all

-- an act that leaves a module counted as x: so it counts where a module is, and 0 where none is
lit_step : (a : Act) (own : House) (n x : ℕ) (r : Record) → lit_of (acted a own n r) ≡ x → record_ok r ≡ true
    → lit_of (step_record a own n r) ≡ pick (present r) x 0
unfolding step_record
lit_step a own n x r so ok = go (present r) refl
  where
    go : (b : Bool) → present r ≡ b → lit_of (step_record a own n r) ≡ pick (present r) x 0
    go true here = rw here so
    go false gone = rw (gone, absent_dark r ok gone)

module _ (h : ℕ) (room : Room) (house : h < HOUSES) (ok : room_ok room ≡ true) where
  -- each record of the house keeps the rules
  pub kept : (n : ℕ) → n < UNITS → record_ok (record_at room.modules (h * UNITS + n)) ≡ true
  kept n below =
      below_at (λ i. record_ok (record_at room.modules i)) RECORDS (whole room.modules (valid_parts room ok).modules_valid_lem).records
      (h * UNITS + n) (omega arith)

  -- what is answered after a message, by what each record adds
  answered : (m : Message) (f : ℕ → ℕ) → ((n : ℕ) → n < UNITS → lit_of (record_at (room_after m room).modules (h * UNITS + n)) ≡ f n)
      → lit_answer h (room_after m room).modules ≡ Ok (sum_below UNITS f)
  answered m f each =
      lit_is_the_count h (room_after m room).modules house (valid_parts (room_after m room) (valid_stays m room ok)).modules_valid_lem
      ∙ ap Ok (sum-ext (λ n. lit_of (record_at (room_after m room).modules (h * UNITS + n))) f UNITS each)

pub all_off_all_on : AllOffAllOn
unfolding extended_plan sum_below
all_off_all_on h room house ok =
    let low : leb h 15 ≡ true = le-leb h 15 (omega arith) in
    record {
      all_off = answered h room house ok (Command h AllUnitsOff) (λ n. 0)
          (λ n below. ap lit_of ((done (Command h AllUnitsOff) room ok low refl refl).records n below) ∙ lit_step _ _ n 0 _ refl (kept h room house ok n below)
          ∙ pick_both (λ (x : ℕ). x ≡ 0) (present (record_at room.modules (h * UNITS + n))) 0 0 refl refl);
      all_on = λ u d unit byte.
          answered h room house ok (Extended h u d 0x33) _
          (λ n below.
          ap lit_of ((done (Extended h u d 0x33) room ok (rw (low, le-leb u 15 unit, le-leb d 255 byte)) refl refl).records n below)
          ∙ lit_step _ _ n 1 _ refl (kept h room house ok n below));
    }
