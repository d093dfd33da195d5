-- An address changes no level and no opening, so a count over an address and a function is the function's.
--
--     address_levels      the levels after an address
--     address_shutters    the shutters after it
--     address_counts      what differs from the room before it differs from the room after it
use Rattle.std.specs.Prelude.{Result, Ok, Err}
use mathlib.Core.Path.{◌≡◌, refl, sym, ap, ap₂, subst}
use mathlib.Core.Bool.{Bool, true, false, true≢false}
use Prim.Native.Nat.{ℕ, ◌/◌, ◌%◌, ◌<◌}
use lib.Dec.{eqb}
use Rattle.ground.proofs.Choices.{pick_both}
use Rattle.ground.proofs.Records.{differing_before}
use Rattle.message.specs.declared.Message.TheVariants.{Address as Calls}
use Rattle.plan.specs.declared.Act.TheVariants.{Address}
use Rattle.plan.specs.declared.Plan.{Plan}
use Rattle.plan.specs.declared.Plan.TheVariants.{Run, Move}
use Rattle.record.specs.Layout.{RECORDS, UNITS, record_at, house_at, present, modules}
use Rattle.record.specs.ModuleTable.{acted, step_record, level_of}
use Rattle.record.specs.declared.Record.{Record}
use Rattle.record.specs.declared.House.{House}
use Rattle.module_table.proofs.HouseLaws.{run_record}
use Rattle.shutter_table.specs.ShutterTable.{openings_changed}
use Rattle.room.specs.Rooms.{Room, changes, room_after}
use Rattle.room.proofs.ApplyLaws.{Outcome, stays, did, moved, outcome, modules_size}
use Rattle.ground.specs.declared.Refusal.{Refusal}

-- the act of a plan leaves each level
abbrev Keeps : Result Plan Refusal → Type 0
Keeps (Ok (Run a)) = (own : House) (n : ℕ) (r : Record) → (step_record a own n r).level ≡ r.level
Keeps (Ok (Move a)) = Unit {0}
Keeps (Err why) = Unit {0}

address_keeps : (u : ℕ) → Keeps (Ok (Run (Address u)))
unfolding step_record
address_keeps u own n r = pick_both (λ (s : Record). s.level ≡ r.level) (present r) (acted (Address u) own n r) r refl refl

pub address_levels : (h u : ℕ) (room : Room) (i : ℕ) → i < RECORDS
    → (record_at (room_after (Calls h u) room).modules i).level ≡ (record_at room.modules i).level
address_levels h u room i below = go (outcome (Calls h u) room)
  where
    go : Outcome (Calls h u) room → (record_at (room_after (Calls h u) room).modules i).level ≡ (record_at room.modules i).level
    go (stays why e same) = ap (λ (x : Room). (record_at x.modules i).level) same
    go (did a r) =
        let t = room.modules in
        let keeps : Keeps (Ok (Run a)) = subst Keeps r.plan (address_keeps u) in
        rw (r.left, run_record a h t i below (modules_size room r.ok))
        (pick_both (λ (x : Record). x.level ≡ (record_at t i).level) (eqb (i / UNITS) h) _ _ (keeps (house_at t h) (i % UNITS) (record_at t i)) refl)
    go (moved a r) = rw r.left

pub address_shutters : (h u : ℕ) (room : Room) → (room_after (Calls h u) room).shutters ≡ room.shutters
address_shutters h u room = go (outcome (Calls h u) room)
  where
    asks_motion : Result Plan Refusal → Bool
    asks_motion (Ok (Run a)) = false
    asks_motion (Ok (Move a)) = true
    asks_motion (Err why) = false

    go : Outcome (Calls h u) room → (room_after (Calls h u) room).shutters ≡ room.shutters
    go (stays why e same) = ap (λ (x : Room). x.shutters) same
    go (did a r) = rw r.left
    go (moved a r) = absurd (true≢false (sym (ap asks_motion r.plan)))

pub address_counts : (h u : ℕ) (room after : Room) → changes (room_after (Calls h u) room) after ≡ changes room after
address_counts h u room after =
    ap₂ (λ (x y : ℕ). record { levels = x; openings = y })
    (differing_before modules level_of RECORDS (room_after (Calls h u) room).modules room.modules after.modules (address_levels h u room))
    (ap (λ s. openings_changed s after.shutters) (address_shutters h u room))
