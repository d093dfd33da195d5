-- A message applied to a room (01, 'The module table', 'Numbers given back'; 02, A1): why it is refused, what is answered, and what is left.
use Rattle.std.specs.Prelude.{ℕ, ◌+◌, ◌*◌, ◌%◌, ◌^◌, Bool, ◌&&◌, List, [], ◌∷◌, eqb, length, Result, Ok, Err}
use Rattle.ground.specs.Refusals.{Cause, unless, judged, Report, reports, refuses}
use Rattle.ground.specs.declared.Refusal.TheVariants as refusal
use Rattle.message.specs.Messages.{message_ok}
use Rattle.message.specs.declared.Message.{Message}
use Rattle.plan.specs.Plans.{house_of, plan_of, carried, fits}
use Rattle.plan.specs.declared.Plan.{Plan}
use Rattle.plan.specs.declared.Plan.TheVariants.{Run, Move}
use Rattle.record.specs.Layout.{TABLE_BYTES}
use Rattle.record.specs.ModuleTable.{table_ok, run_act, changed}
use Rattle.shutter_table.specs.ShutterTable.{SHUTTER_TABLE_BYTES, shutters_ok, move_all, openings_changed}
use Rattle.room.specs.declared.Changes.{Changes}
use Rattle.ground.specs.declared.Refusal.{Refusal}

-- what messages change: the lent bytes of the module table and of the shutter table
pub record Room : Type 0 where
  pub modules : List ℕ
  pub shutters : List ℕ

abbrev pub room_of : List ℕ → List ℕ → Room
room_of t s = record { modules = t; shutters = s }

-- TABLE: "1 speaks of 3,104" (02, A5); "16 SHUTTER TABLE (length not 5,120)"
abbrev pub modules_long : Room → Bool
modules_long room = eqb (length room.modules) TABLE_BYTES

abbrev pub shutters_long : Room → Bool
shutters_long room = eqb (length room.shutters) SHUTTER_TABLE_BYTES

-- "RECORD: table breaks a rule above", "17 SHUTTER RECORD (a rule here broken ..)"
abbrev pub modules_valid : Room → Bool
modules_valid room = table_ok room.modules

abbrev pub shutters_valid : Room → Bool
shutters_valid room = shutters_ok room.shutters

-- both tables keep their rules
abbrev pub room_ok : Room → Bool
room_ok room = modules_valid room && shutters_valid room

-- "The result counts the records whose level differs before and after.", and "as a second count, the shutters whose opening differs"
abbrev pub changes : Room → Room → Changes
changes before after =
    record { levels = changed before.modules after.modules; openings = openings_changed before.shutters after.shutters }

abbrev pub no_changes : Changes
no_changes = record { levels = 0; openings = 0 }

-- 1, 2, 3, 4: "NOT CARRIED: as said, by the table only"; "16 .. after 1, 17 .. after 3, 18 OPENING last"
abbrev pub apply_causes : Message → Room → List Cause
apply_causes m room =
    unless (modules_long room) refusal.Table
    ∷ unless (shutters_long room) refusal.ShutterTable
    ∷ unless (message_ok m) refusal.Message
    ∷ unless (modules_valid room) refusal.Record
    ∷ unless (shutters_valid room) refusal.ShutterRecord
    ∷ unless (carried m) refusal.NotCarried
    ∷ unless (fits (plan_of m)) refusal.Opening
    ∷ []

-- a plan carried out for a house: "Only type 0 changes shutters, and it never changes the module table."
abbrev pub carried_out : ℕ → Result Plan Refusal → Room → Room
carried_out h (Ok (Run a)) room = record { modules = run_act a h room.modules; shutters = room.shutters }
carried_out h (Ok (Move a)) room = record { modules = room.modules; shutters = move_all a h room.shutters }
carried_out h (Err why) room = room

-- the message carried out
abbrev pub room_with : Message → Room → Room
room_with m room = carried_out (house_of m) (plan_of m) room

-- the room that is left: a refusal "changes nothing lent"
unfoldable pub room_after : Message → Room → Room
room_after m room = judged (apply_causes m room) (room_with m room) (λ why. room)

-- the answer
unfoldable pub apply_answer : Message → Room → Result Changes Refusal
apply_answer m room = judged (apply_causes m room) (Ok (changes room (room_with m room))) Err

-- both counts
abbrev pub counts_of : Changes → List ℕ
counts_of c = c.levels ∷ c.openings ∷ []

-- the number and both counts
abbrev pub apply_report : Message → Room → Report ℕ
apply_report m room = judged (apply_causes m room) (reports (counts_of (changes room (room_with m room)))) refuses

-- those of an answer: "Each refusal .. returns its number with count 0"
abbrev pub room_report : Result Changes Refusal → Report ℕ
room_report (Ok c) = reports (counts_of c)
room_report (Err why) = refuses why

-- what has changed by an answer: nothing where it is a refusal
abbrev pub changes_of : Result Changes Refusal → Changes
changes_of (Ok c) = c
changes_of (Err why) = no_changes

-- the counts of an answer as one count: the levels in its lowest 16 bits, the openings in the next 16, and 0 above them
abbrev pub tallied : Result Changes Refusal → Result ℕ Refusal
tallied (Ok c) = Ok (c.levels % 2 ^ 16 + c.openings % 2 ^ 16 * 2 ^ 16)
tallied (Err why) = Err why
