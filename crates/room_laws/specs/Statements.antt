-- What holds of every message m applied to every room (01, 'The module table'; 02, A1). By the contract of `apply`, `room_after m room` is the room
-- that is left, and `apply_answer m room` the answer. That a valid room stays valid is in room's Statements.
use Rattle.std.specs.Prelude.{ℕ, ◌+◌, ◌*◌, ◌/◌, ◌%◌, ◌≤◌, ◌<◌, ◌≡◌, Bool, true, false, ◌&&◌, ◌||◌, List, eqb, length, get_or, Result, Ok, Err}
use Rattle.message.specs.declared.Function.{Function}
use Rattle.message.specs.declared.Function.TheVariants.{AllUnitsOff, AllLightsOn, On, Off, Dim, Bright, AllLightsOff, HailRequest, HailAcknowledge}
use Rattle.message.specs.declared.Function.TheVariants.{StatusOn, StatusOff, StatusRequest}
use Rattle.message.specs.declared.Message.{Message}
use Rattle.message.specs.declared.Message.TheVariants.{Address as Calls, Function as Command, Extended}
use Rattle.plan.specs.Plans.{house_of, type_zero, plan_of}
use Rattle.plan.specs.declared.Act.{Act}
use Rattle.plan.specs.declared.Act.TheVariants.{Nothing, Address, Obey, Join, Level, JoinAt, UnitsOn, UnitsOff, Leave, LeaveHouse, Group}
use Rattle.plan.specs.declared.GroupAct.{GroupAct}
use Rattle.plan.specs.declared.GroupAct.TheVariants.{Execute, PutOff, StepDim, StepBright}
use Rattle.plan.specs.declared.Plan.{Plan}
use Rattle.plan.specs.declared.Plan.TheVariants.{Run, Move}
use Rattle.record.specs.declared.Record.{Record}
use Rattle.record.specs.declared.House.{House}
use Rattle.record.specs.Layout.{RECORD_BYTES, UNITS, HOUSES, RECORDS, HEARD_AT, LIT_AT, record_at, house_at, present, lamp}
use Rattle.record.specs.ModuleTable.{lit_in, addressed, reached, step_record, house_after}
use Rattle.shutter.specs.declared.Shutter.{Shutter}
use Rattle.shutter.specs.Shutters.{protected}
use Rattle.shutter_table.specs.ShutterTable.{SHUTTERS, shutter_at, shutter_after}
use Rattle.shutter_table.specs.Statements.{own_shutter_byte}
use Rattle.room.specs.Rooms.{Room, room_ok, changes, no_changes, room_after, apply_answer, room_report, changes_of}
use Rattle.room.specs.Routes.{room_after_all}
use Rattle.ground.specs.declared.Refusal.{Refusal}

-- ---- what a message is about

-- the bytes of a house: those of its sixteen records, and its own
abbrev pub own_byte : ℕ → ℕ → Bool
own_byte h k = eqb (k / (UNITS * RECORD_BYTES)) h || eqb k (HEARD_AT + h) || eqb k (LIT_AT + h)

-- the modules that a function reaches
abbrev pub hears : Function → Record → Bool
hears On r = addressed r
hears Off r = addressed r
hears Dim r = addressed r && lamp r
hears Bright r = addressed r && lamp r
hears AllLightsOn r = lamp r
hears AllLightsOff r = lamp r
hears AllUnitsOff r = true
hears HailRequest r = false
hears HailAcknowledge r = false
hears StatusOn r = false
hears StatusOff r = false
hears StatusRequest r = false

-- the members of a group that do what is asked of it
abbrev pub heeds : GroupAct → Record → Bool
heeds Execute r = true
heeds PutOff r = true
heeds StepDim r = lamp r
heeds StepBright r = lamp r

-- whether an act may change the module of unit n, by the house's own bytes: of the members that a step reaches, the lamps only
abbrev pub act_reaches : Act → House → ℕ → Record → Bool
act_reaches Nothing own n r = false
act_reaches (Address u) own n r = eqb n u || eqb own.heard 1
act_reaches (Obey f) own n r = hears f r
act_reaches (Join u g s) own n r = eqb n u
act_reaches (Level u b) own n r = eqb n u
act_reaches (JoinAt u g b) own n r = eqb n u
act_reaches UnitsOn own n r = true
act_reaches UnitsOff own n r = true
act_reaches (Leave u gs) own n r = eqb n u
act_reaches (LeaveHouse gs) own n r = true
act_reaches (Group g s ask) own n r = reached g s r && heeds ask r

-- whether a plan concerns the record of unit n: a module is there, and the act reaches it
abbrev pub plan_concerns : Result Plan Refusal → House → ℕ → Record → Bool
plan_concerns (Ok (Run a)) own n r = present r && act_reaches a own n r
plan_concerns (Ok (Move a)) own n r = false
plan_concerns (Err why) own n r = false

-- whether a message concerns record i of a room
abbrev pub concerns : Message → Room → ℕ → Bool
concerns m room i =
    eqb (i / UNITS) (house_of m)
    && plan_concerns (plan_of m) (house_at room.modules (house_of m)) (i % UNITS) (record_at room.modules i)

-- what a plan makes of the record of unit n, and of the house's own bytes, where so many of its modules are above level 0 after it
abbrev pub planned : Result Plan Refusal → House → ℕ → Record → Record
planned (Ok (Run a)) own n r = step_record a own n r
planned (Ok (Move a)) own n r = r
planned (Err why) own n r = r

abbrev pub planned_house : Result Plan Refusal → ℕ → House → House
planned_house (Ok (Run a)) above own = house_after a above own
planned_house (Ok (Move a)) above own = own
planned_house (Err why) above own = own

-- what a plan for house h makes of shutter i
abbrev pub planned_shutter : Result Plan Refusal → ℕ → ℕ → Shutter → Shutter
planned_shutter (Ok (Run a)) h i s = s
planned_shutter (Ok (Move a)) h i s = shutter_after a h i s
planned_shutter (Err why) h i s = s

-- "Commands 05, 08, 0A and 0C reach every house."
abbrev pub for_every_house : Message → Bool
for_every_house (Calls h u) = false
for_every_house (Command h f) = false
for_every_house (Extended h u d c) = eqb c 0x05 || eqb c 0x08 || eqb c 0x0A || eqb c 0x0C

-- ---- the statements

-- "Only type 0 changes shutters, and it never changes the module table."
pub record EachItsTable (m : Message) (room : Room) : Type 0 where
  pub of_type_zero : type_zero m ≡ true → (room_after m room).modules ≡ room.modules
  pub others : type_zero m ≡ false → (room_after m room).shutters ≡ room.shutters

abbrev pub OnlyTypeZeroMoves : Type 0
OnlyTypeZeroMoves = (m : Message) (room : Room) → EachItsTable m room

-- a message changes only records of its own house and that house's own bytes, and of the shutters, but for four commands, only its own house's
pub record OwnHouse (m : Message) (room : Room) : Type 0 where
  pub modules_as_long : length (room_after m room).modules ≡ length room.modules
  pub modules : (k : ℕ) → own_byte (house_of m) k ≡ false → get_or (room_after m room).modules k 0 ≡ get_or room.modules k 0
  pub shutters_as_long : length (room_after m room).shutters ≡ length room.shutters
  pub shutters : for_every_house m ≡ false → (k : ℕ) → own_shutter_byte (house_of m) k ≡ false
      → get_or (room_after m room).shutters k 0 ≡ get_or room.shutters k 0

abbrev pub OwnHouseOnly : Type 0
OwnHouseOnly = (m : Message) (room : Room) → OwnHouse m room

-- a record that a message does not concern stays equal, byte by byte; so absent units stay all zeros
abbrev pub OthersStay : Type 0
OthersStay =
    (m : Message) (room : Room) (i k : ℕ) → i < RECORDS → k < RECORD_BYTES → concerns m room i ≡ false
    → get_or (room_after m room).modules (i * RECORD_BYTES + k) 0 ≡ get_or room.modules (i * RECORD_BYTES + k) 0

-- where nothing is refused, each record is what the plan makes of it, and so are the house's own bytes and each shutter
pub record ByPlan (m : Message) (room : Room) : Type 0 where
  pub records : (n : ℕ) → n < UNITS
      → record_at (room_after m room).modules (house_of m * UNITS + n)
      ≡ planned (plan_of m) (house_at room.modules (house_of m)) n (record_at room.modules (house_of m * UNITS + n))
  pub house : let after = (room_after m room).modules in let h = house_of m in
      house_at after h ≡ planned_house (plan_of m) (lit_in after h) (house_at room.modules h)
  pub shutters : (i : ℕ) → i < SHUTTERS
      → shutter_at (room_after m room).shutters i ≡ planned_shutter (plan_of m) (house_of m) i (shutter_at room.shutters i)

abbrev pub RecordByRecord : Type 0
RecordByRecord = (m : Message) (room : Room) → (room_report (apply_answer m room)).number ≡ 0 → ByPlan m room

-- a refused message changes nothing, and its counts are 0
abbrev pub RefusedStays : Type 0
RefusedStays =
    (m : Message) (room : Room) → ((room_report (apply_answer m room)).number ≡ 0 → ⊥)
    → (room_after m room ≡ room) × (changes_of (apply_answer m room) ≡ no_changes)

-- the count of modules is at most 16
abbrev pub CountAtMost16 : Type 0
CountAtMost16 = (m : Message) (room : Room) → (changes_of (apply_answer m room)).levels ≤ UNITS

-- the counts of any routine on a room, a whole slice too, are of its 256 records and 256 shutters: each fits the 16 bits that an exported answer has for it
abbrev pub CountAtMost256 : Type 0
CountAtMost256 = (before after : Room) → ((changes before after).levels ≤ RECORDS) × ((changes before after).openings ≤ SHUTTERS)

-- a valid room is valid after every list of messages, both tables
abbrev pub AllStayValid : Type 0
AllStayValid = (ms : List Message) (room : Room) → room_ok room ≡ true → room_ok (room_after_all ms room) ≡ true

-- "With protection on .. an opening above the limit is cut to it": of a valid room, after every list of messages
abbrev pub ProtectedLimit : Type 0
ProtectedLimit =
    (ms : List Message) (room : Room) → room_ok room ≡ true → (i : ℕ) → i < SHUTTERS
    → let s = shutter_at (room_after_all ms room).shutters i in protected s ≡ true → s.opening ≤ s.limit

-- extended commands "never touch addressing or house bytes": the "command heard" bytes of 01
abbrev pub ExtendedKeeps : Type 0
ExtendedKeeps =
    (h u d c : ℕ) (room : Room) → let after = (room_after (Extended h u d c) room).modules in
    ((i : ℕ) → i < RECORDS → (record_at after i).addressed ≡ (record_at room.modules i).addressed)
    × ((g : ℕ) → g < HOUSES → (house_at after g).heard ≡ (house_at room.modules g).heard)
