-- The byte that says how many modules of a house are lit (02, A3), whatever messages come.
use Rattle.std.specs.Prelude.{ℕ, ◌+◌, ◌*◌, ◌≤◌, ◌<◌, ◌≡◌, true, List, Ok}
use Rattle.ground.specs.Choice.{pick}
use Rattle.ground.specs.Records.{sum_below}
use Rattle.message.specs.declared.Function.TheVariants.{AllUnitsOff}
use Rattle.message.specs.declared.Message.{Message}
use Rattle.message.specs.declared.Message.TheVariants.{Function as Command, Extended}
use Rattle.plan.specs.Plans.{house_of}
use Rattle.record.specs.Layout.{UNITS, HOUSES, record_at, lit_byte, present}
use Rattle.record.specs.ModuleTable.{lit_in}
use Rattle.lit.specs.Lit.{lit_answer}
use Rattle.room.specs.Rooms.{Room, room_ok, room_after}
use Rattle.room.specs.Routes.{room_after_all}

-- "true after every operation": of a valid room, after every list of messages, asking gives the number of modules above level 0
abbrev pub LitStaysTrue : Type 0
LitStaysTrue =
    (ms : List Message) (room : Room) → room_ok room ≡ true → (h : ℕ) → h < HOUSES
    → let after = (room_after_all ms room).modules in lit_answer h after ≡ Ok (lit_in after h)

-- a message changes the byte of its own house only, whatever the room, and so what is answered for every other house stays
pub record LitElsewhere (m : Message) (room : Room) (g : ℕ) : Type 0 where
  pub byte : lit_byte (room_after m room).modules g ≡ lit_byte room.modules g
  pub answer : lit_answer g (room_after m room).modules ≡ lit_answer g room.modules

abbrev pub OwnLitOnly : Type 0
OwnLitOnly = (m : Message) (room : Room) (g : ℕ) → g < HOUSES → (g ≡ house_of m → ⊥) → LitElsewhere m room g

-- the modules of house h that are there, lamps and appliances
abbrev pub present_in : List ℕ → ℕ → ℕ
present_in t h = sum_below UNITS (λ n. pick (present (record_at t (h * UNITS + n))) 1 0)

-- what a fitter sees: all units off leaves no module of the house lit, and the extended command 33 leaves every one lit that is there
pub record LitAfter (h : ℕ) (room : Room) : Type 0 where
  pub all_off : lit_answer h (room_after (Command h AllUnitsOff) room).modules ≡ Ok 0
  pub all_on : (u d : ℕ) → u ≤ 15 → d ≤ 255 → lit_answer h (room_after (Extended h u d 0x33) room).modules ≡ Ok (present_in room.modules h)

abbrev pub AllOffAllOn : Type 0
AllOffAllOn = (h : ℕ) (room : Room) → h < HOUSES → room_ok room ≡ true → LitAfter h room
