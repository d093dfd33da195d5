-- A press, for a reader who knows keypads and no proofs: on a room where another lamp was addressed before, a press at the wall and the same press by
-- radio leave the same room, and the next Off darkens the same lamps. A room is its table of modules and its table of shutters.
use Rattle.std.specs.Prelude.{ℕ, ◌+◌, ◌*◌, ◌≤◌, ◌<◌, ◌≡◌, Bool, true, false, not, ◌&&◌, [], ◌∷◌, eqb}
use Rattle.message.specs.declared.Function.TheVariants.{On, Off}
use Rattle.message.specs.declared.Message.TheVariants.{Address, Function as Command}
use Rattle.radio.specs.Codes.{four_bytes}
use Rattle.radio.specs.declared.RadioCommand.TheVariants.{On as RadioOn}
use Rattle.record.specs.Layout.{UNITS, record_at, house_at, present}
use Rattle.room.specs.Rooms.{Room, room_ok, room_after}
use Rattle.room_laws.specs.Demand2.{Route, radio, leaves, after, to_fresh}

-- The On of unit u in house h. At a wall keypad: its address and then the function, bursts after z and w clear half-cycles. By radio: one code.
abbrev pub at_wall : ℕ → ℕ → ℕ → ℕ → Route
at_wall z w h u = to_fresh (after z (Address h u) ∷ after w (Command h On) ∷ [])

abbrev pub by_radio : ℕ → ℕ → Route
by_radio h u = radio (four_bytes (RadioOn h u) ∷ [])

-- whether the house's function Off, coming next, darkens the module of record i: lit before it and dark after it
abbrev pub darkens : ℕ → Room → ℕ → Bool
darkens h room i = not (eqb (record_at room.modules i).level 0) && eqb (record_at (room_after (Command h Off) room).modules i).level 0

-- of a room, whatever lamps were addressed in it before,
pub record SamePress (z w h u : ℕ) (room : Room) : Type 0 where
  -- a press at the wall and the same press by radio leave the same room,
  pub same_room : leaves (at_wall z w h u) room ≡ leaves (by_radio h u) room
  -- and no shutter has moved;
  pub no_shutter : (leaves (by_radio h u) room).shutters ≡ room.shutters
  -- the next Off darkens the same lamps,
  pub same_lamps : (i : ℕ) → darkens h (leaves (at_wall z w h u) room) i ≡ darkens h (leaves (by_radio h u) room) i
  -- the one that was pressed among them, if a module is there,
  pub pressed : room_ok room ≡ true → present (record_at room.modules (h * UNITS + u)) ≡ true → darkens h (leaves (by_radio h u) room) (h * UNITS + u) ≡ true
  -- and no other of the house, if a function has come since they were addressed: the press lets go of them
  pub let_go : room_ok room ≡ true → (house_at room.modules h).heard ≡ 1 → (n : ℕ) → n < UNITS → eqb n u ≡ false
      → darkens h (leaves (by_radio h u) room) (h * UNITS + n) ≡ false

-- Unit u of house h. The room is any, also one that the routes refuse: proofs/Press.antt
abbrev pub Press : Type 0
Press = (h u z w : ℕ) (room : Room) → h ≤ 15 → u ≤ 15 → 3 ≤ z → 3 ≤ w → SamePress z w h u room

-- The recalled keypads: somebody presses On of unit v, then somebody presses On of another unit u of the house. At the wall or by radio, the room
-- is the same, and the next Off leaves v as it is.
pub record SameAfterAnother (z w h u v : ℕ) (room : Room) : Type 0 where
  pub same_press : SamePress z w h u (leaves (by_radio h v) room)
  pub spared : darkens h (leaves (at_wall z w h u) (leaves (by_radio h v) room)) (h * UNITS + v) ≡ false

abbrev pub Recall : Type 0
Recall =
    (h u v z w : ℕ) (room : Room) → h ≤ 15 → u ≤ 15 → v ≤ 15 → eqb v u ≡ false → 3 ≤ z → 3 ≤ w → room_ok room ≡ true
    → SameAfterAnother z w h u v room
