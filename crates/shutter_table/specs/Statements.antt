-- What holds of every shutter table: proofs/TableLaws.antt.
use Rattle.std.specs.Prelude.{ℕ, ◌*◌, ◌/◌, ◌≤◌, ◌<◌, ◌≡◌, Bool, true, false, List, eqb, length, get_or}
use Rattle.ground.specs.Records.{LaidOut, Sound}
use Rattle.plan.specs.Motions.{motion_fits}
use Rattle.plan.specs.declared.Motion.{Motion}
use Rattle.shutter.specs.declared.Shutter.{Shutter}
use Rattle.shutter.specs.Shutters.{of_house, reaches}
use Rattle.shutter.specs.Statements.{EightEach}
use Rattle.shutter_table.specs.ShutterTable.{SHUTTERS, SHUTTER_BYTES, SHUTTER_TABLE_BYTES, shutter_at, shutters, shutters_ok, shutter_after, move_all}
use Rattle.shutter_table.specs.ShutterTable.{openings_changed}

-- shutters lie in their table by the laws of lent records
abbrev pub ShuttersLaid : Type 0
ShuttersLaid = LaidOut shutters

-- and so does every shutter with eight marks and eight openings that is put there
abbrev pub ShuttersSound : Type 0
ShuttersSound = (s : Shutter) → EightEach s → Sound shutters s

-- a motion leaves the table's length, and makes of each shutter what it makes of one
pub record ShutterByShutter (a : Motion) (h : ℕ) (t : List ℕ) : Type 0 where
  pub long : length (move_all a h t) ≡ length t
  pub each : (i : ℕ) → i < SHUTTERS → shutter_at (move_all a h t) i ≡ shutter_after a h i (shutter_at t i)

abbrev pub EachShutter : Type 0
EachShutter = (a : Motion) (h : ℕ) (t : List ℕ) → length t ≡ SHUTTER_TABLE_BYTES → ShutterByShutter a h t

-- a table that keeps the rules keeps them, but for a motion with an opening that there is not: 18
abbrev pub ShuttersStayValid : Type 0
ShuttersStayValid = (a : Motion) (h : ℕ) (t : List ℕ) → motion_fits a ≡ true → shutters_ok t ≡ true → shutters_ok (move_all a h t) ≡ true

-- the bytes of a house's sixteen shutters
abbrev pub own_shutter_byte : ℕ → ℕ → Bool
own_shutter_byte h k = eqb (k / (16 * SHUTTER_BYTES)) h

-- a motion that reaches no place of another house changes no byte of it
abbrev pub OwnShuttersOnly : Type 0
OwnShuttersOnly =
    (a : Motion) (h : ℕ) (t : List ℕ) (k : ℕ) → length t ≡ SHUTTER_TABLE_BYTES → ((i : ℕ) → of_house h i ≡ false → reaches a h i ≡ false)
    → own_shutter_byte h k ≡ false → get_or (move_all a h t) k 0 ≡ get_or t k 0

-- the count is of 256 shutters: it fits the 16 bits that an exported answer has for it
abbrev pub OpeningsAtMost256 : Type 0
OpeningsAtMost256 = (before after : List ℕ) → openings_changed before after ≤ SHUTTERS
