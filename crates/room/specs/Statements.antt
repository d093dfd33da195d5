-- What holds of every room: proofs/ApplyLaws.antt, proofs/RadioLaws.antt, proofs/MainsLaws.antt.
use Rattle.std.specs.Prelude.{ℕ, ◌+◌, ◌*◌, ◌^◌, ◌≡◌, true, List, [], ◌∷◌, map, Ok}
use Rattle.ground.specs.Refusals.{cause_number}
use Rattle.message.specs.declared.Message.{Message}
use Rattle.wire.specs.Packed.{packed}
use Rattle.room.specs.Rooms.{Room, room_ok, changes, apply_causes, room_after, tallied}
use Rattle.room.specs.Routes.{radio_causes}
use Rattle.room.specs.Mains.{Lending, mains_causes}

-- a valid room stays valid, both tables
abbrev pub ValidStays : Type 0
ValidStays = (m : Message) (room : Room) → room_ok room ≡ true → room_ok (room_after m room) ≡ true

-- the order in which a routine's causes are looked at: "16 SHUTTER TABLE .. after 1, 17 SHUTTER RECORD .. after 3, 18 OPENING last", all others lowest first
abbrev pub ApplyOrder : Type 0
ApplyOrder = (m : Message) (room : Room) → map cause_number (apply_causes m room) ≡ 1 ∷ 16 ∷ 2 ∷ 3 ∷ 17 ∷ 4 ∷ 18 ∷ []

abbrev pub RadioOrder : Type 0
RadioOrder = (code : List ℕ) (room : Room) → map cause_number (radio_causes code room) ≡ 1 ∷ 16 ∷ 3 ∷ 17 ∷ 12 ∷ 13 ∷ 14 ∷ []

abbrev pub MainsOrder : Type 0
MainsOrder = (l : Lending) (room : Room) → map cause_number (mains_causes l room) ≡ 1 ∷ 16 ∷ 3 ∷ 17 ∷ 6 ∷ 9 ∷ 9 ∷ []

-- the number of an exported answer holds both counts whole: the levels from bit 8 on, the openings from bit 24 on
abbrev pub CountsPacked : Type 0
CountsPacked =
    (before after : Room) → let c = changes before after in packed (tallied (Ok c)) ≡ c.levels * 2 ^ 8 + c.openings * 2 ^ 24
