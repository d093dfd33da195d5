-- Groups with references (02, A5; source document 002), as a fitter sees them: whom 36 and 3C reach, and what 30, 32 and 35 make of a unit, in a house
-- of a valid room, by a record of that house before and after the message.
use Rattle.std.specs.Prelude.{ℕ, ◌+◌, ◌*◌, ◌/◌, ◌%◌, ◌≤◌, ◌<◌, ◌≡◌, Bool, true, false, ◌||◌, eqb}
use Rattle.ground.specs.Choice.{pick}
use Rattle.message.specs.declared.Message.TheVariants.{Extended}
use Rattle.plan.specs.Plans.{bit, level_in, group_in, groups_in, ABSOLUTE}
use Rattle.plan.specs.declared.GroupAct.{GroupAct}
use Rattle.plan.specs.declared.GroupAct.TheVariants.{Execute, PutOff, StepDim, StepBright}
use Rattle.record.specs.Layout.{GROUPS, UNITS, HOUSES, record_at, present, membership, member, reference, with_level, with_groups}
use Rattle.record.specs.ModuleTable.{level_for, asked, joined_as, not_joined}
use Rattle.record.specs.declared.Record.{Record}
use Rattle.room.specs.Rooms.{Room, room_ok, room_after}

-- the commands that ask something of the members of a group
abbrev pub group_command : ℕ → Bool
group_command c = eqb c 0x36 || eqb c 0x3C

-- what they ask: 36 the presets or, with bit 4, 0; 3C a step as dim or, with bit 4, as bright
abbrev pub asks : ℕ → ℕ → GroupAct
asks c d = pick (eqb c 0x36) (pick (bit 4 d) PutOff Execute) (pick (bit 4 d) StepBright StepDim)

-- the record of unit n of house h before an extended message for the house, and after it
abbrev pub unit_before : Room → ℕ → ℕ → Record
unit_before room h n = record_at room.modules (h * UNITS + n)

abbrev pub unit_after : Room → ℕ → ℕ → ℕ → ℕ → ℕ → Record
unit_after room h u d c n = record_at (room_after (Extended h u d c) room).modules (h * UNITS + n)

-- a record of the house before the command and after it, by the group that the data names
pub record Reaches (c d : ℕ) (before after : Record) : Type 0 where
  -- a relative one reaches "members with that reference"
  pub with_reference : bit 5 d ≡ true → member (group_in d) before ≡ true → reference (group_in d) before ≡ d % 16
      → after ≡ with_level (asked (asks c d) (group_in d) before) before
  -- "as well as absolute members"; "an absolute one absolute members"
  pub absolute_member : member (group_in d) before ≡ true → reference (group_in d) before ≡ ABSOLUTE
      → after ≡ with_level (asked (asks c d) (group_in d) before) before
  -- and no member with another reference
  pub another_reference : bit 5 d ≡ true → (reference (group_in d) before ≡ d % 16 → ⊥) → (reference (group_in d) before ≡ ABSOLUTE → ⊥) → after ≡ before
  -- an absolute one reaches "absolute members only"
  pub relative_member : bit 5 d ≡ false → (reference (group_in d) before ≡ ABSOLUTE → ⊥) → after ≡ before
  -- nor a unit that is no member
  pub no_member : member (group_in d) before ≡ false → after ≡ before

abbrev pub WhoIsReached : Type 0
WhoIsReached =
    (h u d c n : ℕ) (room : Room) → room_ok room ≡ true → h < HOUSES → u ≤ 15 → d ≤ 255 → group_command c ≡ true → n < UNITS
    → Reaches c d (unit_before room h n) (unit_after room h u d c n)

-- what 30, 32 and 35 make of a unit that is there in group g, for house h with unit u named: 30 and 32 join the group that the data names, whatever the
-- unit was in it before, 35 leaves those in its low four bits, and every other group stays
pub record Joins (h u d g : ℕ) (room : Room) : Type 0 where
  -- "Command 30 with bit 5 set joins G relative to the low four bits", at the current level
  pub relative : present (unit_before room h u) ≡ true → bit 5 d ≡ true
      → membership g (unit_after room h u d 0x30 u).groups
      ≡ pick (eqb (group_in d) g) (joined_as (unit_before room h u).level (d % 16)) (membership g (unit_before room h u).groups)
  -- and with bit 5 clear absolute
  pub absolute : present (unit_before room h u) ≡ true → bit 5 d ≡ false
      → membership g (unit_after room h u d 0x30 u).groups
      ≡ pick (eqb (group_in d) g) (joined_as (unit_before room h u).level ABSOLUTE) (membership g (unit_before room h u).groups)
  -- "32 joins absolute", with preset B
  pub with_preset : present (unit_before room h u) ≡ true
      → membership g (unit_after room h u d 0x32 u).groups
      ≡ pick (eqb (group_in d) g) (joined_as (level_for (level_in d) (unit_before room h u)) ABSOLUTE) (membership g (unit_before room h u).groups)
  -- "35: leave the groups in the low four bits; top four 0 for the unit", whatever the references
  pub leaves : present (unit_before room h u) ≡ true → d / 16 ≡ 0
      → membership g (unit_after room h u d 0x35 u).groups ≡ pick (bit g (groups_in d)) not_joined (membership g (unit_before room h u).groups)
  -- "15 for the house": every unit, whether or not the one that is named is there
  pub all_leave : d / 16 ≡ 15 → (n : ℕ) → n < UNITS → present (unit_before room h n) ≡ true
      → membership g (unit_after room h u d 0x35 n).groups ≡ pick (bit g (groups_in d)) not_joined (membership g (unit_before room h n).groups)
  -- and nothing else of any record of the house
  pub groups_only : (c n : ℕ) → (eqb c 0x30 || eqb c 0x32 || eqb c 0x35) ≡ true → n < UNITS
      → unit_after room h u d c n ≡ with_groups (unit_after room h u d c n).groups (unit_before room h n)

abbrev pub WhatIsJoined : Type 0
WhatIsJoined = (h u d g : ℕ) (room : Room) → room_ok room ≡ true → h < HOUSES → u ≤ 15 → d ≤ 255 → g < GROUPS → Joins h u d g room
