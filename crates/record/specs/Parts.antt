-- The two parts of a record that acts change: its level and whether it is addressed, and its groups. No act changes both, so what steps
-- a record need store one of them only: GroupsKept and RestKept, proofs/RecordLaws.antt.
use Rattle.std.specs.Prelude.{ℕ, ◌≡◌, Bool, true, false}
use Rattle.plan.specs.declared.Act.{Act}
use Rattle.plan.specs.declared.Act.TheVariants.{Nothing, Address, Obey, Join, Level, JoinAt, UnitsOn, UnitsOff}
use Rattle.plan.specs.declared.Act.TheVariants.{Leave, LeaveHouse, Group}
use Rattle.record.specs.declared.Record.{Record}
use Rattle.record.specs.declared.House.{House}
use Rattle.record.specs.Layout.{with_level, with_addressed, with_groups}
use Rattle.record.specs.ModuleTable.{acted}

-- false for the acts that are about groups, joining and leaving
abbrev pub keeps_groups : Act → Bool
keeps_groups Nothing = true
keeps_groups (Address u) = true
keeps_groups (Obey f) = true
keeps_groups (Join u g s) = false
keeps_groups (Level u b) = true
keeps_groups (JoinAt u g b) = false
keeps_groups UnitsOn = true
keeps_groups UnitsOff = true
keeps_groups (Leave u gs) = false
keeps_groups (LeaveHouse gs) = false
keeps_groups (Group g s ask) = true

-- every other act changes the level, and whether a module is addressed, and nothing else
abbrev pub GroupsKept : Type 0
GroupsKept =
    (a : Act) (own : House) (n : ℕ) (r : Record) → keeps_groups a ≡ true
    → with_level (acted a own n r).level (with_addressed (acted a own n r).addressed r) ≡ acted a own n r

-- and these leave both
abbrev pub RestKept : Type 0
RestKept = (a : Act) (own : House) (n : ℕ) (r : Record) → keeps_groups a ≡ false → with_groups (acted a own n r).groups r ≡ acted a own n r
