-- What holds of one record and of a house's own bytes, whatever the act: proofs/RecordLaws.antt.
use Rattle.std.specs.Prelude.{ℕ, ◌≤◌, ◌<◌, ◌≡◌, true, false, eqb, length}
use Rattle.ground.specs.Choice.{pick}
use Rattle.plan.specs.Plans.{bit, ABSOLUTE}
use Rattle.plan.specs.declared.Act.{Act}
use Rattle.plan.specs.declared.Act.TheVariants.{Join, JoinAt, Leave, LeaveHouse}
use Rattle.record.specs.declared.Record.{Record}
use Rattle.record.specs.declared.House.{House}
use Rattle.record.specs.Layout.{GROUPS, present, membership}
use Rattle.record.specs.ModuleTable.{record_ok, house_ok, level_for, joined_as, not_joined, step_record, house_after}

-- the presets and references are four each: what a value of the type has
abbrev pub FourEach : Record → Type 0
FourEach r = (length r.groups.presets ≡ GROUPS) × (length r.groups.references ≡ GROUPS)

-- an act leaves four of each
abbrev pub StaysFour : Type 0
StaysFour = (a : Act) (own : House) (n : ℕ) (r : Record) → FourEach r → FourEach (step_record a own n r)

-- a record that keeps the rules keeps them
abbrev pub RecordStaysValid : Type 0
RecordStaysValid = (a : Act) (own : House) (n : ℕ) (r : Record) → FourEach r → record_ok r ≡ true → record_ok (step_record a own n r) ≡ true

-- what joining and leaving make of the unit's record, group by group: "30 .. joins G relative to the low four bits", here with reference s; "32 joins
-- absolute"; "joining again replaces level and reference", whatever they were; 35 leaves no preset and no reference; every other group stays
pub record GroupByGroup (own : House) (u g : ℕ) (r : Record) : Type 0 where
  pub joins : (k s : ℕ) → s ≤ ABSOLUTE
      → membership g (step_record (Join u k s) own u r).groups ≡ pick (eqb k g) (joined_as r.level s) (membership g r.groups)
  pub joins_at : (k b : ℕ)
      → membership g (step_record (JoinAt u k b) own u r).groups ≡ pick (eqb k g) (joined_as (level_for b r) ABSOLUTE) (membership g r.groups)
  pub leaves : (gs : ℕ) → membership g (step_record (Leave u gs) own u r).groups ≡ pick (bit g gs) not_joined (membership g r.groups)
  pub leaves_house : (gs n : ℕ) → membership g (step_record (LeaveHouse gs) own n r).groups ≡ pick (bit g gs) not_joined (membership g r.groups)

abbrev pub Memberships : Type 0
Memberships = (own : House) (u g : ℕ) (r : Record) → present r ≡ true → g < GROUPS → GroupByGroup own u g r

-- a house's own bytes that keep the rules keep them, whatever number of its modules the act leaves above level 0
abbrev pub HouseStaysValid : Type 0
HouseStaysValid = (a : Act) (own : House) (before above : ℕ) → house_ok before own ≡ true → house_ok above (house_after a above own) ≡ true

-- "An absent unit .. changes nothing"
abbrev pub AbsentStays : Type 0
AbsentStays = (a : Act) (own : House) (n : ℕ) (r : Record) → present r ≡ false → step_record a own n r ≡ r
