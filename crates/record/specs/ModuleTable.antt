-- The module table (01, 'The module table'; 02, A3 and A5; XTC798, type 3), in 01's order: the rules of a valid table, what an act does to one
-- record and to the house's own bytes, and what it does to the table. Which act a message asks for is in plan's Plans, where the
-- bytes lie in Layout.
use Rattle.std.specs.Prelude.{ℕ, ◌+◌, ◌-◌, ◌*◌, min, max, Bool, true, false, not, ◌&&◌, ◌||◌, List, eqb, leb, length}
use Rattle.ground.specs.Choice.{pick}
use Rattle.ground.specs.Records.{step_each, all_below, sum_below, differing, value_at}
use Rattle.message.specs.declared.Function.{Function}
use Rattle.message.specs.declared.Function.TheVariants.{AllUnitsOff, AllLightsOn, On, Off, Dim, Bright, AllLightsOff}
use Rattle.message.specs.declared.Function.TheVariants.{HailRequest, HailAcknowledge, StatusOn, StatusOff, StatusRequest}
use Rattle.plan.specs.declared.Act.{Act}
use Rattle.plan.specs.declared.Act.TheVariants.{Nothing, Address, Obey, Join, Level, JoinAt, UnitsOn, UnitsOff}
use Rattle.plan.specs.declared.Act.TheVariants.{Leave, LeaveHouse, Group}
use Rattle.plan.specs.declared.GroupAct.{GroupAct}
use Rattle.plan.specs.declared.GroupAct.TheVariants.{Execute, PutOff, StepDim, StepBright}
use Rattle.plan.specs.Plans.{bit, ABSOLUTE}
use Rattle.record.specs.declared.Record.{Record}
use Rattle.record.specs.declared.Groups.{Groups}
use Rattle.record.specs.declared.Membership.{Membership}
use Rattle.record.specs.declared.House.{House}
use Rattle.record.specs.Layout.{GROUPS, RECORDS, UNITS, HOUSES, TABLE_BYTES, record_at, modules, house_at, put_house}
use Rattle.record.specs.Layout.{present, lamp, appliance, membership, member, preset, reference, with_level, with_addressed, with_groups, regroup}

-- ---- The rules of a valid table

-- "level 0..63", "four presets 0..63", "An appliance's level and presets are 0 or 63."
abbrev pub level_ok : ℕ → ℕ → Bool
level_ok kind x = leb x 63 && (not (eqb kind 2) || eqb x 0 || eqb x 63)

-- "A non-member's preset is 0."
abbrev pub preset_ok : ℕ → Bool → ℕ → Bool
preset_ok kind joined x = level_ok kind x && (joined || eqb x 0)

-- 02, A5: "its reference", 0 to 15, "or 16 for absolute"; "A non-member's reference byte is 0."
abbrev pub reference_ok : Bool → ℕ → Bool
reference_ok joined x = leb x ABSOLUTE && (joined || eqb x 0)

abbrev pub group_ok : ℕ → Bool → ℕ → ℕ → Bool
group_ok kind joined preset reference = preset_ok kind joined preset && reference_ok joined reference

-- in each of the first n groups
abbrev pub groups_ok : ℕ → Record → Bool
groups_ok n r = all_below n (λ g. group_ok r.kind (member g r) (preset g r) (reference g r))

-- "Kind 0 is all zeros."
abbrev pub all_zeros : Record → Bool
all_zeros r =
    eqb r.level 0 && eqb r.addressed 0 && eqb r.groups.mask 0
    && all_below GROUPS (λ g. eqb (preset g r) 0 && eqb (reference g r) 0)

-- "Record: kind (0 none, 1 lamp, 2 appliance), level 0..63, addressed 0 or 1, group mask 0..15"
abbrev pub fields_ok : ℕ → ℕ → ℕ → ℕ → Bool
fields_ok kind level addressed mask = leb kind 2 && level_ok kind level && leb addressed 1 && leb mask 15

unfoldable pub record_ok : Record → Bool
record_ok r = fields_ok r.kind r.level r.addressed r.groups.mask && groups_ok GROUPS r && (present r || all_zeros r)

-- "House bytes are 0 or 1."
abbrev pub heard_ok : ℕ → Bool
heard_ok x = leb x 1

-- 02, A3: "the number of its modules above level 0": 1 for a record above it, be it a lamp or an appliance; in a valid table a place with no
-- module is at 0
abbrev pub lit_of : Record → ℕ
lit_of r = pick (eqb r.level 0) 0 1

-- of house h, those of its first n units, and all
abbrev pub lit_to : List ℕ → ℕ → ℕ → ℕ
lit_to t h n = sum_below n (λ k. lit_of (record_at t (h * UNITS + k)))

abbrev pub lit_in : List ℕ → ℕ → ℕ
lit_in t h = lit_to t h UNITS

-- "A stored byte that disagrees breaks the table's rules."
abbrev pub lit_ok : ℕ → ℕ → Bool
lit_ok above x = eqb x above

-- a house's own bytes, where so many of its modules are above level 0
abbrev pub house_ok : ℕ → House → Bool
house_ok above own = heard_ok own.heard && lit_ok above own.lit

-- each record keeps the rules, and so do each house's own bytes
abbrev pub records_ok : ℕ → List ℕ → Bool
records_ok n t = all_below n (λ i. record_ok (record_at t i))

abbrev pub houses_ok : ℕ → List ℕ → Bool
houses_ok n t = all_below n (λ h. house_ok (lit_in t h) (house_at t h))

unfoldable pub table_ok : List ℕ → Bool
table_ok t = eqb (length t) TABLE_BYTES && records_ok RECORDS t && houses_ok HOUSES t

-- ---- What an act does to one record

-- at level x where the test holds
abbrev pub relevel : Bool → ℕ → Record → Record
relevel b x r = with_level (pick b x r.level) r

-- "on sets .. at 0 to 63 and leaves a lit one"; "a lamp at 0 being first put to 63"
abbrev pub lit_level : ℕ → ℕ
lit_level l = pick (eqb l 0) 63 l

-- "dim and bright move .. by 3, to no less than 1 and no more than 63"
abbrev pub dimmed : ℕ → ℕ
dimmed l = max 1 (lit_level l - 3)

abbrev pub brightened : ℕ → ℕ
brightened l = min 63 (lit_level l + 3)

abbrev pub addressed : Record → Bool
addressed r = eqb r.addressed 1

-- the functions
abbrev pub obeyed : Function → Record → Record
obeyed On r = relevel (addressed r) (lit_level r.level) r
obeyed Off r = relevel (addressed r) 0 r
obeyed Dim r = relevel (addressed r && lamp r) (dimmed r.level) r
obeyed Bright r = relevel (addressed r && lamp r) (brightened r.level) r
obeyed AllLightsOn r = relevel (lamp r) 63 r
obeyed AllLightsOff r = relevel (lamp r) 0 r
obeyed AllUnitsOff r = with_addressed 0 (with_level 0 r)
obeyed HailRequest r = r
obeyed HailAcknowledge r = r
obeyed StatusOn r = r
obeyed StatusOff r = r
obeyed StatusRequest r = r

-- "For an appliance a non-zero B counts as 63."; B is 0..63, and a number above counts as 63
abbrev pub level_for : ℕ → Record → ℕ
level_for b r = pick (appliance r && not (eqb b 0)) 63 (min 63 b)

-- whether a command for group g, with reference s, reaches a record: 02, A5: "A relative execution, off or step reaches members with that
-- reference as well as absolute members ..; an absolute one absolute members only."
abbrev pub reached : ℕ → ℕ → Record → Bool
reached g s r = member g r && (eqb (reference g r) ABSOLUTE || eqb (reference g r) s)

-- the level that it takes then: 36 "sets the house's members of G to their presets", or "to 0"; 3C: "members that are lamps step"
abbrev pub asked : GroupAct → ℕ → Record → ℕ
asked Execute g r = preset g r
asked PutOff g r = 0
asked StepDim g r = pick (lamp r) (dimmed r.level) r.level
asked StepBright g r = pick (lamp r) (brightened r.level) r.level

-- a member of a group with preset x and reference s, and one that is none
abbrev pub joined_as : ℕ → ℕ → Membership
joined_as x s = record { member = true; preset = x; reference = s }

abbrev pub not_joined : Membership
not_joined = record { member = false; preset = 0; reference = 0 }

-- "join G", with preset x and reference s: "joining again replaces level and reference"; a reference is 0..16, and a number above counts as 16
unfoldable pub joined : ℕ → ℕ → ℕ → Groups → Groups
joined g x s of = regroup (λ k. pick (eqb g k) (joined_as x (min ABSOLUTE s)) (membership k of))

-- "leave the groups in the low four bits .. presets left become 0", whatever the references; "A non-member's reference byte is 0."
unfoldable pub left : ℕ → Groups → Groups
left gs of = regroup (λ k. pick (bit k gs) not_joined (membership k of))

-- what an act does to the record of unit n, by the house's own bytes, if a module is there; "Address: if the house byte is 1, the
-- whole house becomes unaddressed ..; then that unit .. is addressed."; 02, A5: "32 joins absolute"
abbrev pub acted : Act → House → ℕ → Record → Record
acted Nothing own n r = r
acted (Address u) own n r = with_addressed (pick (eqb n u) 1 (pick (eqb own.heard 1) 0 r.addressed)) r
acted (Obey f) own n r = obeyed f r
acted (Join u g s) own n r = pick (eqb n u) (with_groups (joined g r.level s r.groups) r) r
acted (Level u b) own n r = relevel (eqb n u) (level_for b r) r
acted (JoinAt u g b) own n r = pick (eqb n u) (with_groups (joined g (level_for b r) ABSOLUTE r.groups) r) r
acted UnitsOn own n r = with_level 63 r
acted UnitsOff own n r = with_level 0 r
acted (Leave u gs) own n r = pick (eqb n u) (with_groups (left gs r.groups) r) r
acted (LeaveHouse gs) own n r = with_groups (left gs r.groups) r
acted (Group g s ask) own n r = relevel (reached g s r) (asked ask g r) r

-- "Kind 0 is all zeros", and stays so: "An absent unit named by a carried command changes nothing"
unfoldable pub step_record : Act → House → ℕ → Record → Record
step_record a own n r = pick (present r) (acted a own n r) r

-- ---- What it does to the house's own bytes

-- "if the house byte is 1, .. the byte 0"; "Each function sets the house byte to 1 after acting."; the extended commands "never
-- touch addressing or house bytes"
abbrev pub heard_after : Act → ℕ → ℕ
heard_after Nothing x = x
heard_after (Address u) x = 0
heard_after (Obey f) x = 1
heard_after (Join u g s) x = x
heard_after (Level u b) x = x
heard_after (JoinAt u g b) x = x
heard_after UnitsOn x = x
heard_after UnitsOff x = x
heard_after (Leave u gs) x = x
heard_after (LeaveHouse gs) x = x
heard_after (Group g s ask) x = x

-- "the number of its modules above level 0, true after every operation": the number that the act leaves above it
abbrev pub house_after : Act → ℕ → House → House
house_after a above own = record { heard = heard_after a own.heard; lit = above }

-- ---- What it does to the table

-- an act run for house h: its sixteen records, each stepped where it lies by the bytes that the house had, and then its own bytes
unfoldable pub run_act : Act → ℕ → List ℕ → List ℕ
run_act a h t =
    let own = house_at t h in
    let after = step_each modules (step_record a own) (h * UNITS) UNITS t in
    put_house after h (house_after a (lit_in after h) own)

-- "The result counts the records whose level differs before and after."
abbrev pub level_of : Record → ℕ
level_of r = r.level

abbrev pub changed : List ℕ → List ℕ → ℕ
changed before after = differing (value_at modules level_of) RECORDS before after
