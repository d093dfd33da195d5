-- What a message asks of the modules of its house (01, 'The module table'; XTC798, type 3), in 01's order, and where it is refused. What it asks of
-- shutters is in Motions.
use Rattle.std.specs.Prelude.{ℕ, ◌/◌, ◌%◌, ◌^◌, Bool, true, false, not, ◌&&◌, ◌||◌, List, [], ◌∷◌, eqb, leb, Result, Ok, Err}
use Rattle.ground.specs.Choice.{pick}
use Rattle.ground.specs.Refusals.{Cause, unless, judged, Report, reports, refuses}
use Rattle.ground.specs.declared.Refusal.TheVariants as refusal
use Rattle.message.specs.Messages.{message_ok}
use Rattle.message.specs.declared.Message.{Message}
use Rattle.message.specs.declared.Message.TheVariants.{Address as Calls, Function as Command, Extended}
use Rattle.plan.specs.declared.Act.TheVariants.{Nothing, Address, Obey, Join, Level, JoinAt, UnitsOn, UnitsOff}
use Rattle.plan.specs.declared.Act.TheVariants.{Leave, LeaveHouse, Group}
use Rattle.plan.specs.declared.GroupAct.{GroupAct}
use Rattle.plan.specs.declared.GroupAct.TheVariants.{Execute, PutOff, StepDim, StepBright}
use Rattle.plan.specs.declared.Plan.{Plan}
use Rattle.plan.specs.declared.Plan.TheVariants.{Run, Move}
use Rattle.plan.specs.Motions.{motion_plan, motion_fits}
use Rattle.ground.specs.declared.Refusal.{Refusal}

-- the house that a message is for
abbrev pub house_of : Message → ℕ
house_of (Calls h u) = h
house_of (Command h f) = h
house_of (Extended h u d c) = h

-- bit k of a byte
abbrev pub bit : ℕ → ℕ → Bool
bit k x = eqb (x / 2 ^ k % 2) 1

-- "B is data modulo 64, G is data's top two bits"; "the groups in the low four bits"
abbrev pub level_in : ℕ → ℕ
level_in d = d % 64

abbrev pub group_in : ℕ → ℕ
group_in d = d / 64

abbrev pub groups_in : ℕ → ℕ
groups_in d = d % 16

-- 02, A5: "its reference, or 16 for absolute"
abbrev pub ABSOLUTE : ℕ
ABSOLUTE = 16

-- XTC798, of 30: "G1 G0 1 x S3 S2 S1 S0 .. RELATIVE to the GRP REFERENCE S3S2S1S0", "G1 G0 0 x x x x x .. ABSOLUTE"; of 36 and 3C the same, with bit 4
-- for what is asked
abbrev pub reference_in : ℕ → ℕ
reference_in d = pick (bit 5 d) (d % 16) ABSOLUTE

-- ---- Extended commands

abbrev pub not_carried : Result Plan Refusal
not_carried = Err refusal.NotCarried

-- "35: leave the groups in the low four bits; top four 0 for the unit, 15 for the house"
abbrev pub leave_plan : ℕ → ℕ → Result Plan Refusal
leave_plan u d = pick (eqb (d / 16) 0) (Ok (Run (Leave u (groups_in d)))) (pick (eqb (d / 16) 15) (Ok (Run (LeaveHouse (groups_in d)))) not_carried)

-- 36 and 3C, for the members of G, by the data's reference
abbrev pub group_plan : ℕ → GroupAct → Result Plan Refusal
group_plan d ask = Ok (Run (Group (group_in d) (reference_in d) ask))

-- "36, bits 5 and 4: 00 sets the house's members of G to their presets, 01 to 0."; 10 and 11 are these forms, relative
abbrev pub execute_plan : ℕ → Result Plan Refusal
execute_plan d = pick (bit 4 d) (group_plan d PutOff) (group_plan d Execute)

-- "3C ..: members that are lamps step as bright (bit 4 set) or dim."
abbrev pub step_plan : ℕ → Result Plan Refusal
step_plan d = pick (bit 4 d) (group_plan d StepBright) (group_plan d StepDim)

-- "37 with bits 5, 4 of 00 or 01, or 10 with low four bits 0", and its relative form, 11: heard, no change
abbrev pub status_plan : ℕ → Result Plan Refusal
status_plan d = pick (not (bit 5 d) || bit 4 d || eqb (d % 16) 0) (Ok (Run Nothing)) not_carried

-- by unit, data and command: "30 ..: join G at the current level. 31: level B. 32: join G with preset B.", "33, 34: all present units of the house
-- to 63, to 0.", "38 to 3B: heard, no change"; "Everything else is NOT CARRIED"
unfoldable pub extended_plan : ℕ → ℕ → ℕ → Result Plan Refusal
extended_plan u d c =
    pick (eqb c 0x30) (Ok (Run (Join u (group_in d) (reference_in d))))
    (pick (eqb c 0x31) (Ok (Run (Level u (level_in d))))
    (pick (eqb c 0x32) (Ok (Run (JoinAt u (group_in d) (level_in d))))
    (pick (eqb c 0x33) (Ok (Run UnitsOn))
    (pick (eqb c 0x34) (Ok (Run UnitsOff))
    (pick (eqb c 0x35) (leave_plan u d)
    (pick (eqb c 0x36) (execute_plan d)
    (pick (eqb c 0x3C) (step_plan d)
    (pick (eqb c 0x37) (status_plan d)
    (pick (leb 0x38 c && leb c 0x3B) (Ok (Run Nothing))
    not_carried)))))))))

-- ---- Every message

-- XTC798's "TYPE" is the command's top four bits; type 0 is "Shutters and Sunshades"
abbrev pub for_shutters : ℕ → Bool
for_shutters c = eqb (c / 16) 0

abbrev pub type_zero : Message → Bool
type_zero (Calls h u) = false
type_zero (Command h f) = false
type_zero (Extended h u d c) = for_shutters c

-- what a message asks, whatever its house and unit
abbrev pub plan_of : Message → Result Plan Refusal
plan_of (Calls h u) = Ok (Run (Address u))
plan_of (Command h f) = Ok (Run (Obey f))
plan_of (Extended h u d c) = pick (for_shutters c) (motion_plan u d c) (extended_plan u d c)

-- whether it is carried: its plan runs
abbrev pub runs : Result Plan Refusal → Bool
runs (Ok p) = true
runs (Err why) = false

abbrev pub carried : Message → Bool
carried m = runs (plan_of m)

-- "18 OPENING last, when 01, 02, 03 or 07 carries 26..31"
abbrev pub fits : Result Plan Refusal → Bool
fits (Ok (Run a)) = true
fits (Ok (Move a)) = motion_fits a
fits (Err why) = true

-- "MESSAGE: house or unit above 15", "NOT CARRIED: as said", "OPENING last"
abbrev pub plan_causes : Message → List Cause
plan_causes m = unless (message_ok m) refusal.Message ∷ unless (carried m) refusal.NotCarried ∷ unless (fits (plan_of m)) refusal.Opening ∷ []

unfoldable pub plan_answer : Message → Result Plan Refusal
plan_answer m = judged (plan_causes m) (plan_of m) Err

-- the number, and the plan where it is none of a refusal
abbrev pub plan_report : Result Plan Refusal → Report Plan
plan_report (Ok p) = reports (p ∷ [])
plan_report (Err why) = refuses why
