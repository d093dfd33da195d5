-- A motion run on the lent bytes of a shutter table, whatever they are: why it is refused, what is answered, and what is left.
use Rattle.std.specs.Prelude.{ℕ, ◌≡◌, ◌&&◌, List, [], ◌∷◌, map, eqb, leb, length, Result, Ok, Err}
use Rattle.ground.specs.Refusals.{Cause, unless, judged, cause_number}
use Rattle.ground.specs.declared.Refusal.TheVariants as refusal
use Rattle.plan.specs.Motions.{motion_fits}
use Rattle.plan.specs.declared.Motion.{Motion}
use Rattle.plan.specs.declared.Motion.TheVariants.{SelfTest, OpenProtected, Limit, OpenUnprotected, OpenHouse, OpenAll}
use Rattle.plan.specs.declared.Motion.TheVariants.{Include, Begin, Exclude, ExcludeAll, CloseHouse, CloseAll}
use Rattle.shutter_table.specs.ShutterTable.{SHUTTER_TABLE_BYTES, move_all, openings_changed}
use Rattle.ground.specs.declared.Refusal.{Refusal}

-- the unit that a motion names; 0 where it names none
abbrev pub unit_named : Motion → ℕ
unit_named (OpenProtected u x) = u
unit_named (Limit u x) = u
unit_named (OpenUnprotected u x) = u
unit_named OpenHouse = 0
unit_named OpenAll = 0
unit_named (Include u l x) = u
unit_named (Begin l) = 0
unit_named (Exclude u l) = u
unit_named ExcludeAll = 0
unit_named CloseHouse = 0
unit_named CloseAll = 0
unit_named SelfTest = 0

-- "16 SHUTTER TABLE (length not 5,120)", then "house or unit above 15", "18 OPENING last"
abbrev pub motion_causes : Motion → ℕ → List ℕ → List Cause
motion_causes a h t =
    unless (eqb (length t) SHUTTER_TABLE_BYTES) refusal.ShutterTable
    ∷ unless (leb h 15 && leb (unit_named a) 15) refusal.Message
    ∷ unless (motion_fits a) refusal.Opening
    ∷ []

-- the answer: the shutters whose opening differs
unfoldable pub motion_answer : Motion → ℕ → List ℕ → Result ℕ Refusal
motion_answer a h t = judged (motion_causes a h t) (Ok (openings_changed t (move_all a h t))) Err

-- the table that is left: a refusal "changes nothing lent"
unfoldable pub shutters_after : Motion → ℕ → List ℕ → List ℕ
shutters_after a h t = judged (motion_causes a h t) (move_all a h t) (λ why. t)

-- the order of its causes: "16 .. after 1", and so before 2: proofs/Runs.antt
abbrev pub MotionOrder : Type 0
MotionOrder = (a : Motion) (h : ℕ) (t : List ℕ) → map cause_number (motion_causes a h t) ≡ 16 ∷ 2 ∷ 18 ∷ []
