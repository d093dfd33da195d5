-- What holds of plans: proofs/PlanLaws.antt.
use Rattle.std.specs.Prelude.{ℕ, ◌%◌, ◌<◌, eqb, leb, ◌≡◌, Bool, true, false, not, ◌&&◌, ◌||◌, ◌↔◌, ◌⊎◌, Ok}
use Rattle.ground.specs.Refusals.{number_given, lowest}
use Rattle.message.specs.declared.Message.{Message}
use Rattle.message.specs.declared.Message.TheVariants.{Extended}
use Rattle.plan.specs.declared.Act.{Act}
use Rattle.plan.specs.declared.Motion.{Motion}
use Rattle.plan.specs.declared.Plan.TheVariants.{Run, Move}
use Rattle.plan.specs.Motions.{opening_in}
use Rattle.plan.specs.Plans.{bit, ABSOLUTE, reference_in, type_zero, for_shutters, plan_of, carried, fits, plan_causes}

-- a message is carried exactly when it asks for an act or a motion
abbrev pub CarriedRuns : Type 0
CarriedRuns = (m : Message) → (carried m ≡ true) ↔ (((a : Act) × (plan_of m ≡ Ok (Run a))) ⊎ ((a : Motion) × (plan_of m ≡ Ok (Move a))))

-- motions are what type 0 asks for, "and it never changes the module table"; no other message asks for one
pub record OnlyTypeZero : Type 0 where
  pub of_type_zero : (m : Message) (a : Act) → type_zero m ≡ true → plan_of m ≡ Ok (Run a) → ⊥
  pub others : (m : Message) (a : Motion) → plan_of m ≡ Ok (Move a) → type_zero m ≡ true

-- of type 0, "01 to 05, 07 to 0C" act and "0E and 0F are heard only"; 00, 06 and 0D are not carried
abbrev pub WhichCarried : Type 0
WhichCarried = (h u d c : ℕ) → for_shutters c ≡ true → carried (Extended h u d c) ≡ not (eqb c 0x00 || eqb c 0x06 || eqb c 0x0D)

-- 02, A5: "4 no longer covers these forms": 30, 36 and 3C are carried whatever their data, and 37 but for bits 5, 4 of 10 with low four bits that
-- are not 0
pub record GroupFormsCarried : Type 0 where
  pub all : (h u d c : ℕ) → (eqb c 0x30 || eqb c 0x36 || eqb c 0x3C) ≡ true → carried (Extended h u d c) ≡ true
  pub status : (h u d : ℕ) → carried (Extended h u d 0x37) ≡ not (bit 5 d && not (bit 4 d) && not (eqb (d % 16) 0))

-- "with a reference from 0 to 15": a relative form names one of these, which is never taken for absolute, and the others name none
pub record WhichReference : Type 0 where
  pub relative : (d : ℕ) → bit 5 d ≡ true → (reference_in d ≡ d % 16) × (reference_in d < ABSOLUTE)
  pub absolute : (d : ℕ) → bit 5 d ≡ false → reference_in d ≡ ABSOLUTE

-- "18 .. when 01, 02, 03 or 07 carries 26..31", by the data alone
abbrev pub carries_opening : ℕ → Bool
carries_opening c = eqb c 0x01 || eqb c 0x02 || eqb c 0x03 || eqb c 0x07

abbrev pub WhichOpenings : Type 0
WhichOpenings = (h u d c : ℕ) → fits (plan_of (Extended h u d c)) ≡ not (carries_opening c && leb 26 (opening_in d))

-- "Within one routine the lowest number that applies is given."
abbrev pub PlanLowest : Type 0
PlanLowest = (m : Message) → lowest (plan_causes m) ≡ number_given (plan_causes m)
