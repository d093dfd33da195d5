-- An act run on the lent bytes of a module table, whatever they are: why it is refused, what is answered, and what is left. What it does is in
-- record's ModuleTable.
use Rattle.std.specs.Prelude.{ℕ, ◌≡◌, List, [], ◌∷◌, eqb, leb, length, Result, Ok, Err}
use Rattle.ground.specs.Records.{LaidOut, Sound}
use Rattle.ground.specs.Refusals.{Cause, unless, judged, number_given, lowest}
use Rattle.ground.specs.declared.Refusal.TheVariants as refusal
use Rattle.plan.specs.declared.Act.{Act}
use Rattle.record.specs.declared.Record.{Record}
use Rattle.record.specs.Layout.{TABLE_BYTES, modules}
use Rattle.record.specs.ModuleTable.{run_act, changed}
use Rattle.record.specs.Statements.{FourEach}
use Rattle.ground.specs.declared.Refusal.{Refusal}

-- TABLE: "1 speaks of 3,104" (02, A5); "MESSAGE: house .. above 15"
abbrev pub act_causes : ℕ → List ℕ → List Cause
act_causes h t = unless (eqb (length t) TABLE_BYTES) refusal.Table ∷ unless (leb h 15) refusal.Message ∷ []

-- the answer: the records whose level differs
unfoldable pub act_answer : Act → ℕ → List ℕ → Result ℕ Refusal
act_answer a h t = judged (act_causes h t) (Ok (changed t (run_act a h t))) Err

-- the table that is left: a refusal "changes nothing lent"
unfoldable pub modules_after : Act → ℕ → List ℕ → List ℕ
modules_after a h t = judged (act_causes h t) (run_act a h t) (λ why. t)

-- modules lie in their table by the laws of lent records: proofs/TableLaws.antt
abbrev pub ModulesLaid : Type 0
ModulesLaid = LaidOut modules

-- and so does every record with four presets and four references that is put there
abbrev pub ModulesSound : Type 0
ModulesSound = (r : Record) → FourEach r → Sound modules r

-- "Within one routine the lowest number that applies is given.": proofs/Runs.antt
abbrev pub ActLowest : Type 0
ActLowest = (h : ℕ) (t : List ℕ) → lowest (act_causes h t) ≡ number_given (act_causes h t)
