-- Laws of plans.
--
--     no_bit           a byte has no bit above 7
--     plan_each        what holds of every act, of every motion and of NOT CARRIED holds of every plan
--     plan_rest        a plan is an act, a motion or NOT CARRIED
--     fits_rest        so past the test of the message the test of the opening alone gives the answer
--     answer_runs      an answer that runs: the message is valid and carried, its opening fits, and its plan is the answer
--     answer_refused   an answer that does not, for a valid message: it is not carried, or it is and its opening does not fit
--     carried_runs, only_type_zero, which_carried, which_openings, plan_lowest      CarriedRuns, OnlyTypeZero, WhichCarried, WhichOpenings, PlanLowest
--     group_forms_carried, which_reference                                          GroupFormsCarried, WhichReference
use Rattle.std.specs.Prelude.{Result, Ok, Err}
use Prim.Native.Nat.{ℕ, ◌/◌, ◌%◌, ◌^◌, ◌≤◌, ◌<◌}
use mathlib.Core.Path.{◌≡◌, refl, sym, ap, ◌∙◌}
use mathlib.Core.Bool.{Bool, true, false, not, ◌&&◌, ◌||◌, false≢true}
use mathlib.Core.List.{[], ◌∷◌}
use mathlib.Core.Logic.{◌⊎◌, inl, inr}
use native.Mathlib.Nat.{lt_of_lt_of_le, div-eq_of_lt}
use native.Mathlib.Omega.{arith}
use native.Mathlib.Decide.{ℕ_discrete}
use borrow.Author.Tests.{ltb-true, ltb-false, eqb-true, le-leb, lt-leb, ne_eqb}
use lib.Dec.{eqb, leb}
use lib.Pow.{pow_mono}
use Rattle.ground.specs.Choice.{pick}
use Rattle.ground.specs.Records.{all_below}
use Rattle.ground.specs.Refusals.{unless, judged, number_given}
use Rattle.ground.specs.declared.Refusal.{Refusal}
use Rattle.ground.specs.declared.Refusal.TheVariants as refusal
use Rattle.ground.proofs.Choices.{pick_both}
use Rattle.ground.proofs.Records.{below_at}
use Rattle.ground.proofs.Causes.{none_stops, judged_holds, lowest_given}
use Rattle.message.specs.Messages.{message_ok}
use Rattle.message.specs.declared.Message.{Message}
use Rattle.message.specs.declared.Message.TheVariants.{Address as Calls, Function as Command, Extended}
use Rattle.plan.specs.declared.Act.{Act}
use Rattle.plan.specs.declared.Act.TheVariants.{Nothing}
use Rattle.plan.specs.declared.Motion.{Motion}
use Rattle.plan.specs.declared.Plan.{Plan}
use Rattle.plan.specs.declared.Plan.TheVariants.{Run, Move}
use Rattle.plan.specs.Motions.{opening_in, motion_plan}
use Rattle.plan.specs.Plans.{bit, not_carried, extended_plan, type_zero, for_shutters, plan_of, runs, carried, fits, plan_causes, plan_answer}
use Rattle.plan.specs.Statements.{CarriedRuns, OnlyTypeZero, WhichCarried, GroupFormsCarried, WhichReference, carries_opening, WhichOpenings, PlanLowest}

pub no_bit : (k x : ℕ) → x < 256 → 8 ≤ k → bit k x ≡ false
no_bit k x h l =
    let gone : x / 2 ^ k ≡ 0 = div-eq_of_lt (lt_of_lt_of_le h (pow_mono l)) in
    rw gone

-- ---- an act, a motion or NOT CARRIED

module _ (P : Result Plan Refusal → Type 0) (none : P not_carried) where
  -- what holds of both plans holds of the chosen one
  either : (b : Bool) {p q : Result Plan Refusal} → P p → P q → P (pick b p q)
  either b {p} {q} = pick_both P b p q

  -- a plan for modules
  extended_each : ((a : Act) → P (Ok (Run a))) → (u d c : ℕ) → P (extended_plan u d c)
  unfolding extended_plan
  extended_each act u d c =
      either (eqb c 0x30) (act _)
      (either (eqb c 0x31) (act _)
      (either (eqb c 0x32) (act _)
      (either (eqb c 0x33) (act _)
      (either (eqb c 0x34) (act _)
      (either (eqb c 0x35) (either (eqb (d / 16) 0) (act _) (either (eqb (d / 16) 15) (act _) none))
      (either (eqb c 0x36) (either (bit 4 d) (act _) (act _))
      (either (eqb c 0x3C) (either (bit 4 d) (act _) (act _))
      (either (eqb c 0x37) (either (not (bit 5 d) || bit 4 d || eqb (d % 16) 0) (act _) none)
      (either (leb 0x38 c && leb c 0x3B) (act _) none)))))))))

  -- a plan for shutters
  motion_each : ((a : Motion) → P (Ok (Move a))) → (u d c : ℕ) → P (motion_plan u d c)
  unfolding motion_plan
  motion_each move u d c =
      either (eqb c 0x01) (move _)
      (either (eqb c 0x02) (move _)
      (either (eqb c 0x03) (move _)
      (either (eqb c 0x04) (move _)
      (either (eqb c 0x05) (move _)
      (either (eqb c 0x07) (move _)
      (either (eqb c 0x08) (move _)
      (either (eqb c 0x09) (move _)
      (either (eqb c 0x0A) (move _)
      (either (eqb c 0x0B) (move _)
      (either (eqb c 0x0C) (move _)
      (either (eqb c 0x0E || eqb c 0x0F) (move _) none)))))))))))

  pub plan_each : ((a : Act) → P (Ok (Run a))) → ((a : Motion) → P (Ok (Move a))) → (m : Message) → P (plan_of m)
  plan_each act move (Calls h u) = act _
  plan_each act move (Command h f) = act _
  plan_each act move (Extended h u d c) = either (eqb (c / 16) 0) (motion_each move u d c) (extended_each act u d c)

-- a plan that does not run is NOT CARRIED
abbrev Settled : Result Plan Refusal → Type 0
Settled p = p ≡ judged (unless (runs p) refusal.NotCarried ∷ []) p Err

pub plan_rest : (m : Message) → plan_of m ≡ judged (unless (carried m) refusal.NotCarried ∷ []) (plan_of m) Err
unfolding judged
plan_rest = plan_each Settled refl (λ a. refl) (λ a. refl)

-- such a plan is judged alike without the first cause
settled_rest : (p : Result Plan Refusal) → Settled p
    → judged (unless (fits p) refusal.Opening ∷ []) p Err
    ≡ judged (unless (runs p) refusal.NotCarried ∷ unless (fits p) refusal.Opening ∷ []) p Err
unfolding judged
settled_rest (Ok (Run a)) e = refl
settled_rest (Ok (Move a)) e = refl
settled_rest (Err why) e = e

pub fits_rest : (m : Message)
    → judged (unless (fits (plan_of m)) refusal.Opening ∷ []) (plan_of m) Err
    ≡ judged (unless (carried m) refusal.NotCarried ∷ unless (fits (plan_of m)) refusal.Opening ∷ []) (plan_of m) Err
fits_rest m = settled_rest (plan_of m) (plan_rest m)

-- past the first test the plan is the answer, unless its opening is above 25
pub asked_rest : (m : Message) {p : Result Plan Refusal} → plan_of m ≡ p → fits p ≡ true
    → p ≡ judged (unless (carried m) refusal.NotCarried ∷ unless (fits (plan_of m)) refusal.Opening ∷ []) (plan_of m) Err
unfolding judged
asked_rest m {p} e f =
    let fit : plan_of m ≡ judged (unless (fits (plan_of m)) refusal.Opening ∷ []) (plan_of m) Err = rw (ap fits e ∙ f) refl in
    sym e ∙ fit ∙ fits_rest m

pub unfit_rest : (m : Message) {p : Result Plan Refusal} → plan_of m ≡ p → fits p ≡ false
    → Err refusal.Opening ≡ judged (unless (carried m) refusal.NotCarried ∷ unless (fits (plan_of m)) refusal.Opening ∷ []) (plan_of m) Err
unfolding judged
unfit_rest m {p} e f =
    let unfit : Err refusal.Opening ≡ judged (unless (fits (plan_of m)) refusal.Opening ∷ []) (plan_of m) Err = rw (ap fits e ∙ f) refl in
    unfit ∙ fits_rest m

-- ---- what an answer says

pub answer_runs : (m : Message) (p : Result Plan Refusal) → plan_answer m ≡ p → runs p ≡ true
    → (message_ok m ≡ true) × (carried m ≡ true) × (fits (plan_of m) ≡ true) × (plan_of m ≡ p)
unfolding plan_answer
answer_runs m p e t =
    let valid = none_stops _ _ _ told.0 in
    let carries = none_stops _ _ _ valid.1 in
    (valid.0, carries.0, (none_stops _ _ _ carries.1).0, told.1)
  where
    told : (number_given (plan_causes m) ≡ 0) × (plan_of m ≡ p)
    told =
        judged_holds (λ q. q ≡ p → (number_given (plan_causes m) ≡ 0) × (plan_of m ≡ p)) (plan_of m) Err (plan_causes m)
        (λ none is. (none, is))
        (λ why is. absurd (false≢true (ap runs is ∙ t)))
        e

pub answer_refused : (m : Message) (why : Refusal) → message_ok m ≡ true → plan_answer m ≡ Err why
    → ((carried m ≡ false) × (why ≡ refusal.NotCarried)) ⊎ ((carried m ≡ true) × (fits (plan_of m) ≡ false) × (why ≡ refusal.Opening))
unfolding plan_answer judged
answer_refused m why t e = go (carried m) (fits (plan_of m)) refl refl
  where
    go : (b f : Bool) → carried m ≡ b → fits (plan_of m) ≡ f
        → ((carried m ≡ false) × (why ≡ refusal.NotCarried)) ⊎ ((carried m ≡ true) × (fits (plan_of m) ≡ false) × (why ≡ refusal.Opening))
    go false f n g = let z = rw (t, n) at e in inl (n, cc)
    go true false y n = let z = rw (t, y, n) at e in inr (y, n, cc)
    go true true y g = let z = rw (t, y, g) at e in absurd (false≢true (sym (ap runs z) ∙ y))

-- ---- the statements

pub carried_runs : CarriedRuns
carried_runs m = (go (plan_of m), back)
  where
    go : (p : Result Plan Refusal) → runs p ≡ true → ((a : Act) × (p ≡ Ok (Run a))) ⊎ ((a : Motion) × (p ≡ Ok (Move a)))
    go (Ok (Run a)) t = inl (a, refl)
    go (Ok (Move a)) t = inr (a, refl)
    go (Err why) t = absurd (false≢true t)

    back : ((a : Act) × (plan_of m ≡ Ok (Run a))) ⊎ ((a : Motion) × (plan_of m ≡ Ok (Move a))) → carried m ≡ true
    back (inl (a, e)) = rw e
    back (inr (a, e)) = rw e

-- two tests that agree
abbrev alike : Bool → Bool → Bool
alike true b = b
alike false b = not b

alike_same : (a b : Bool) → alike a b ≡ true → a ≡ b
alike_same true b e = sym e
alike_same false true e = absurd (false≢true e)
alike_same false false e = refl

-- no act is a motion
apart : {a : Act} {b : Motion} → ◌≡◌ {A = Result Plan Refusal} (Ok (Run a)) (Ok (Move b)) → ⊥
apart e = let z : ◌≡◌ {A = ℕ} 0 1 = cc in omega arith

no_act : (m : Message) (a : Act) → type_zero m ≡ true → plan_of m ≡ Ok (Run a) → ⊥
no_act (Calls h u) a type e = false≢true type
no_act (Command h f) a type e = false≢true type
no_act (Extended h u d c) a type e =
    motion_each (λ p. p ≡ Ok (Run a) → ⊥) (λ e. false≢true (ap runs e)) (λ b e. apart (sym e)) u d c (rw type at e)

only_extended : (m : Message) (a : Motion) → plan_of m ≡ Ok (Move a) → type_zero m ≡ true
only_extended (Calls h u) a e = absurd (apart e)
only_extended (Command h f) a e = absurd (apart e)
only_extended (Extended h u d c) a e = go (for_shutters c) refl
  where
    go : (b : Bool) → for_shutters c ≡ b → for_shutters c ≡ true
    go true t = t
    go false t = absurd (extended_each (λ p. p ≡ Ok (Move a) → ⊥) (λ e. false≢true (ap runs e)) (λ b e. apart e) u d c (rw t at e))

pub only_type_zero : OnlyTypeZero
only_type_zero = record { of_type_zero = no_act; others = only_extended }

-- which of the sixteen commands of type 0 run, whatever their unit and data: one computed test
runs_tested : (u d : ℕ) → all_below 16 (λ c. alike (runs (motion_plan u d c)) (not (eqb c 0x00 || eqb c 0x06 || eqb c 0x0D))) ≡ true
unfolding motion_plan all_below
runs_tested u d = refl

pub which_carried : WhichCarried
which_carried h u d c type =
    let low : c < 16 = omega (arith, eqb-true (c / 16) 0 type) in
    rw type (alike_same _ _ (below_at (λ k. alike (runs (motion_plan u d k)) (not (eqb k 0x00 || eqb k 0x06 || eqb k 0x0D))) 16 (runs_tested u d) c low))

-- each of them is one of three commands, and its plan runs
pub group_forms_carried : GroupFormsCarried
unfolding extended_plan
group_forms_carried =
    record {
      all = λ h u d c is. all u d c (ℕ_discrete c 0x30) (ℕ_discrete c 0x36) (ℕ_discrete c 0x3C) is;
      status = λ h u d. status (bit 5 d) (bit 4 d) _;
    }
  where
    either_runs : (b : Bool) (x y : Act) → runs (pick b (Ok (Run x)) (Ok (Run y))) ≡ true
    either_runs b x y = pick_both (λ p. runs p ≡ true) b (Ok (Run x)) (Ok (Run y)) refl refl

    all : (u d c : ℕ) → Dec (c ≡ 0x30) → Dec (c ≡ 0x36) → Dec (c ≡ 0x3C) → (eqb c 0x30 || eqb c 0x36 || eqb c 0x3C) ≡ true
        → runs (pick (for_shutters c) (motion_plan u d c) (extended_plan u d c)) ≡ true
    all u d c (yes e) _ _ is = rw e
    all u d c (no _) (yes e) _ is = rw e (either_runs (bit 4 d) _ _)
    all u d c (no _) (no _) (yes e) is = rw e (either_runs (bit 4 d) _ _)
    all u d c (no a) (no b) (no n) is = absurd (false≢true (rw (ne_eqb _ _ a, ne_eqb _ _ b, ne_eqb _ _ n) at is))

    status : (a b z : Bool) → runs (pick (not a || b || z) (Ok (Run Nothing)) not_carried) ≡ not (a && not b && not z)
    status true true z = refl
    status true false true = refl
    status true false false = refl
    status false b z = refl

pub which_reference : WhichReference
which_reference = record { relative = λ d set. rw set (refl, omega arith); absolute = λ d clear. rw clear }

-- "26..31", and what is left
above_25 : (x : ℕ) → leb x 25 ≡ not (leb 26 x)
above_25 x = go (leb 26 x) refl
  where
    go : (b : Bool) → leb 26 x ≡ b → leb x 25 ≡ not (leb 26 x)
    go true t = rw t (lt-leb x 25 (ltb-true 25 x t))
    go false t = rw t (le-leb x 25 (ltb-false 25 x t))

-- a choice of plans fits where the chosen one does
pick_fits : (b : Bool) (p q : Result Plan Refusal) → fits (pick b p q) ≡ pick b (fits p) (fits q)
pick_fits true p q = refl
pick_fits false p q = refl

pick_same : (b x : Bool) → pick b x x ≡ x
pick_same true x = refl
pick_same false x = refl

extended_fit : (u d c : ℕ) → fits (extended_plan u d c) ≡ true
extended_fit = extended_each (λ p. fits p ≡ true) refl (λ a. refl)

pub which_openings : WhichOpenings
unfolding motion_plan
which_openings h u d c = go (ℕ_discrete c 0x01) (ℕ_discrete c 0x02) (ℕ_discrete c 0x03) (ℕ_discrete c 0x07)
  where
    go : Dec (c ≡ 0x01) → Dec (c ≡ 0x02) → Dec (c ≡ 0x03) → Dec (c ≡ 0x07)
        → fits (plan_of (Extended h u d c)) ≡ not (carries_opening c && leb 26 (opening_in d))
    go (yes e) _ _ _ = rw e (above_25 (opening_in d))
    go (no _) (yes e) _ _ = rw e (above_25 (opening_in d))
    go (no _) (no _) (yes e) _ = rw e (above_25 (opening_in d))
    go (no _) (no _) (no _) (yes e) = rw e (above_25 (opening_in d))
    go (no n1) (no n2) (no n3) (no n7) = simp (ne_eqb _ _ n1, ne_eqb _ _ n2, ne_eqb _ _ n3, ne_eqb _ _ n7, pick_fits, pick_same, extended_fit)

pub plan_lowest : PlanLowest
plan_lowest m = lowest_given _ refl
