-- Laws of the whole run.
--
--     draws_match, draws_differ     a draw for each station and call, by a quotient and a remainder
--     load_refused, first_slots     loading that is refused, and the slots of one that is not
--     reported, run_refused         what the run owes by its answer, and where it is refused
--     Ran, ran, run_ran             what the calls of loaded stations leave, and the run with them
--     run_lowest                    RunLowest
use Rattle.std.specs.Prelude.{Result, Ok, Err, ⊤}
use mathlib.Core.Path.{◌≡◌, refl, sym, ap, subst, ◌∙◌}
use mathlib.Core.Bool.{Bool, true, false}
use mathlib.Core.List.{List, [], ◌∷◌, ◌++◌, flat_map}
use Prim.Native.Nat.{ℕ, ◌*◌, ◌/◌, ◌%◌, ◌<◌}
use native.Mathlib.Nat.{div-add-mod, mul-div_cancel_left, mul-mod_right}
use native.Mathlib.Omega.{arith}
use lib.Dec.{eqb, leb}
use lib.ListN.{length, take, drop, replicate}
use lib.Seq.{take_at}
use Rattle.ground.specs.Choice.{pick}
use Rattle.ground.specs.Refusals.{Cause, when, unless, judged, count_report}
use Rattle.ground.specs.declared.Refusal.{Refusal}
use Rattle.ground.specs.declared.Refusal.TheVariants as refusal
use Rattle.ground.proofs.Causes.{judged_map, lowest_given}
use Rattle.station.specs.Stations.{empty_station}
use Rattle.station.specs.Benches.{most_stations, draws_ok}
use Rattle.station.specs.declared.Station.{Station}
use Rattle.bench_run.specs.BenchRuns.{all_say, loadings, is_loaded, loads_answer}
use Rattle.bench_run.specs.BenchRuns.{moment_after, turns_of, line_bytes, mark_bytes, RunSlices, call_causes, run_causes, stations_in, moment_in, turns_in}
use Rattle.bench_run.specs.BenchRuns.{run_answer, run_report, lines_after, marks_after, RunLowest}
use Rattle.bench_run.proofs.LoadLaws.{loads_length, loads_by_draw}

pub draws_match : (n draws calls : ℕ) → draws / n ≡ calls → draws % n ≡ 0 → draws ≡ n * calls
draws_match n draws calls q r = sym (div-add-mod draws n) ∙ rw (q, r) (omega arith)

-- where there is a draw for each, the quotient is the calls and nothing is left
pub draws_differ : (n draws calls : ℕ) → 0 < n → draws ≡ n * calls → (draws / n ≡ calls) × (draws % n ≡ 0)
draws_differ n draws calls some e = (rw e (mul-div_cancel_left calls some), rw e (mul-mod_right n calls))

-- ---- from the answer, all that the run owes

-- an answer that refuses shows which cause applies, whatever else the causes decide
refused_by : {A : Type 0} (cs : List Cause) (n : ℕ) (why : Refusal) (done : A) (refused : Refusal → A)
    → Err why ≡ judged cs (Ok n) Err → refused why ≡ judged cs done refused
unfolding judged
refused_by [] n why done refused e = cc
refused_by (when bad w ∷ cs) n why done refused e = go bad e (refused_by cs n why done refused)
  where
    go : (b : Bool) → Err why ≡ pick b (Err w) (judged cs (Ok n) Err)
        → (Err why ≡ judged cs (Ok n) Err → refused why ≡ judged cs done refused) → refused why ≡ pick b (refused w) (judged cs done refused)
    go true e rest = cc
    go false e rest = rest e
refused_by (unless fine w ∷ cs) n why done refused e = go fine e (refused_by cs n why done refused)
  where
    go : (b : Bool) → Err why ≡ pick b (judged cs (Ok n) Err) (Err w)
        → (Err why ≡ judged cs (Ok n) Err → refused why ≡ judged cs done refused) → refused why ≡ pick b (judged cs done refused) (refused w)
    go true e rest = rest e
    go false e rest = cc

-- ---- loading

module _ (l : RunSlices) (said : all_say (length l.messages / 5) l.messages ≡ true) (five : length l.messages ≡ 5 * length l.loads) where
  by_draw : loads_answer (loadings l.messages l.loads) ≡ pick (draws_ok l.loads) (Ok tt) (Err refusal.Draw)
  by_draw =
      let each : length l.messages / 5 ≡ length l.loads = omega arith in
      loads_by_draw l.messages l.loads (subst (λ (k : ℕ). all_say k l.messages ≡ true) each said)

  -- loading that is refused is refused with 7
  pub load_refused : (why : Refusal) → Err why ≡ loads_answer (loadings l.messages l.loads)
      → (why ≡ refusal.Draw) × (is_loaded (loads_answer (loadings l.messages l.loads)) ≡ false)
  load_refused why e = (go (draws_ok l.loads) (e ∙ by_draw), ap is_loaded (sym e))
    where
      go : (b : Bool) → Err why ≡ pick {A = Result ⊤ Refusal} b (Ok tt) (Err refusal.Draw) → why ≡ refusal.Draw
      go true q = cc
      go false q = cc

-- the stations are in the first slots
pub first_slots : (l : RunSlices) (slots : List Station) → slots ≡ stations_in l ++ drop (length l.loads) (replicate most_stations empty_station)
    → take (length l.loads) slots ≡ stations_in l
first_slots l slots e =
    ap (take (length l.loads)) e ∙ take_at (stations_in l) _ (length l.loads) (loads_length l.messages l.loads)

module _ (l : RunSlices) where
  -- what may still refuse the calls of loaded stations
  abbrev pub rest : List Cause
  rest = call_causes (length l.loads) l.draws l.lines l.marks

  -- what the run owes
  abbrev pub Owed : Result ℕ Refusal → List ℕ → List ℕ → Type 0
  Owed o lines marks = (o ≡ run_answer l) × ((count_report o ≡ run_report l) × ((lines ≡ lines_after l) × (marks ≡ marks_after l)))

  pub reported : {o : Result ℕ Refusal} → o ≡ run_answer l → count_report o ≡ run_report l
  unfolding run_answer
  reported e = ap count_report e ∙ judged_map count_report _ _ (run_causes l)

  pub run_refused : (why : Refusal) → Err why ≡ run_answer l → Owed (Err why) l.lines l.marks
  unfolding run_answer lines_after marks_after
  run_refused why e =
      let count = length (moment_in l).past in
      (e, (reported e, (refused_by (run_causes l) count why _ (λ w. l.lines) e, refused_by (run_causes l) count why _ (λ w. l.marks) e)))

  -- what the calls of loaded stations leave
  pub record Ran (o : Result ℕ Refusal) (lines marks : List ℕ) : Type 0 where
    pub answer : o ≡ judged rest (Ok (length (moment_in l).past)) Err
    pub lines_left : lines ≡ judged rest (line_bytes (turns_in l)) (λ why. l.lines)
    pub marks_left : marks ≡ judged rest (flat_map mark_bytes (turns_in l) ++ drop (2 * length l.lines) l.marks) (λ why. l.marks)

  pub ran : (stations : List Station) (o : Result ℕ Refusal) (lines marks : List ℕ) → stations ≡ stations_in l
      → (o ≡ judged rest (Ok (length (moment_after (length l.loads) stations l.draws (length l.lines)).past)) Err)
      × ((lines ≡ judged rest (line_bytes (turns_of (length l.loads) stations l.draws (length l.lines))) (λ why. l.lines))
      × (marks ≡ judged rest (flat_map mark_bytes (turns_of (length l.loads) stations l.draws (length l.lines))
      ++ drop (2 * length l.lines) l.marks) (λ why. l.marks)))
      → Ran o lines marks
  unfolding moment_in turns_in
  ran stations o lines marks from did =
      let n = length l.loads in
      let k = length l.lines in
      record {
        answer = did.0 ∙ ap (λ (s : List Station). judged rest (Ok (length (moment_after n s l.draws k).past)) Err) from;
        lines_left = did.1.0 ∙ ap (λ (s : List Station). judged rest (line_bytes (turns_of n s l.draws k)) (λ why. l.lines)) from;
        marks_left =
            did.1.1
            ∙ ap (λ (s : List Station). judged rest (flat_map mark_bytes (turns_of n s l.draws k) ++ drop (2 * k) l.marks) (λ why. l.marks)) from;
      }

  -- and so the run, where the tests before them passed
  pub run_ran : {o : Result ℕ Refusal} {lines marks : List ℕ} → Ran o lines marks → all_say (length l.messages / 5) l.messages ≡ true
      → leb 1 (length l.loads) ≡ true → leb (length l.loads) most_stations ≡ true → eqb (length l.messages) (5 * length l.loads) ≡ true
      → is_loaded (loads_answer (loadings l.messages l.loads)) ≡ true → Owed o lines marks
  unfolding run_answer lines_after marks_after judged
  run_ran {o} left said some few five loaded =
      let answer : o ≡ run_answer l = left.answer ∙ passed (Ok (length (moment_in l).past)) Err in
      (answer, (reported answer, (left.lines_left ∙ passed _ (λ why. l.lines), left.marks_left ∙ passed _ (λ why. l.marks))))
    where
      passed : {A : Type 0} (x : A) (f : Refusal → A) → judged rest x f ≡ judged (run_causes l) x f
      passed x f = rw (said, some, few, five, loaded)

pub run_lowest : RunLowest
run_lowest l = lowest_given (run_causes l) refl
