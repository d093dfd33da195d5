-- The exported run is demand 3's list of calls: its tests let through only what loads as `Start` says, and its turns are those of `run`.
--
--     Passed, passed                       what it means that nothing is refused
--     said_at, station_at_lem, loaded_at       the message and the station at a place
--     exported_run                         ExportedRun
use Rattle.std.specs.Prelude.{Result, Ok, Err, ⊤}
use mathlib.Core.Path.{◌≡◌, refl, sym, ap, ◌∙◌}
use mathlib.Core.Bool.{true, false≢true, and-eq-true_iff}
use mathlib.Core.List.{List, [], ◌∷◌}
use Prim.Native.Nat.{ℕ, zero, suc, ◌+◌, ◌*◌, ◌/◌, ◌≤◌, ◌<◌}
use native.Mathlib.Nat.{not-suc-le-zero, le_of_suc-le-suc}
use native.Mathlib.Omega.{arith}
use borrow.Author.Tests.{leb-true, eqb-true}
use lib.ListN.{length, get_or, drop}
use lib.Seq.{drop-drop}
use Rattle.ground.specs.Refusals.{number_given}
use Rattle.ground.specs.declared.Refusal.{Refusal}
use Rattle.ground.proofs.Causes.{none_stops, nothing_refused}
use Rattle.message.specs.declared.Message.{Message}
use Rattle.message.specs.declared.Message.TheVariants.{Address}
use Rattle.station.specs.Stations.{empty_station}
use Rattle.station.specs.Benches.{most_stations}
use Rattle.wire.specs.Messages.{message_in, says_message}
use Rattle.bench_run.specs.BenchRuns.{all_say, loading_by, loadings, is_loaded, else_answer, loads_answer, stations_from, calls_of}
use Rattle.bench_run.specs.BenchRuns.{RunSlices, run_causes, stations_in, moment_in, turns_in, run_answer, lines_after, marks_after}
use Rattle.bench_run.proofs.LoadLaws.{loads_length}
use Rattle.bench_laws.specs.Demand3.{Start}
use Rattle.bench_laws.specs.ExportedRun.{ExportedRun}
use Rattle.bench_laws.proofs.WholeList.{demand_3}

-- ---- nothing is refused

-- what the tests of the run say where all are passed
record Passed (l : RunSlices) : Type 0 where
  say : all_say (length l.messages / 5) l.messages ≡ true
  some : 1 ≤ length l.loads
  most : length l.loads ≤ most_stations
  five : length l.messages ≡ 5 * length l.loads
  loaded : is_loaded (loads_answer (loadings l.messages l.loads)) ≡ true
  whole : length l.draws ≡ length l.loads * length l.lines

passed : (l : RunSlices) → number_given (run_causes l) ≡ 0 → Passed l
passed l e =
    let a = none_stops _ _ _ e in
    let b = none_stops _ _ _ a.1 in
    let c = none_stops _ _ _ b.1 in
    let d = none_stops _ _ _ c.1 in
    let f = none_stops _ _ _ d.1 in
    let g = none_stops _ _ _ f.1 in
    record {
      say = a.0;
      some = leb-true 1 (length l.loads) b.0;
      most = leb-true (length l.loads) most_stations c.0;
      five = eqb-true (length l.messages) (5 * length l.loads) d.0;
      loaded = f.0;
      whole = eqb-true (length l.draws) (length l.loads * length l.lines) g.0;
    }

-- ---- the message and the station at a place

further : (i : ℕ) (bytes : List ℕ) → drop (5 * i) (drop 5 bytes) ≡ drop (5 * suc i) bytes
further i bytes =
    let place : 5 + 5 * i ≡ 5 * suc i = omega arith in
    drop-drop (5 * i) 5 bytes ∙ ap (λ (k : ℕ). drop k bytes) place

said_at : (k : ℕ) (bytes : List ℕ) (i : ℕ) → i < k → all_say k bytes ≡ true → says_message (message_in (drop (5 * i) bytes)) ≡ true
unfolding all_say
said_at zero bytes i h t = absurd (not-suc-le-zero h)
said_at (suc k) bytes zero h t = ((and-eq-true_iff (says_message (message_in bytes)) (all_say k (drop 5 bytes))).0 t).0
said_at (suc k) bytes (suc i) h t =
    let rest = ((and-eq-true_iff (says_message (message_in bytes)) (all_say k (drop 5 bytes))).0 t).1 in
    ap (λ (b : List ℕ). says_message (message_in b)) (sym (further i bytes)) ∙ said_at k (drop 5 bytes) i (le_of_suc-le-suc h) rest

station_at_lem : (bytes loads : List ℕ) (i : ℕ) → i < length loads
    → get_or (stations_from (loadings bytes loads)) i empty_station ≡ (loading_by (message_in (drop (5 * i) bytes)) (get_or loads i 0)).next
unfolding loadings
station_at_lem bytes [] i h = absurd (not-suc-le-zero h)
station_at_lem bytes (d ∷ ds) zero h = refl
station_at_lem bytes (d ∷ ds) (suc i) h =
    station_at_lem (drop 5 bytes) ds i (le_of_suc-le-suc h) ∙ ap (λ (b : List ℕ). (loading_by (message_in b) (get_or ds i 0)).next) (further i bytes)

-- each of them was loaded
else_loaded : (a b : Result ⊤ Refusal) → is_loaded (else_answer a b) ≡ true → (a ≡ Ok tt) × (is_loaded b ≡ true)
else_loaded (Ok tt) b t = (refl, t)
else_loaded (Err why) b t = absurd (false≢true t)

loaded_at : (bytes loads : List ℕ) (i : ℕ) → i < length loads → is_loaded (loads_answer (loadings bytes loads)) ≡ true
    → (loading_by (message_in (drop (5 * i) bytes)) (get_or loads i 0)).answer ≡ Ok tt
unfolding loadings loads_answer
loaded_at bytes [] i h t = absurd (not-suc-le-zero h)
loaded_at bytes (d ∷ ds) zero h t = (else_loaded (loading_by (message_in bytes) d).answer _ t).0
loaded_at bytes (d ∷ ds) (suc i) h t =
    ap (λ (b : List ℕ). (loading_by (message_in b) (get_or ds i 0)).answer) (sym (further i bytes))
    ∙ loaded_at (drop 5 bytes) ds i (le_of_suc-le-suc h) (else_loaded (loading_by (message_in bytes) d).answer _ t).1

-- the message that is said; where none is, any will do
message_of : Result Message Refusal → Message
message_of (Ok m) = m
message_of (Err why) = Address 0 0

is_said : (r : Result Message Refusal) → says_message r ≡ true → r ≡ Ok (message_of r)
unfolding message_of
is_said (Ok m) t = refl
is_said (Err why) t = cc

-- ---- what is lent

module _ (l : RunSlices) (p : Passed l) where
  abbrev n : ℕ
  n = length l.loads

  abbrev said : ℕ → Result Message Refusal
  said i = message_in (drop (5 * i) l.messages)

  abbrev message : ℕ → Message
  message i = message_of (said i)

  abbrev draw : ℕ → ℕ
  draw i = get_or l.loads i 0

  says : (i : ℕ) → i < n → said i ≡ Ok (message i)
  says i h = is_said (said i) (said_at (length l.messages / 5) l.messages i (omega (arith, p.five)) p.say)

  starts : Start most_stations n message draw (stations_in l)
  starts = record {
    some = p.some;
    allowed = p.most;
    many = loads_length l.messages l.loads;
    accepted = λ i h.
        ap (λ (r : Result Message Refusal). (loading_by r (draw i)).answer) (sym (says i h)) ∙ loaded_at l.messages l.loads i h p.loaded;
    loaded = λ i h. station_at_lem l.messages l.loads i h ∙ ap (λ (r : Result Message Refusal). (loading_by r (draw i)).next) (says i h);
  }

pub exported_run : ExportedRun
unfolding moment_in turns_in run_answer lines_after marks_after
exported_run l none =
    let p = passed l none in
    record {
      message = message l p;
      says = says l p;
      start = starts l p;
      drawn = p.whole;
      leads = refl;
      claim = demand_3 _ _ _ _ _ (starts l p) (calls_of (length l.loads) l.draws (length l.lines));
      answer = nothing_refused _ _ (run_causes l) none;
      lines = nothing_refused _ _ (run_causes l) none;
      marks = nothing_refused _ _ (run_causes l) none;
    }
