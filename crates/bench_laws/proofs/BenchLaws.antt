-- Laws of the bench, station by station: what one call leaves in a slot and marks DONE, and what the line says of those that send.
--
--     ok_all                       the n stations are right as each of them is
--     turn_at, turned               each station after the line's half-cycle, and its mark
--     line_some                    the line is 0, or what some station sends
--     Turns, movable               what a call that is not refused gives and leaves, and what is known of each station
--     Called, called               a call is refused and changes nothing, or turns every station, as these say
--     bench_number, bench_refuses  valid stations are refused by their draws alone
use Rattle.std.specs.Prelude.{Ok}
use mathlib.Core.Path.{◌≡◌, refl, sym, ap, subst, ◌∙◌}
use mathlib.Core.Logic.{◌⊎◌, inl, inr}
use mathlib.Core.Bool.{Bool, true, false, ◌&&◌}
use mathlib.Core.List.{List, [], ◌∷◌, zip_with}
use Prim.Native.Nat.{ℕ, zero, suc, ◌≤◌, ◌<◌, max, zero-le, suc-le-suc}
use native.Mathlib.Nat.{le_of_suc-le-suc, not-suc-le-zero}
use native.Mathlib.Decide.{dec_le}
use native.Mathlib.Omega.{arith}
use borrow.Author.Tests.{le-leb, eq-eqb}
use lib.Dec.{eqb, leb}
use lib.ListN.{length, get_or}
use Rattle.ground.specs.Choice.{pick}
use Rattle.ground.specs.Refusals.{judged}
use Rattle.ground.specs.declared.Refusal.TheVariants as refusal
use Rattle.station.specs.declared.Station.{Station}
use Rattle.station.specs.declared.Turn.{Turn}
use Rattle.station.specs.Stations.{empty_station, station_ok, draw_ok, sends_of, turn_of, is_done}
use Rattle.station.specs.Benches.{bench_report, line_of, move_all, done_all, stations_ok, draws_ok, turn_all, bench_refused, bench_on}
use Rattle.station.specs.declared.bench.BenchTurn.{BenchTurn}
use Rattle.station.proofs.SlotLaws.{ok_in, draw_in, line_in, line_below, length_moved}
use Rattle.station.proofs.TurnLaws.{Movable}
use Rattle.station.proofs.BenchCases.{Judged, refuses, turns, bench_judged}
use Rattle.bench_run.specs.Calls.{Moment, next_moment, call}
use Rattle.bench_laws.specs.Demand3.{drawn_for}

-- ---- lists of stations

ok_all : (ss : List Station) → ((i : ℕ) → i < length ss → station_ok (get_or ss i empty_station) ≡ true) → stations_ok ss ≡ true
unfolding stations_ok
ok_all [] ok = refl
ok_all (s ∷ ss) ok = rw (ok 0 (suc-le-suc zero-le)) (ok_all ss (λ i h. ok (suc i) (suc-le-suc h)))

module _ (line : ℕ) where
  -- the turn of the station at a place, with the draw at that place
  abbrev pub turn_at : List Station → List ℕ → ℕ → Turn
  turn_at ss ds i = turn_of (get_or ss i empty_station) line (get_or ds i 0)

  turned : (ss : List Station) (ds : List ℕ) (i : ℕ) → i < length ss → i < length ds
      → (get_or (move_all line ss ds) i empty_station ≡ (turn_at ss ds i).next) × (get_or (done_all line ss ds) i false ≡ is_done (turn_at ss ds i).answer)
  unfolding move_all done_all zip_with
  turned [] ds i h k = absurd (not-suc-le-zero h)
  turned (s ∷ ss) [] i h k = absurd (not-suc-le-zero k)
  turned (s ∷ ss) (d ∷ ds) zero h k = (refl, refl)
  turned (s ∷ ss) (d ∷ ds) (suc i) h k = turned ss ds i (le_of_suc-le-suc h) (le_of_suc-le-suc k)

-- ---- the line

-- 0, or what some station sends
line_some : (ss : List Station) → (line_of ss ≡ 0) ⊎ ((i : ℕ) × (i < length ss) × (sends_of (get_or ss i empty_station) ≡ line_of ss))
unfolding line_of
line_some [] = inl refl
line_some (s ∷ ss) = go (dec_le (sends_of s) (line_of ss)) (line_some ss)
  where
    go : Dec (sends_of s ≤ line_of ss) → (line_of ss ≡ 0) ⊎ ((i : ℕ) × (i < length ss) × (sends_of (get_or ss i empty_station) ≡ line_of ss))
        → (max (sends_of s) (line_of ss) ≡ 0)
        ⊎ ((i : ℕ) × (i < suc (length ss)) × (sends_of (get_or (s ∷ ss) i empty_station) ≡ max (sends_of s) (line_of ss)))
    go (no h) t = inr (0, suc-le-suc zero-le, omega arith)
    go (yes h) (inl e) = inl (omega arith)
    go (yes h) (inr (i, k, e)) = inr (suc i, suc-le-suc k, omega arith)

-- ---- one call

-- what a call that is not refused gives and leaves, h being the line's half-cycle
pub record Turns (n : ℕ) (stations : List Station) (draws : List ℕ) (h : ℕ) (t : BenchTurn) : Type 0 where
  pub answers : t.answer ≡ Ok h
  pub same : length t.slots ≡ length stations
  pub next : (i : ℕ) → i < n → get_or t.slots i empty_station ≡ (turn_at h stations draws i).next
  pub says : (i : ℕ) → i < n → get_or t.done i false ≡ is_done (turn_at h stations draws i).answer
  pub ok : (i : ℕ) → i < n → station_ok (get_or stations i empty_station) ≡ true
  pub draw : (i : ℕ) → i < n → draw_ok (get_or draws i 0) ≡ true
  pub above : (i : ℕ) → i < n → sends_of (get_or stations i empty_station) ≤ h
  pub some : (h ≡ 0) ⊎ ((i : ℕ) × (i < n) × (sends_of (get_or stations i empty_station) ≡ h))
  pub low : h ≤ 1

-- each station has been judged, and has sent and heard
pub movable : {n : ℕ} {stations : List Station} {draws : List ℕ} {h : ℕ} {t : BenchTurn} → Turns n stations draws h t → (i : ℕ) → i < n
    → Movable (get_or stations i empty_station) (sends_of (get_or stations i empty_station)) h (get_or draws i 0)
movable T i l = record { half = T.low; ok = T.ok i l; drawn = T.draw i l; is = refl; kept = T.above i l }

module _ (n : ℕ) (stations : List Station) (draws : List ℕ) (many : length stations ≡ n) where
  all_turn : stations_ok stations ≡ true → length draws ≡ n → draws_ok draws ≡ true → Turns n stations draws (line_of stations) (turn_all stations draws)
  unfolding turn_all
  all_turn ok drawn fine =
      let each : length draws ≡ length stations = drawn ∙ sym many in
      record {
        answers = refl;
        same = length_moved (line_of stations) stations draws each;
        next = λ i h. (turned (line_of stations) stations draws i (omega arith) (omega arith)).0;
        says = λ i h. (turned (line_of stations) stations draws i (omega arith) (omega arith)).1;
        ok = λ i h. ok_in stations i empty_station ok (omega arith);
        draw = λ i h. draw_in draws i fine (omega arith);
        above = λ i h. line_in stations i empty_station (omega arith);
        some =
            subst (λ (k : ℕ). (line_of stations ≡ 0) ⊎ ((i : ℕ) × (i < k) × (sends_of (get_or stations i empty_station) ≡ line_of stations))) many
            (line_some stations);
        low = line_below stations;
      }

-- a call is refused and changes nothing, or turns every station
pub data Called (most n : ℕ) (now : Moment) (draws : List ℕ) : Type 0 where
  refused : call most n now draws ≡ now → Called most n now draws
  taken : (h : ℕ) (t : BenchTurn) → Turns n now.stations draws h t → call most n now draws ≡ next_moment now t (Ok h) → Called most n now draws

module _ (most n : ℕ) (now : Moment) (draws : List ℕ) (many : length now.stations ≡ n) where
  pub called : Called most n now draws
  unfolding call turn_all
  called = go (bench_judged most n now.stations draws) refl
    where
      go : {o : BenchTurn} → Judged most n now.stations draws o → bench_on most n now.stations draws ≡ o → Called most n now draws
      go (refuses why) e = refused (ap (λ (t : BenchTurn). next_moment now t t.answer) e)
      go (turns p m q r s) e =
          taken (line_of now.stations) (turn_all now.stations draws) (all_turn n now.stations draws many q r s)
          (ap (λ (t : BenchTurn). next_moment now t t.answer) e)

-- valid stations are refused by their draws alone
module _ (most n : ℕ) (stations : List Station) (draws : List ℕ) (some : 1 ≤ n) (allowed : n ≤ most) (many : length stations ≡ n)
    (ok : (i : ℕ) → i < n → station_ok (get_or stations i empty_station) ≡ true) where
  fine_count : (leb 1 n && leb n most) ≡ true
  fine_count = simp (le-leb 1 n some, le-leb n most allowed)

  fine_states : stations_ok stations ≡ true
  fine_states = ok_all stations (λ i h. ok i (omega arith))

  by_draws : bench_on most n stations draws ≡ pick (drawn_for n draws) (turn_all stations draws) (bench_refused stations refusal.Draw)
  unfolding bench_on judged
  by_draws = rw (fine_count, eq-eqb (length stations) n many, fine_states) (go (eqb (length draws) n))
    where
      go : (b : Bool) → pick b (pick (draws_ok draws) (turn_all stations draws) (bench_refused stations refusal.Draw)) (bench_refused stations refusal.Draw)
          ≡ pick (b && draws_ok draws) (turn_all stations draws) (bench_refused stations refusal.Draw)
      go true = refl
      go false = refl

  pub bench_refuses : drawn_for n draws ≡ false → bench_on most n stations draws ≡ bench_refused stations refusal.Draw
  bench_refuses e = by_draws ∙ rw e

  pub bench_number : (bench_report (bench_on most n stations draws).answer).number ≡ pick (drawn_for n draws) 0 7
  unfolding turn_all
  bench_number = ap (λ (t : BenchTurn). (bench_report t.answer).number) by_draws ∙ go (drawn_for n draws)
    where
      go : (b : Bool) → (bench_report (pick b (turn_all stations draws) (bench_refused stations refusal.Draw)).answer).number ≡ pick b 0 7
      go true = refl
      go false = refl
