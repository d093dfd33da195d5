-- The bench (01, 'Station and bench', 'Numbers given back'): one half-cycle of any number of stations on one line, and 01's bench of at most sixteen.
use Rattle.std.specs.Prelude.{ℕ, max, ◌≡◌, Bool, true, false, ◌&&◌, eqb, leb, length, take, drop, replicate, Result, Ok, Err}
use mathlib.Core.List.{List, [], ◌∷◌, ◌++◌, zip_with}
use Rattle.ground.specs.Refusals.{Report, reports, refuses, Cause, unless, judged}
use Rattle.ground.specs.declared.Refusal.{Refusal}
use Rattle.ground.specs.declared.Refusal.TheVariants as refusal
use Rattle.station.specs.Stations.{station_ok, draw_ok, sends_of, turn_of, is_done}
use Rattle.station.specs.declared.Station.{Station}
use Rattle.station.specs.declared.bench.BenchTurn.{BenchTurn}

-- ---- one half-cycle of the stations of a list, however many

-- "The line is 1 when any sends 1."
unfoldable pub line_of : List Station → ℕ
line_of [] = 0
line_of (s ∷ ss) = max (sends_of s) (line_of ss)

-- each station after the line's half-cycle, "with a draw for each"
unfoldable pub move_all : ℕ → List Station → List ℕ → List Station
move_all line stations draws = zip_with (λ (s : Station) (d : ℕ). (turn_of s line d).next) stations draws

-- "which stations are DONE"
unfoldable pub done_all : ℕ → List Station → List ℕ → List Bool
done_all line stations draws = zip_with (λ (s : Station) (d : ℕ). is_done (turn_of s line d).answer) stations draws

-- "It answers the line's half-cycle and which stations are DONE."
unfoldable pub turn_all : List Station → List ℕ → BenchTurn
turn_all stations draws =
    let line : ℕ = line_of stations in
    record { answer = Ok line; done = done_all line stations draws; slots = move_all line stations draws }

-- ---- a bench of n stations, where at most so many are allowed

unfoldable pub stations_ok : List Station → Bool
stations_ok [] = true
stations_ok (s ∷ ss) = station_ok s && stations_ok ss

unfoldable pub draws_ok : List ℕ → Bool
draws_ok [] = true
draws_ok (d ∷ ds) = draw_ok d && draws_ok ds

-- STATE: "bench of 0 or over 16", not n stations, or one of them in a state that there is not. DRAW: not "a draw for each", or one not 8 to 10
abbrev pub bench_causes : ℕ → ℕ → List Station → List ℕ → List Cause
bench_causes most n stations draws =
    unless (leb 1 n && leb n most) refusal.State
    ∷ unless (eqb (length stations) n) refusal.State
    ∷ unless (stations_ok stations) refusal.State
    ∷ unless (eqb (length draws) n) refusal.Draw
    ∷ unless (draws_ok draws) refusal.Draw
    ∷ []

-- a refused call: all as it was and none DONE
abbrev pub bench_refused : List Station → Refusal → BenchTurn
bench_refused stations why = record { answer = Err why; done = replicate (length stations) false; slots = stations }

unfoldable pub bench_on : ℕ → ℕ → List Station → List ℕ → BenchTurn
bench_on most n stations draws = judged (bench_causes most n stations draws) (turn_all stations draws) (bench_refused stations)

-- ---- 01's bench: at most sixteen, in the first n of the slots, with the first n of the draws

-- "The bench advances up to 16 stations"
abbrev pub most_stations : ℕ
most_stations = 16

abbrev pub slot_causes : ℕ → List Station → List ℕ → List Cause
slot_causes n slots draws = bench_causes most_stations n (take n slots) (take n draws)

-- a turn with more slots beside it, which stay, none of them DONE
abbrev pub beside : List Station → BenchTurn → BenchTurn
beside beyond o = record { answer = o.answer; done = o.done ++ replicate (length beyond) false; slots = o.slots ++ beyond }

-- "slots and draws past its last station are neither judged nor changed"
unfoldable pub bench_of : ℕ → List Station → List ℕ → BenchTurn
bench_of n slots draws = beside (drop n slots) (bench_on most_stations n (take n slots) (take n draws))

-- 01's number, and the line's half-cycle
abbrev pub bench_report : Result ℕ Refusal → Report ℕ
bench_report (Ok h) = reports (h ∷ [])
bench_report (Err why) = refuses why

-- ---- what holds of every call: proofs/BenchCases.antt

-- a call reads its n stations and their draws alone, whatever stands past them
abbrev pub ReadsTheFirst : Type 0
ReadsTheFirst = (n : ℕ) (stations beyond : List Station) (draws : List ℕ) → length stations ≡ n
    → bench_of n (stations ++ beyond) draws ≡ beside beyond (bench_on most_stations n stations (take n draws))
