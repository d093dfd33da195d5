-- A run of the bench over lent bytes: n stations loaded from empty, then calls one after the other. The calls are those of specs/Calls.antt.
use Rattle.std.specs.Prelude.{ℕ, zero, suc, ◌+◌, ◌*◌, ◌/◌, ◌%◌, ◌≡◌, Bool, true, false, ◌&&◌, eqb, leb, length, take, drop, Result, Ok, Err, ⊤}
use mathlib.Core.List.{List, [], ◌∷◌, ◌++◌, map, flat_map}
use Rattle.ground.specs.Choice.{pick}
use Rattle.ground.specs.Refusals.{refusal_number, Report, reports, refuses, Cause, unless, judged, number_given, lowest}
use Rattle.ground.specs.declared.Refusal.{Refusal}
use Rattle.ground.specs.declared.Refusal.TheVariants as refusal
use Rattle.message.specs.declared.Message.{Message}
use Rattle.station.specs.Stations.{empty_station, load_of}
use Rattle.station.specs.Benches.{most_stations, draws_ok, bench_on}
use Rattle.station.specs.declared.Station.{Station}
use Rattle.station.specs.declared.Loading.{Loading}
use Rattle.station.specs.declared.bench.BenchTurn.{BenchTurn}
use Rattle.wire.specs.Messages.{says_message, message_in}
use Rattle.bench_run.specs.Calls.{Moment, at_start, run}

-- ---- the messages and the stations

-- the first k messages of the bytes, five bytes each
unfoldable pub all_say : ℕ → List ℕ → Bool
all_say zero bytes = true
all_say (suc k) bytes = says_message (message_in bytes) && all_say k (drop 5 bytes)

-- "At its start the bench's n stations have just been loaded from empty": what loading one answers and leaves. Where no message is read, none is loaded
abbrev pub loading_by : Result Message Refusal → ℕ → Loading
loading_by (Ok m) draw = load_of empty_station m draw
loading_by (Err why) draw = record { answer = Err why; next = empty_station }

-- for each draw, with the next five bytes as its message
unfoldable pub loadings : List ℕ → List ℕ → List Loading
loadings bytes [] = []
loadings bytes (d ∷ ds) = loading_by (message_in bytes) d ∷ loadings (drop 5 bytes) ds

abbrev pub is_loaded : Result ⊤ Refusal → Bool
is_loaded (Ok tt) = true
is_loaded (Err why) = false

-- what loading them all answers: the first refusal, if any
abbrev pub else_answer : Result ⊤ Refusal → Result ⊤ Refusal → Result ⊤ Refusal
else_answer (Ok tt) later = later
else_answer (Err why) later = Err why

unfoldable pub loads_answer : List Loading → Result ⊤ Refusal
loads_answer [] = Ok tt
loads_answer (o ∷ os) = else_answer o.answer (loads_answer os)

abbrev pub stations_from : List Loading → List Station
stations_from os = map (λ (o : Loading). o.next) os

-- ---- the calls of n stations, by the draws of all calls

-- the draws of call j, counted from 0
abbrev pub draws_of : ℕ → List ℕ → ℕ → List ℕ
draws_of n draws j = take n (drop (n * j) draws)

-- the first k calls, newest first
unfoldable pub calls_of : ℕ → List ℕ → ℕ → List (List ℕ)
calls_of n draws zero = []
calls_of n draws (suc k) = draws_of n draws k ∷ calls_of n draws k

-- where they lead
abbrev pub moment_after : ℕ → List Station → List ℕ → ℕ → Moment
moment_after n stations draws k = run most_stations n (at_start stations) (calls_of n draws k)

-- what each of them gives, oldest first: it gets "all n stations as the call before it returned or left them"
unfoldable pub turns_of : ℕ → List Station → List ℕ → ℕ → List BenchTurn
turns_of n stations draws zero = []
turns_of n stations draws (suc k) =
    turns_of n stations draws k ++ (bench_on most_stations n (moment_after n stations draws k).stations (draws_of n draws k) ∷ [])

-- ---- the bytes of a call

-- the line's half-cycle, or the number by which the call was refused
abbrev pub line_byte : Result ℕ Refusal → ℕ
line_byte (Ok h) = h
line_byte (Err why) = refusal_number why

abbrev pub line_bytes : List BenchTurn → List ℕ
line_bytes os = map (λ (o : BenchTurn). line_byte o.answer) os

-- "which stations are DONE": station i in bit i, and that number in two bytes, highest first
unfoldable pub done_mask : List Bool → ℕ
done_mask [] = 0
done_mask (b ∷ bs) = pick b 1 0 + 2 * done_mask bs

abbrev pub mark_bytes : BenchTurn → List ℕ
mark_bytes o = done_mask o.done / 256 % 256 ∷ done_mask o.done % 256 ∷ []

-- 1 for a call that was not refused
abbrev pub counts_as : Result ℕ Refusal → ℕ
counts_as (Ok h) = 1
counts_as (Err why) = 0

-- ---- the run

-- the five slices that are lent
pub record RunSlices : Type 0 where
  pub messages : List ℕ
  pub loads : List ℕ
  pub draws : List ℕ
  pub lines : List ℕ
  pub marks : List ℕ

abbrev pub lent : List ℕ → List ℕ → List ℕ → List ℕ → List ℕ → RunSlices
lent messages loads draws lines marks = record { messages = messages; loads = loads; draws = draws; lines = lines; marks = marks }

-- DRAW: not a draw for each of n stations and call. SHORT: not two marks for each call
abbrev pub call_causes : ℕ → List ℕ → List ℕ → List ℕ → List Cause
call_causes n draws lines marks =
    unless (eqb (length draws) (n * length lines)) refusal.Draw
    ∷ unless (leb (2 * length lines) (length marks)) refusal.Short
    ∷ []

-- MESSAGE: five bytes that say none. STATE: "bench of 0 or over 16", or not five bytes for each station. DRAW: a station that is not loaded; its
-- message was judged before
abbrev pub run_causes : RunSlices → List Cause
run_causes l =
    unless (all_say (length l.messages / 5) l.messages) refusal.Message
    ∷ unless (leb 1 (length l.loads)) refusal.State
    ∷ unless (leb (length l.loads) most_stations) refusal.State
    ∷ unless (eqb (length l.messages) (5 * length l.loads)) refusal.State
    ∷ unless (is_loaded (loads_answer (loadings l.messages l.loads))) refusal.Draw
    ∷ call_causes (length l.loads) l.draws l.lines l.marks

-- the stations, and a call for each byte of lines: where they lead, and what each gives
abbrev pub stations_in : RunSlices → List Station
stations_in l = stations_from (loadings l.messages l.loads)

unfoldable pub moment_in : RunSlices → Moment
moment_in l = moment_after (length l.loads) (stations_in l) l.draws (length l.lines)

unfoldable pub turns_in : RunSlices → List BenchTurn
turns_in l = turns_of (length l.loads) (stations_in l) l.draws (length l.lines)

-- how many calls were not refused
unfoldable pub run_answer : RunSlices → Result ℕ Refusal
run_answer l = judged (run_causes l) (Ok (length (moment_in l).past)) Err

-- 01's number, and that count
abbrev pub run_report : RunSlices → Report ℕ
run_report l = judged (run_causes l) (reports (length (moment_in l).past ∷ [])) refuses

-- the lines and the marks at exit; bytes of marks beyond stay
unfoldable pub lines_after : RunSlices → List ℕ
lines_after l = judged (run_causes l) (line_bytes (turns_in l)) (λ why. l.lines)

unfoldable pub marks_after : RunSlices → List ℕ
marks_after l = judged (run_causes l) (flat_map mark_bytes (turns_in l) ++ drop (2 * length l.lines) l.marks) (λ why. l.marks)

-- "Within one routine the lowest number that applies is given.": proofs/RunLaws.antt
abbrev pub RunLowest : Type 0
RunLowest = (l : RunSlices) → lowest (run_causes l) ≡ number_given (run_causes l)

-- where every message is said, loading answers 7 for a draw that is not 8 to 10, and no other number: proofs/LoadLaws.antt
abbrev pub LoadsByDraw : Type 0
LoadsByDraw = (bytes loads : List ℕ) → all_say (length loads) bytes ≡ true
    → loads_answer (loadings bytes loads) ≡ pick (draws_ok loads) (Ok tt) (Err refusal.Draw)
