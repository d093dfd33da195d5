-- A list of bench calls with a receiver behind them (01, 'Station and bench'): what each call is given, and what is kept of its answer.
-- Demand 3 speaks of these calls, and the exported run makes them.
use Rattle.std.specs.Prelude.{ℕ, ◌≡◌, Bool, List, [], ◌∷◌, map, Result, Ok, Err}
use Rattle.ground.specs.declared.Refusal.{Refusal}
use Rattle.receiver.specs.Receivers.{fresh_receiver, step_of}
use Rattle.receiver.specs.declared.Receiver.{Receiver}
use Rattle.receiver.specs.declared.Event.{Event}
use Rattle.station.specs.Benches.{bench_on}
use Rattle.station.specs.declared.Station.{Station}
use Rattle.station.specs.declared.bench.BenchTurn.{BenchTurn}

-- a call that was not refused: the line's half-cycle, "which stations are DONE", and what the receiver said to that half-cycle
pub record Answered : Type 0 where
  pub line : ℕ
  pub done : List Bool
  pub event : Event

-- between two calls: the stations, the receiver, and the answers so far, newest first
pub record Moment : Type 0 where
  pub stations : List Station
  pub receiver : Receiver
  pub past : List Answered

abbrev pub lines_of : List Answered → List ℕ
lines_of past = map (λ (a : Answered). a.line) past

abbrev pub events_in : List Answered → List Event
events_in past = map (λ (a : Answered). a.event) past

-- "The fresh receiver is hunting and has received no half-cycle."
abbrev pub at_start : List Station → Moment
at_start stations = record { stations = stations; receiver = fresh_receiver; past = [] }

-- "After each bench call that is not refused, and only then, the receiver is called once with the line's half-cycle just answered, in
-- the state that its own last call returned or left."
abbrev pub next_moment : Moment → BenchTurn → Result ℕ Refusal → Moment
next_moment now turn (Ok h) = record {
  stations = turn.slots;
  receiver = (step_of now.receiver h).next;
  past = record { line = h; done = turn.done; event = (step_of now.receiver h).event } ∷ now.past;
}
next_moment now turn (Err why) = record { stations = turn.slots; receiver = now.receiver; past = now.past }

-- "Each bench call, a refused one too, gets the same n and .. all n stations as the call before it returned or left them.", whatever the draws;
-- at most so many stations are allowed
unfoldable pub call : ℕ → ℕ → Moment → List ℕ → Moment
call most n now draws = next_moment now (bench_on most n now.stations draws) (bench_on most n now.stations draws).answer

-- the calls of a list, newest first like their answers, each given by its draws
unfoldable pub run : ℕ → ℕ → Moment → List (List ℕ) → Moment
run most n now [] = now
run most n now (draws ∷ earlier) = call most n (run most n now earlier) draws

-- a refused call leaves the stations, the receiver and the answers so far: proofs/CallLaws.antt
abbrev pub RefusedCallLeaves : Type 0
RefusedCallLeaves = (most n : ℕ) (now : Moment) (draws : List ℕ) (why : Refusal) → (bench_on most n now.stations draws).answer ≡ Err why
    → call most n now draws ≡ now
