-- Demand 3 (01, 'Station and bench'): whatever draws the bench calls are given, every message that was loaded goes out whole and twice and
-- is heard, in time, and no other is. "one claim about the whole list of bench calls, not one for each call"; specs/Calls.antt has the list.
use Rattle.std.specs.Prelude.{ℕ, ◌+◌, ◌*◌, ◌≤◌, ◌<◌, ◌≡◌, ◌↔◌, Bool, true, false, ◌&&◌, List, [], ◌∷◌, reverse, eqb, length, get_or, take, Ok}
use Rattle.ground.specs.Choice.{pick}
use Rattle.message.specs.declared.Message.{Message}
use Rattle.burst.specs.Frames.{frame_length, burst_of, burst_length}
use Rattle.receiver.specs.Receivers.{event_number}
use Rattle.receiver.specs.declared.Event.{Event}
use Rattle.receiver.specs.declared.Event.TheVariants.{Nothing, Message as Gives, Repeat, BrokenPair, BrokenUnsupported, Refused}
use Rattle.receiver_laws.specs.Whole.{burst_events}
use Rattle.station.specs.Stations.{empty_station, load_of}
use Rattle.station.specs.declared.Station.{Station}
use Rattle.station.specs.Benches.{bench_on, bench_report, draws_ok}
use Rattle.bench_run.specs.Calls.{Answered, Moment, lines_of, events_in, at_start, call, run}

-- "At its start the bench's n stations have just been loaded from empty", station i with its message and a draw that loading accepted; n is
-- 1 to as many as are allowed.
pub record Start (most n : ℕ) (message : ℕ → Message) (draw : ℕ → ℕ) (stations : List Station) : Type 0 where
  pub some : 1 ≤ n
  pub allowed : n ≤ most
  pub many : length stations ≡ n
  pub accepted : (i : ℕ) → i < n → (load_of empty_station (message i) (draw i)).answer ≡ Ok tt
  pub loaded : (i : ℕ) → i < n → get_or stations i empty_station ≡ (load_of empty_station (message i) (draw i)).next

-- station i says DONE in an answer, and how often it has said so
abbrev pub SaysDone : ℕ → Answered → Type 0
SaysDone i a = get_or a.done i false ≡ true

abbrev pub times_done : ℕ → List Answered → ℕ
times_done i [] = 0
times_done i (a ∷ earlier) = pick (get_or a.done i false) 1 0 + times_done i earlier

-- how often the receiver has given MESSAGE, and how often REPEAT
abbrev pub gives_message : Event → Bool
gives_message Nothing = false
gives_message (Gives m) = true
gives_message Repeat = false
gives_message BrokenPair = false
gives_message BrokenUnsupported = false
gives_message (Refused why) = false

abbrev pub gives_repeat : Event → Bool
gives_repeat Nothing = false
gives_repeat (Gives m) = false
gives_repeat Repeat = true
gives_repeat BrokenPair = false
gives_repeat BrokenUnsupported = false
gives_repeat (Refused why) = false

abbrev pub times_given : List Answered → ℕ
times_given [] = 0
times_given (a ∷ earlier) = pick (gives_message a.event) 1 0 + times_given earlier

abbrev pub times_repeated : List Answered → ℕ
times_repeated [] = 0
times_repeated (a ∷ earlier) = pick (gives_repeat a.event) 1 0 + times_repeated earlier

-- a station has sent its first frame; and some station of the bench has
abbrev pub SentFrame : Message → Station → Type 0
SentFrame m s = frame_length m ≤ s.place

abbrev pub FrameOver : ℕ → (ℕ → Message) → Moment → Type 0
FrameOver n message now = (i : ℕ) × (i < n) × SentFrame (message i) (get_or now.stations i empty_station)

-- of "a message whose frame has f half-cycles (22 or 62)", by the answers up to now, newest first
pub record SentAndHeard (m : Message) (past : List Answered) : Type 0 where
  -- it "has gone out whole and twice when the last 2f half-cycles answered are its burst"
  pub sent : take (burst_length m) (lines_of past) ≡ reverse (burst_of m)
  -- "The receiver has heard it when it gave MESSAGE with that message f half-cycles before
  pub gave : get_or (events_in past) (frame_length m) Nothing ≡ Gives m
  -- and now gives REPEAT."
  pub repeated : get_or (events_in past) 0 Nothing ≡ Repeat
  -- "the receiver then hears one message": within the burst it gave that MESSAGE, that REPEAT, and nothing else
  pub one : take (burst_length m) (events_in past) ≡ reverse (burst_events m)

-- what an answer owes, with those before it
pub record Right (n : ℕ) (message : ℕ → Message) (a : Answered) (earlier : List Answered) : Type 0 where
  -- at a DONE the station's message has gone out whole and twice, and is heard
  pub done : (i : ℕ) → i < n → SaysDone i a → SentAndHeard (message i) (a ∷ earlier)
  -- REPEAT is given exactly when some station says DONE
  pub repeats : (a.event ≡ Repeat) ↔ ((i : ℕ) × (i < n) × SaysDone i a)
  -- every message given was loaded
  pub gives : (m : Message) → a.event ≡ Gives m → (i : ℕ) × (i < n) × (message i ≡ m)
  -- never BROKEN (10, 11), and the receiver never refuses (5, 6)
  pub clean : event_number a.event ≡ 0

abbrev pub AllRight : ℕ → (ℕ → Message) → List Answered → Type 0
AllRight n message [] = Unit {0}
AllRight n message (a ∷ earlier) = Right n message a earlier × AllRight n message earlier

-- the longest wait, 10, and the longest burst, 124
abbrev pub calls_each : ℕ
calls_each = 134

-- "a draw for each", 8 to 10
abbrev pub drawn_for : ℕ → List ℕ → Bool
drawn_for n draws = eqb (length draws) n && draws_ok draws

-- What holds after a list of calls. Each call of a list comes next after those before it, so that what is said of the next is said of each.
pub record Claim (most n : ℕ) (message : ℕ → Message) (now : Moment) : Type 0 where
  -- the next call is refused exactly by its draws, with 7,
  pub refused : (draws : List ℕ) → (bench_report (bench_on most n now.stations draws).answer).number ≡ pick (drawn_for n draws) 0 7
  -- and changes nothing
  pub unchanged : (draws : List ℕ) → drawn_for n draws ≡ false → call most n now draws ≡ now
  -- once 134 n calls were not refused every station has said DONE exactly once,
  pub within : calls_each * n ≤ length now.past → (i : ℕ) → i < n → times_done i now.past ≡ 1
  -- and no station ever says it twice
  pub once : (i : ℕ) → i < n → times_done i now.past ≤ 1
  -- MESSAGE was given as often as REPEAT, and once more while a burst is on the line whose first frame is over: once for each burst
  pub midway : FrameOver n message now → times_given now.past ≡ times_repeated now.past + 1
  pub otherwise : (FrameOver n message now → ⊥) → times_given now.past ≡ times_repeated now.past
  -- every answer is right
  pub answers : AllRight n message now.past

-- the theorem, for a bench of any number: proofs/WholeList.antt
abbrev pub Demand3 : Type 0
Demand3 =
    (most n : ℕ) (message : ℕ → Message) (draw : ℕ → ℕ) (stations : List Station) → Start most n message draw stations
    → (calls : List (List ℕ)) → Claim most n message (run most n (at_start stations) calls)
