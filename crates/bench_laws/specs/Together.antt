-- Stations that start together (01, 'Station and bench'): whose burst is on the line, and who finishes with whom. Of any n valid stations, whatever
-- calls came before; and in the lists of calls of demand 3. The theorems: proofs/StartTogether.antt, proofs/QuietLine.antt.
use Rattle.std.specs.Prelude.{ℕ, ◌+◌, ◌≤◌, ◌<◌, ◌≡◌, Bool, true, false, List, [], ◌∷◌, reverse, eqb, ltb, length, get_or, take, Some}
use Rattle.ground.specs.Choice.{pick}
use Rattle.message.specs.declared.Message.{Message}
use Rattle.burst.specs.Frames.{frame_of, burst_of, burst_length}
use Rattle.station.specs.Stations.{empty_station, station_ok}
use Rattle.station.specs.declared.Station.{Station}
use Rattle.bench_run.specs.Calls.{Moment, lines_of, at_start, run}
use Rattle.bench_laws.specs.Demand3.{Start, times_done}

-- the station at a place
abbrev pub station_at : Moment → ℕ → Station
station_at now i = get_or now.stations i empty_station

-- n valid stations; the receiver and the answers so far may be any
pub record Valid (n : ℕ) (now : Moment) : Type 0 where
  pub many : length now.stations ≡ n
  pub valid : (i : ℕ) → i < n → station_ok (station_at now i) ≡ true

-- no burst is on the line: each station is empty, or waits, or starts
abbrev pub Quiet : ℕ → Moment → Type 0
Quiet n now = (i : ℕ) → i < n → (station_at now i).place ≡ 0

-- a station with the message m that has counted its wait and sent nothing: "it sends from the next half-cycle"
pub record Starts (m : Message) (s : Station) : Type 0 where
  pub holds : s.held ≡ Some m
  pub counted : s.count ≡ s.wait
  pub unsent : s.place ≡ 0

-- "when compared half-cycle by half-cycle": the first that differs decides, and the one list is not the greater
abbrev pub not_greater : List ℕ → List ℕ → Bool
not_greater [] ys = true
not_greater (x ∷ xs) [] = false
not_greater (x ∷ xs) (y ∷ ys) = pick (eqb x y) (not_greater xs ys) (ltb x y)

-- station w starts with m, and none that starts with it has a greater frame
pub record Greatest (n : ℕ) (now : Moment) (w : ℕ) (m : Message) : Type 0 where
  pub below : w < n
  pub starts : Starts m (station_at now w)
  pub greatest : (i : ℕ) → i < n → (g : Message) → Starts g (station_at now i) → not_greater (frame_of g) (frame_of m) ≡ true

-- calls lead from the one moment to the other, k of them not refused
pub record Later (most n : ℕ) (now then : Moment) (k : ℕ) : Type 0 where
  pub calls : List (List ℕ)
  pub leads : run most n now calls ≡ then
  pub answers : length then.past ≡ length now.past + k

-- in the k answers since the burst of m began station w has said DONE once where they are the whole burst, and not before
abbrev pub DoneAtTheEnd : ℕ → Message → ℕ → Moment → Type 0
DoneAtTheEnd w m k then = times_done w (take k then.past) ≡ pick (eqb k (burst_length m)) 1 0

-- "Of those that start together, the burst on the line is that of the frame which is greatest when compared half-cycle by half-cycle.": of the
-- k half-cycles since, newest first, up to its end.
abbrev pub GreatestWins : Type 0
GreatestWins =
    (most n : ℕ) (now then : Moment) (k w : ℕ) (m : Message) → Valid n now → Quiet n now → Later most n now then k → Greatest n now w m
    → k ≤ burst_length m → take k (lines_of then.past) ≡ reverse (take k (burst_of m))

-- "After the last half-cycle it is empty and says DONE.": that burst goes out whole, and its station says DONE at the last half-cycle of it.
abbrev pub GreatestFinishes : Type 0
GreatestFinishes =
    (most n : ℕ) (now then : Moment) (k w : ℕ) (m : Message) → Valid n now → Quiet n now → Later most n now then k → Greatest n now w m
    → k ≤ burst_length m → DoneAtTheEnd w m k then

-- In a list of calls as in demand 3 a station starts only where no burst is on the line: those that start, start together.
abbrev pub StartsOnAQuietLine : Type 0
StartsOnAQuietLine =
    (most n : ℕ) (message : ℕ → Message) (draw : ℕ → ℕ) (stations : List Station) → Start most n message draw stations → (calls : List (List ℕ))
    → (i : ℕ) → i < n → (m : Message) → Starts m (station_at (run most n (at_start stations) calls) i) → Quiet n (run most n (at_start stations) calls)

-- So the greatest wins and finishes there with nothing more asked, at every moment reached.
abbrev pub GreatestWinsFromStart : Type 0
GreatestWinsFromStart =
    (most n : ℕ) (message : ℕ → Message) (draw : ℕ → ℕ) (stations : List Station) → Start most n message draw stations → (calls : List (List ℕ))
    → (then : Moment) (k w : ℕ) (m : Message) → Later most n (run most n (at_start stations) calls) then k
    → Greatest n (run most n (at_start stations) calls) w m → k ≤ burst_length m
    → (take k (lines_of then.past) ≡ reverse (take k (burst_of m))) × DoneAtTheEnd w m k then

-- "Stations with equal messages may finish together": those that start together do, whatever the others send. As long as the burst takes that starts
-- now, the one has said DONE exactly when the other has.
abbrev pub EqualsFinishTogether : Type 0
EqualsFinishTogether =
    (most n : ℕ) (now then : Moment) (k i j : ℕ) (m : Message) → Valid n now → Later most n now then k → i < n → j < n
    → Starts m (station_at now i) → Starts m (station_at now j) → k ≤ burst_length m
    → times_done i (take k then.past) ≡ times_done j (take k then.past)
