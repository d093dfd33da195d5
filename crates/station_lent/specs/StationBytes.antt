-- A station as eight bytes, and its routines on lent bytes (01, 'Station and bench', 'Numbers given back').
use Rattle.std.specs.Prelude.{ℕ, ◌≡◌, true, false, List, [], ◌∷◌, ◌++◌, eqb, length, get_or, Result, Ok, Err, Option, None, ⊤}
use Rattle.ground.specs.Choice.{pick}
use Rattle.ground.specs.Refusals.{Cause, unless, judged, number_given, lowest}
use Rattle.ground.specs.declared.Refusal.{Refusal}
use Rattle.ground.specs.declared.Refusal.TheVariants as refusal
use Rattle.message.specs.declared.Message.{Message}
use Rattle.wire.specs.Messages.{kept_in, kept_bytes}
use Rattle.station.specs.Stations.{empty_station, station_ok, loaded, load_causes, load_of, send_causes, sends_of, send_of, held_moves, is_done, turn_causes, turn_of}
use Rattle.station.specs.declared.Station.{Station}
use Rattle.station.specs.declared.Turned.{Turned}
use Rattle.station.specs.declared.Turned.TheVariants as turn

-- ---- a station: "at most one message" in five bytes, then "a wait drawn", "its count", "its place", a byte each

abbrev pub STATION_BYTES : ℕ
STATION_BYTES = 8

-- handed on for bytes that hold no station: an empty one with wait 0, which each routine refuses by 6 in its own order
abbrev pub no_station : Station
no_station = record { held = None; wait = 0; count = 0; place = 0 }

-- a station by its message and its last three bytes
abbrev pub station_with : Option Message → List ℕ → Station
station_with h s = record { held = h; wait = get_or s 5 0; count = get_or s 6 0; place = get_or s 7 0 }

abbrev pub station_by : Result (Option Message) Refusal → List ℕ → Station
station_by (Ok h) s = station_with h s
station_by (Err why) s = no_station

-- the station that bytes hold: eight of them, of which the first five are 0 or a message's
unfoldable pub station_in : List ℕ → Station
station_in s = pick (eqb (length s) STATION_BYTES) (station_by (kept_in s) s) no_station

-- the bytes of a station
abbrev pub held_bytes : Option Message → List ℕ
held_bytes held = kept_bytes held

unfoldable pub station_bytes : Station → List ℕ
station_bytes s = held_bytes s.held ++ (s.wait ∷ s.count ∷ s.place ∷ [])

-- ---- made empty

-- 6: bytes that are not eight; what they held is not looked at
abbrev pub empty_causes : List ℕ → List Cause
empty_causes state = unless (eqb (length state) STATION_BYTES) refusal.State ∷ []

unfoldable pub empty_answer : List ℕ → Result ℕ Refusal
empty_answer state = judged (empty_causes state) (Ok 0) Err

-- "An empty station has wait 8, count 0, place 0"
unfoldable pub empty_after : List ℕ → List ℕ
empty_after state = judged (empty_causes state) (station_bytes empty_station) (λ why. state)

-- ---- loading

-- MESSAGE 2, STATE 6, DRAW 7; BUSY 8: "loading a station that holds a message"
unfoldable pub loaded_answer : List ℕ → Message → ℕ → Result ℕ Refusal
loaded_answer state m draw = judged (load_causes (station_in state) m draw) (Ok 0) Err

-- "Loading gives it the message, the draw supplied and count 0: it is then fresh."
unfoldable pub loaded_after : List ℕ → Message → ℕ → List ℕ
loaded_after state m draw = judged (load_causes (station_in state) m draw) (station_bytes (loaded m draw)) (λ why. state)

-- ---- what it sends

-- STATE 6; "Once the count equals the wait it sends from the next half-cycle": the count is the half-cycle sent
unfoldable pub sent_answer : List ℕ → Result ℕ Refusal
sent_answer state = judged (send_causes (station_in state)) (Ok (sends_of (station_in state))) Err

-- ---- one half-cycle

-- "After the last half-cycle it is empty and says DONE.": 1, and 0 after every other
abbrev pub done_count : List ℕ → ℕ → ℕ → ℕ
done_count state heard draw = pick (is_done (held_moves (station_in state).held (station_in state) heard draw).answer) 1 0

-- HALF 5, STATE 6, DRAW 7; FAULT 15: "sent 1, heard 0"
unfoldable pub turned_answer : List ℕ → ℕ → ℕ → Result ℕ Refusal
turned_answer state heard draw = judged (turn_causes (station_in state) heard draw) (Ok (done_count state heard draw)) Err

-- "Each refusal .. changes nothing lent or handed in."
unfoldable pub turned_after : List ℕ → ℕ → ℕ → List ℕ
turned_after state heard draw =
    judged (turn_causes (station_in state) heard draw)
    (station_bytes (held_moves (station_in state).held (station_in state) heard draw).next)
    (λ why. state)

-- ---- what holds of them: proofs/StationLaws.antt

-- "Within one routine the lowest number that applies is given.": for the other routines it is that of the station's own causes
abbrev pub EmptyLowest : Type 0
EmptyLowest = (state : List ℕ) → lowest (empty_causes state) ≡ number_given (empty_causes state)

-- a station is read back from its bytes
abbrev pub StationsReadBack : Type 0
StationsReadBack = (s : Station) → station_ok s ≡ true → station_in (station_bytes s) ≡ s

-- and bytes that hold a station that is not refused are its own: no byte of them is without meaning
abbrev pub BytesReadBack : Type 0
BytesReadBack = (state : List ℕ) → station_ok (station_in state) ≡ true → station_bytes (station_in state) ≡ state

-- what is handed on for bytes that hold no station is refused
abbrev pub NoStationRefused : Type 0
NoStationRefused = station_ok no_station ≡ false

-- whatever bytes are lent, they hold after each routine the station that the routine of a station by value leaves
pub record BytesFollow : Type 0 where
  pub made_empty : (state : List ℕ) → length state ≡ STATION_BYTES → station_in (empty_after state) ≡ empty_station
  pub loaded : (state : List ℕ) (m : Message) (draw : ℕ) → station_in (loaded_after state m draw) ≡ (load_of (station_in state) m draw).next
  pub turned : (state : List ℕ) (heard draw : ℕ) → station_in (turned_after state heard draw) ≡ (turn_of (station_in state) heard draw).next

-- what loading, sending and a half-cycle answer as a count: 1 for DONE, and the half-cycle sent
abbrev pub load_count : Result ⊤ Refusal → Result ℕ Refusal
load_count (Ok tt) = Ok 0
load_count (Err why) = Err why

abbrev pub send_count : Result ℕ Refusal → Result ℕ Refusal
send_count (Ok h) = Ok h
send_count (Err why) = Err why

abbrev pub turn_count : Result Turned Refusal → Result ℕ Refusal
turn_count (Ok turn.Going) = Ok 0
turn_count (Ok turn.Done) = Ok 1
turn_count (Err why) = Err why

-- and each answers what that routine answers
pub record AnswersFollow : Type 0 where
  pub loaded : (state : List ℕ) (m : Message) (draw : ℕ) → loaded_answer state m draw ≡ load_count (load_of (station_in state) m draw).answer
  pub sent : (state : List ℕ) → sent_answer state ≡ send_count (send_of (station_in state))
  pub turned : (state : List ℕ) (heard draw : ℕ) → turned_answer state heard draw ≡ turn_count (turn_of (station_in state) heard draw).answer

-- no routine changes how many bytes there are
pub record SameLength : Type 0 where
  pub made_empty : (state : List ℕ) → length (empty_after state) ≡ length state
  pub loaded : (state : List ℕ) (m : Message) (draw : ℕ) → length (loaded_after state m draw) ≡ length state
  pub turned : (state : List ℕ) (heard draw : ℕ) → length (turned_after state heard draw) ≡ length state
