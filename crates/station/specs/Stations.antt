-- The station (01, 'Station and bench', 'Numbers given back'): loading, what it sends, and one half-cycle of it.
use Rattle.std.specs.Prelude.{ℕ, ◌+◌, ◌≡◌, Bool, true, false, ◌&&◌, ◌||◌, List, [], ◌∷◌, eqb, leb, ltb, get_or, Result, Ok, Err, Option, Some, None, ⊤}
use Rattle.ground.specs.Choice.{pick}
use Rattle.ground.specs.Refusals.{Report, reports, refuses, Cause, when, unless, judged}
use Rattle.ground.specs.declared.Refusal.{Refusal}
use Rattle.ground.specs.declared.Refusal.TheVariants as refusal
use Rattle.message.specs.Messages.{message_ok}
use Rattle.message.specs.declared.Message.{Message}
use Rattle.burst.specs.Frames.{burst_of, burst_length}
use Rattle.station.specs.declared.Station.{Station}
use Rattle.station.specs.declared.Loading.{Loading}
use Rattle.station.specs.declared.Turned.{Turned}
use Rattle.station.specs.declared.Turned.TheVariants as turn
use Rattle.station.specs.declared.Turn.{Turn}
use Rattle.station.specs.declared.Move.{Move}

-- ---- which states and draws there are

-- "An empty station has wait 8, count 0, place 0"
abbrev pub empty_station : Station
empty_station = record { held = None; wait = 8; count = 0; place = 0 }

-- "a wait drawn (8 to 10)"
abbrev pub draw_ok : ℕ → Bool
draw_ok d = leb 8 d && leb d 10

-- STATE: "wait not 8..10, count above the wait, place not below its burst's length, place above 0 with count below the wait, house or
-- unit above 15, or empty with other fields than said"
abbrev pub held_ok : Option Message → ℕ → ℕ → ℕ → Bool
held_ok None wait count place = eqb wait 8 && (eqb count 0 && eqb place 0)
held_ok (Some m) wait count place =
    draw_ok wait && (leb count wait && (ltb place (burst_length m) && ((eqb place 0 || leb wait count) && message_ok m)))

unfoldable pub station_ok : Station → Bool
station_ok s = held_ok s.held s.wait s.count s.place

-- ---- loading

-- "Loading gives it the message, the draw supplied and count 0: it is then fresh."
abbrev pub loaded : Message → ℕ → Station
loaded m draw = record { held = Some m; wait = draw; count = 0; place = 0 }

abbrev pub is_empty : Option Message → Bool
is_empty None = true
is_empty (Some m) = false

-- BUSY: "loading a station that holds a message"
abbrev pub load_causes : Station → Message → ℕ → List Cause
load_causes s m draw =
    unless (message_ok m) refusal.Message
    ∷ unless (station_ok s) refusal.State
    ∷ unless (draw_ok draw) refusal.Draw
    ∷ unless (is_empty s.held) refusal.Busy
    ∷ []

-- refused, the station is as it was
unfoldable pub load_of : Station → Message → ℕ → Loading
load_of s m draw =
    judged (load_causes s m draw) (record { answer = Ok tt; next = loaded m draw })
    (λ why. record { answer = Err why; next = s })

-- 01's number; there is no value
abbrev pub load_report : Result ⊤ Refusal → Report ℕ
load_report (Ok tt) = reports []
load_report (Err why) = refuses why

-- ---- what it sends

-- "Once the count equals the wait it sends from the next half-cycle": the half-cycle of its burst at its place, else nothing, which is 0
abbrev pub held_sends : Option Message → ℕ → ℕ → ℕ → ℕ
held_sends None wait count place = 0
held_sends (Some m) wait count place = pick (eqb count wait) (get_or (burst_of m) place 0) 0

unfoldable pub sends_of : Station → ℕ
sends_of s = held_sends s.held s.wait s.count s.place

abbrev pub send_causes : Station → List Cause
send_causes s = unless (station_ok s) refusal.State ∷ []

unfoldable pub send_of : Station → Result ℕ Refusal
send_of s = judged (send_causes s) (Ok (sends_of s)) Err

-- 01's number, and the half-cycle
abbrev pub send_report : Result ℕ Refusal → Report ℕ
send_report (Ok h) = reports (h ∷ [])
send_report (Err why) = refuses why

-- ---- one half-cycle

-- "While waiting, a 1 heard sets the count to 0 and takes the draw supplied with that call"; a clear one is counted
abbrev pub waits : Message → ℕ → ℕ → ℕ → ℕ → Station
waits m wait count heard draw =
    pick (eqb heard 1) (loaded m draw) (record { held = Some m; wait = wait; count = count + 1; place = 0 })

-- "the count stays so while it sends"; "After the last half-cycle it is empty and says DONE."
abbrev pub sends_on : Message → ℕ → ℕ → ℕ → Turn
sends_on m wait count place =
    pick (eqb (place + 1) (burst_length m))
    (record { answer = Ok turn.Done; next = empty_station })
    (record { answer = Ok turn.Going; next = record { held = Some m; wait = wait; count = count; place = place + 1 } })

-- "While sending 0, a 1 heard aborts: count 0, place 0, new draw, message kept."
abbrev pub sending : Message → ℕ → ℕ → ℕ → ℕ → ℕ → Turn
sending m wait count place heard draw =
    pick (eqb (get_or (burst_of m) place 0) heard) (sends_on m wait count place)
    (record { answer = Ok turn.Going; next = loaded m draw })

-- "An empty station .. no half-cycle changes it."
abbrev pub held_moves : Option Message → Station → ℕ → ℕ → Turn
held_moves None s heard draw = record { answer = Ok turn.Going; next = s }
held_moves (Some m) s heard draw =
    pick (eqb s.count s.wait) (sending m s.wait s.count s.place heard draw)
    (record { answer = Ok turn.Going; next = waits m s.wait s.count heard draw })

-- FAULT: "sent 1, heard 0"
abbrev pub turn_causes : Station → ℕ → ℕ → List Cause
turn_causes s heard draw =
    unless (leb heard 1) refusal.Half
    ∷ unless (station_ok s) refusal.State
    ∷ unless (draw_ok draw) refusal.Draw
    ∷ when (eqb (sends_of s) 1 && eqb heard 0) refusal.Fault
    ∷ []

-- refused, the station is as it was
unfoldable pub turn_of : Station → ℕ → ℕ → Turn
turn_of s heard draw =
    judged (turn_causes s heard draw) (held_moves s.held s heard draw)
    (λ why. record { answer = Err why; next = s })

-- whether it says DONE
abbrev pub is_done : Result Turned Refusal → Bool
is_done (Ok turn.Going) = false
is_done (Ok turn.Done) = true
is_done (Err why) = false

-- 01's number, and whether it says DONE
abbrev pub turn_report : Result Turned Refusal → Report Bool
turn_report (Ok turn.Going) = reports (false ∷ [])
turn_report (Ok turn.Done) = reports (true ∷ [])
turn_report (Err why) = refuses why

-- ---- what only this crate's own steps use, over a station that was judged

-- it sends nothing: it is empty, or its count is below its wait
abbrev pub is_quiet : Option Message → ℕ → ℕ → Bool
is_quiet None wait count = true
is_quiet (Some m) wait count = ltb count wait

unfoldable pub idle_of : Station → Bool
idle_of s = station_ok s && is_quiet s.held s.wait s.count

-- the turn of a station with a message, by its numbers after it: there are none where it is done
abbrev pub turn_by : Option Message → Option Move → Turn
turn_by h None = record { answer = Ok turn.Done; next = empty_station }
turn_by h (Some v) = record { answer = Ok turn.Going; next = record { held = h; wait = v.wait; count = v.count; place = v.place } }

-- ---- what holds of every call: proofs/TurnLaws.antt

-- a station in a state that there is stays in one, loaded and after any half-cycle
pub record StaysStation : Type 0 where
  pub empty : station_ok empty_station ≡ true
  pub load : (s : Station) (m : Message) (draw : ℕ) → station_ok s ≡ true → station_ok (load_of s m draw).next ≡ true
  pub turn : (s : Station) (heard draw : ℕ) → station_ok s ≡ true → station_ok (turn_of s heard draw).next ≡ true
