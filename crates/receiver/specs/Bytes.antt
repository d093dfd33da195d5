-- A receiver as thirteen bytes, an event as six, and a run of a receiver in lent bytes over half-cycles that are lent.
use Rattle.std.specs.Prelude.{ℕ, ◌+◌, ◌*◌, ◌/◌, ◌%◌, ◌^◌, ◌≡◌, Bool, true, false, ◌&&◌, ◌||◌, eqb, leb, length, get_or, drop}
use Rattle.std.specs.Prelude.{Result, Ok, Err, Option, None}
use mathlib.Core.List.{List, [], ◌∷◌, ◌++◌, flat_map}
use Rattle.std.proofs.lemmas.List.Edits.{sets}
use Rattle.ground.specs.Choice.{pick}
use Rattle.ground.specs.Refusals.{Report, reports, refuses, Cause, unless, judged, number_given, lowest}
use Rattle.ground.specs.declared.Refusal.{Refusal}
use Rattle.ground.specs.declared.Refusal.TheVariants as refusal
use Rattle.message.specs.declared.Message.{Message}
use Rattle.receiver.specs.Receivers.{fresh_receiver, near, far, pairs_ok, waiting_ok, receiver_ok, event_number, step_of}
use Rattle.receiver.specs.Hearing.{events_of, receiver_after, first_given, to_given}
use Rattle.receiver.specs.declared.Receiver.{Receiver}
use Rattle.receiver.specs.declared.Event.{Event}
use Rattle.receiver.specs.declared.Event.TheVariants.{Nothing, Message as Gives, Repeat, BrokenPair, BrokenUnsupported, Refused as Stays}
use Rattle.wire.specs.Messages.{message_in, message_bytes, none_bytes, kept_bytes, kept_from}
use Rattle.receiver.specs.declared.lent.Stretch.{Stretch}

-- ---- a receiver: past; the place in its frame, 0 while it hunts; bits in four bytes, highest first; the message given before in five; and of a waiting
-- k and the place awaited, 0 and 0 where there is none

abbrev pub RECEIVER_BYTES : ℕ
RECEIVER_BYTES = 13

abbrev pub frame_byte : ℕ → ℕ
frame_byte at = pick (leb at 62) at 0

abbrev pub since_byte : ℕ → ℕ
since_byte at = pick (leb at 62) 0 (pick (leb at 127) (at % 64) (at % 128))

abbrev pub target_byte : ℕ → ℕ
target_byte at = pick (leb at 62) 0 (pick (leb at 127) 22 62)

-- 255, a place that there is not, where the three say none
abbrev pub NO_PLACE : ℕ
NO_PLACE = 255

unfoldable pub place_from : ℕ → ℕ → ℕ → ℕ
place_from at since target =
    pick (eqb target 0) (pick (eqb since 0 && leb at 62) at NO_PLACE)
    (pick (eqb target 22) (pick (eqb at 0 && leb since (22 + 3)) (near since) NO_PLACE)
    (pick (eqb target 62) (pick (eqb at 0 && leb since (62 + 3)) (far since) NO_PLACE) NO_PLACE))

-- a number of four bytes, highest first
abbrev pub from_four : ℕ → ℕ → ℕ → ℕ → ℕ
from_four a b c d = ((a * 256 + b) * 256 + c) * 256 + d

-- 6: "a kept half-cycle not 0 or 1, more pairs than its frame has, house or unit above 15", and "a receiver whose waiting no break .. leads to"
unfoldable pub taken_receiver : Receiver → Result Receiver Refusal
taken_receiver r = judged (unless (receiver_ok r) refusal.State ∷ []) (Ok r) Err

abbrev pub receiver_with : List ℕ → Result (Option Message) Refusal → Result Receiver Refusal
receiver_with s (Ok g) =
    taken_receiver
    (record {
      past = get_or s 0 0;
      at = place_from (get_or s 1 0) (get_or s 11 0) (get_or s 12 0);
      bits = from_four (get_or s 2 0) (get_or s 3 0) (get_or s 4 0) (get_or s 5 0);
      given = g;
    })
receiver_with s (Err why) = Err refusal.State

-- the receiver that bytes hold: thirteen of them, with a message given before or none as five bytes keep it, in a state that is not refused
unfoldable pub receiver_in : List ℕ → Result Receiver Refusal
receiver_in s =
    judged (unless (eqb (length s) RECEIVER_BYTES) refusal.State ∷ [])
    (receiver_with s (kept_from (get_or s 6 0) (get_or s 7 0) (get_or s 8 0) (get_or s 9 0) (get_or s 10 0)))
    Err

abbrev pub is_receiver : Result Receiver Refusal → Bool
is_receiver (Ok r) = true
is_receiver (Err why) = false

abbrev pub holds_receiver : List ℕ → Bool
holds_receiver s = is_receiver (receiver_in s)

abbrev pub held_causes : List ℕ → List Cause
held_causes s = unless (holds_receiver s) refusal.State ∷ []

-- 01's number and value for each answer
abbrev pub receiver_report : Result Receiver Refusal → Report Receiver
receiver_report (Ok r) = reports (r ∷ [])
receiver_report (Err why) = refuses why

-- the bytes of a receiver
abbrev pub given_bytes : Option Message → List ℕ
given_bytes given = kept_bytes given

unfoldable pub receiver_bytes : Receiver → List ℕ
receiver_bytes r =
    r.past ∷ frame_byte r.at
    ∷ (r.bits / 2 ^ 24) ∷ (r.bits / 2 ^ 16 % 256) ∷ (r.bits / 2 ^ 8 % 256) ∷ (r.bits % 256)
    ∷ (given_bytes r.given ++ since_byte r.at ∷ target_byte r.at ∷ [])

-- ---- put into lent bytes

-- 6: bytes that are not thirteen, or a receiver in a state that there is not
abbrev pub put_causes : Receiver → List ℕ → List Cause
put_causes r state = unless (eqb (length state) RECEIVER_BYTES) refusal.State ∷ unless (receiver_ok r) refusal.State ∷ []

unfoldable pub put_answer : Receiver → List ℕ → Result ℕ Refusal
put_answer r state = judged (put_causes r state) (Ok 0) Err

unfoldable pub put_after : Receiver → List ℕ → List ℕ
put_after r state = judged (put_causes r state) (receiver_bytes r) (λ why. state)

-- a fresh one
abbrev pub fresh_answer : List ℕ → Result ℕ Refusal
fresh_answer state = put_answer fresh_receiver state

abbrev pub fresh_after : List ℕ → List ℕ
fresh_after state = put_after fresh_receiver state

-- ---- an event: its code, and its message's five bytes, or five 0

-- MESSAGE 1, REPEAT 2, and else the event's number: NOTHING 0, BROKEN 10 and 11, a half-cycle that is not 0 or 1 5
abbrev pub event_code : Event → ℕ
event_code (Gives m) = 1
event_code Repeat = 2
event_code Nothing = event_number Nothing
event_code BrokenPair = event_number BrokenPair
event_code BrokenUnsupported = event_number BrokenUnsupported
event_code (Stays why) = event_number (Stays why)

abbrev pub event_message : Event → List ℕ
event_message (Gives m) = message_bytes m
event_message Repeat = none_bytes
event_message Nothing = none_bytes
event_message BrokenPair = none_bytes
event_message BrokenUnsupported = none_bytes
event_message (Stays why) = none_bytes

abbrev pub event_bytes : Event → List ℕ
event_bytes e = event_code e ∷ event_message e

-- ---- one step for each half-cycle, by the receiver in lent bytes

-- what it says, one event for each half-cycle; bytes that hold no receiver say nothing
abbrev pub events_by : Result Receiver Refusal → List ℕ → List Event
events_by (Ok r) halves = events_of r halves
events_by (Err why) halves = []

unfoldable pub events_heard : List ℕ → List ℕ → List Event
events_heard state halves = events_by (receiver_in state) halves

-- its bytes after the last half-cycle; bytes that hold no receiver stay
abbrev pub bytes_by : Result Receiver Refusal → List ℕ → List ℕ → List ℕ
bytes_by (Ok r) state halves = receiver_bytes (receiver_after r halves)
bytes_by (Err why) state halves = state

unfoldable pub bytes_after : List ℕ → List ℕ → List ℕ
bytes_after state halves = bytes_by (receiver_in state) state halves

-- 9 where the events, six bytes each, have no room
abbrev pub space_for : List ℕ → ℕ → List Cause
space_for halves room = unless (leb (6 * length halves) room) refusal.Short ∷ []

-- 6, and that. A half-cycle that is not 0 or 1 is no cause: its event has the number 5.
abbrev pub receive_causes : List ℕ → List ℕ → ℕ → List Cause
receive_causes state halves room = held_causes state ++ space_for halves room

-- how many half-cycles came
unfoldable pub receive_answer : List ℕ → List ℕ → ℕ → Result ℕ Refusal
receive_answer state halves room = judged (receive_causes state halves room) (Ok (length halves)) Err

unfoldable pub state_after : List ℕ → List ℕ → ℕ → List ℕ
state_after state halves room = judged (receive_causes state halves room) (bytes_after state halves) (λ why. state)

-- the events' bytes one after the other, and what stands beyond them as it was
unfoldable pub events_after : List ℕ → List ℕ → List ℕ → List ℕ
events_after state halves events =
    judged (receive_causes state halves (length events))
    (flat_map event_bytes (events_heard state halves) ++ drop (6 * length halves) events)
    (λ why. events)

-- ---- the same by a receiver by value, from a place on up to the first MESSAGE

abbrev pub stretch_causes : Receiver → List ℕ → ℕ → List Cause
stretch_causes r halves room = unless (receiver_ok r) refusal.State ∷ space_for halves room

-- the place of the half-cycle that comes then, the receiver for it, and the message given; from a place beyond the last none is taken
unfoldable pub stretch_of : Receiver → List ℕ → ℕ → ℕ → Stretch
stretch_of r halves from room =
    let rest : List ℕ = drop from halves in
    judged (stretch_causes r halves room)
    (record { answer = Ok (from + length (to_given r rest)); next = receiver_after r (to_given r rest); given = first_given r rest })
    (λ why. record { answer = Err why; next = r; given = None })

-- the events at their places
unfoldable pub stretch_events : Receiver → List ℕ → ℕ → List ℕ → List ℕ
stretch_events r halves from events =
    judged (stretch_causes r halves (length events))
    (sets events (6 * from) (flat_map event_bytes (events_of r (to_given r (drop from halves)))))
    (λ why. events)

-- ---- what holds of them: proofs/ReadBack.antt and proofs/RunLaws.antt

-- "Within one routine the lowest number that applies is given."
pub record RunsLowest : Type 0 where
  pub put : (r : Receiver) (state : List ℕ) → lowest (put_causes r state) ≡ number_given (put_causes r state)
  pub receive : (state halves : List ℕ) (room : ℕ) → lowest (receive_causes state halves room) ≡ number_given (receive_causes state halves room)
  pub to_message : (r : Receiver) (halves : List ℕ) (room : ℕ) → lowest (stretch_causes r halves room) ≡ number_given (stretch_causes r halves room)

-- a receiver is read back from its bytes
abbrev pub ReceiversReadBack : Type 0
ReceiversReadBack = (r : Receiver) → receiver_ok r ≡ true → receiver_in (receiver_bytes r) ≡ Ok r

-- so are its place's three bytes, and no other three say that place
pub record PlacesReadBack : Type 0 where
  pub place_of-bytes : (at bits : ℕ) → (pairs_ok at bits || waiting_ok at) ≡ true → place_from (frame_byte at) (since_byte at) (target_byte at) ≡ at
  pub bytes_of-place : (frame since target : ℕ) → let at = place_from frame since target in
      (leb at 62 || waiting_ok at) ≡ true → (frame_byte at ≡ frame) × (since_byte at ≡ since) × (target_byte at ≡ target)

-- fresh bytes hold a receiver, and bytes that hold one still do after any half-cycles
pub record StaysReceiver : Type 0 where
  pub fresh : (state : List ℕ) → length state ≡ RECEIVER_BYTES → receiver_in (fresh_after state) ≡ Ok fresh_receiver
  pub after : (state halves : List ℕ) → holds_receiver state ≡ true → holds_receiver (bytes_after state halves) ≡ true

-- the code is 1 for MESSAGE and for no other event of a receiver, and its message is then read back; two events with the same bytes are one
pub record EventsReadBack : Type 0 where
  pub given : (r : Receiver) (h : ℕ) (m : Message) → (step_of r h).event ≡ Gives m → message_in (drop 1 (event_bytes (Gives m))) ≡ Ok m
  pub code_one : (r : Receiver) (h : ℕ) → event_code (step_of r h).event ≡ 1 → (m : Message) × ((step_of r h).event ≡ Gives m)
  pub one_to_one : (r q : Receiver) (h k : ℕ) → event_bytes (step_of r h).event ≡ event_bytes (step_of q k).event
      → (step_of r h).event ≡ (step_of q k).event

-- half-cycles in two parts, one call for each, say and leave what they do in one
pub record TwoParts : Type 0 where
  pub events : (state xs ys : List ℕ) → events_heard state (xs ++ ys) ≡ events_heard state xs ++ events_heard (bytes_after state xs) ys
  pub state : (state xs ys : List ℕ) → bytes_after state (xs ++ ys) ≡ bytes_after (bytes_after state xs) ys
