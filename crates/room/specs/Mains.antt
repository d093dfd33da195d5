-- The mains route: half-cycles through the receiver in lent bytes, one after the other, and each message that it gives applied to the room
-- before the next. It is given what a receiver is given (receiver's Bytes) and a buffer for what the tables answer.
use Rattle.std.specs.Prelude.{ℕ, ◌*◌, ◌/◌, ◌%◌, ◌^◌, leb, length, drop, Result, Ok, Err, Option, Some, None}
use mathlib.Core.List.{List, [], ◌∷◌, ◌++◌, flat_map}
use Rattle.ground.specs.Refusals.{Report, reports, refuses, Cause, unless, judged}
use Rattle.ground.specs.declared.Refusal.TheVariants as refusal
use Rattle.receiver.specs.declared.Event.{Event}
use Rattle.receiver.specs.Hearing.{given_by}
use Rattle.wire.specs.Packed.{packed}
use Rattle.receiver.specs.Bytes.{holds_receiver, event_bytes, events_heard, bytes_after}
use Rattle.room.specs.Rooms.{Room, changes, counts_of, room_after, apply_answer, tallied}
use Rattle.room.specs.Routes.{room_causes}
use Rattle.ground.specs.declared.Refusal.{Refusal}
use Rattle.room.specs.declared.Changes.{Changes}
use Rattle.message.specs.declared.Message.{Message}

-- ---- one event

-- the room after an event: the message of MESSAGE is applied, and no other event gives one
abbrev pub room_given : Option Message → Room → Room
room_given None room = room
room_given (Some m) room = room_after m room

-- what the tables answer to it, as one number: 0 where there is no message; else 0 with both counts, 4 where it is not carried, 18 for an opening above 25
abbrev pub answer_given : Option Message → Room → ℕ
answer_given None room = 0
answer_given (Some m) room = packed (tallied (apply_answer m room))

-- that number in eight bytes, the lowest first
abbrev pub answer_bytes : ℕ → List ℕ
answer_bytes n =
    n % 256 ∷ (n / 2 ^ 8 % 256) ∷ (n / 2 ^ 16 % 256) ∷ (n / 2 ^ 24 % 256)
    ∷ (n / 2 ^ 32 % 256) ∷ (n / 2 ^ 40 % 256) ∷ (n / 2 ^ 48 % 256) ∷ (n / 2 ^ 56 % 256) ∷ []

-- ---- events one after the other

unfoldable pub room_heard : List Event → Room → Room
room_heard [] room = room
room_heard (e ∷ es) room = room_heard es (room_given (given_by e) room)

unfoldable pub answers_heard : List Event → Room → List ℕ
answers_heard [] room = []
answers_heard (e ∷ es) room = answer_bytes (answer_given (given_by e) room) ++ answers_heard es (room_given (given_by e) room)

-- ---- a call

-- what is lent beside the tables
pub record Lending : Type 0 where
  pub state : List ℕ
  pub halves : List ℕ
  pub events : List ℕ
  pub answers : List ℕ

abbrev pub lent_to : List ℕ → List ℕ → List ℕ → List ℕ → Lending
lent_to state halves events answers = record { state = state; halves = halves; events = events; answers = answers }

-- 6 for a receiver in no state that there is; 9 where the answers, eight bytes each, or the events, six, have no room
abbrev pub lent_causes : Lending → List Cause
lent_causes l =
    unless (holds_receiver l.state) refusal.State
    ∷ unless (leb (8 * length l.halves) (length l.answers)) refusal.Short
    ∷ unless (leb (6 * length l.halves) (length l.events)) refusal.Short
    ∷ []

-- 1, 16, 3 and 17, and these
abbrev pub mains_causes : Lending → Room → List Cause
mains_causes l room = room_causes room ++ lent_causes l

-- the events of the half-cycles, and the room once their messages have been applied
abbrev pub heard : Lending → List Event
heard l = events_heard l.state l.halves

abbrev pub mains_room : Lending → Room → Room
mains_room l room = room_heard (heard l) room

-- the answer: the counts are over the whole call, and a message that is not carried is no refusal of it
unfoldable pub mains_answer : Lending → Room → Result Changes Refusal
mains_answer l room = judged (mains_causes l room) (Ok (changes room (mains_room l room))) Err

-- its number and counts
abbrev pub mains_report : Lending → Room → Report ℕ
mains_report l room = judged (mains_causes l room) (reports (counts_of (changes room (mains_room l room)))) refuses

-- the room that is left
unfoldable pub mains_after : Lending → Room → Room
mains_after l room = judged (mains_causes l room) (mains_room l room) (λ why. room)

-- and what else is lent: the receiver after the last half-cycle, its events and the tables' answers; bytes beyond them stay
abbrev pub mains_lent : Lending → Room → Lending
mains_lent l room = record {
  state = bytes_after l.state l.halves;
  halves = l.halves;
  events = flat_map event_bytes (heard l) ++ drop (6 * length l.halves) l.events;
  answers = answers_heard (heard l) room ++ drop (8 * length l.halves) l.answers;
}

unfoldable pub lent_after : Lending → Room → Lending
lent_after l room = judged (mains_causes l room) (mains_lent l room) (λ why. l)
