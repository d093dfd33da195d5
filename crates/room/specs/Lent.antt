-- What the private routines of a room promise beside the definitions of Rooms, Routes and Mains: both tables judged, one table's answer as the room's, a byte
-- of each record kept, and half-cycles taken stretch after stretch, up to the first that gives MESSAGE.
use Rattle.std.specs.Prelude.{ℕ, ◌+◌, ◌-◌, ◌*◌, ◌≤◌, ◌≡◌, true, length, get_or, drop, replicate, Result, Ok, Err, Option, ⊤}
use mathlib.Core.List.{List, ◌++◌, flat_map}
use Rattle.std.proofs.lemmas.List.Edits.{sets}
use Rattle.ground.specs.Refusals.{judged}
use Rattle.receiver.specs.Receivers.{receiver_ok}
use Rattle.receiver.specs.Hearing.{events_of, receiver_after}
use Rattle.receiver.specs.Bytes.{event_bytes}
use Rattle.receiver.specs.declared.Receiver.{Receiver}
use Rattle.room.specs.Rooms.{Room, room_ok}
use Rattle.room.specs.Routes.{room_causes}
use Rattle.room.specs.Mains.{answer_given, answer_bytes, room_heard, answers_heard}
use Rattle.ground.specs.declared.Refusal.{Refusal}
use Rattle.room.specs.declared.Changes.{Changes}
use Rattle.message.specs.declared.Message.{Message}

-- the second byte of record i, of so many bytes each: a module's level, a shutter's opening
abbrev pub second_byte : ℕ → List ℕ → ℕ → ℕ
second_byte size t i = get_or t (i * size + 1) 0

-- whether a route can use both tables, or why not
unfoldable pub room_verdict : Room → Result ⊤ Refusal
room_verdict room = judged (room_causes room) (Ok tt) Err

-- what one of the two tables answers, as the room's answer: in the other nothing has changed
abbrev pub levels_answer : Result ℕ Refusal → Result Changes Refusal
levels_answer (Ok n) = Ok (record { levels = n; openings = 0 })
levels_answer (Err why) = Err why

abbrev pub openings_answer : Result ℕ Refusal → Result Changes Refusal
openings_answer (Ok n) = Ok (record { levels = 0; openings = n })
openings_answer (Err why) = Err why

-- ---- a stretch of half-cycles

-- the answers to n half-cycles, of which the last may have given a message
abbrev pub stretch_answers : ℕ → Option Message → Room → List ℕ
stretch_answers n given room = replicate (8 * (n - 1)) 0 ++ answer_bytes (answer_given given room)

-- ---- all half-cycles from a place on

-- the receiver and both tables are judged, and both buffers have space
pub record Prepared (r : Receiver) (halves : List ℕ) (i : ℕ) (room : Room) (events answers : List ℕ) : Type 0 where
  pub receiver : receiver_ok r ≡ true
  pub place : i ≤ length halves
  pub rules : room_ok room ≡ true
  pub events_space : 6 * length halves ≤ length events
  pub answers_space : 8 * length halves ≤ length answers

-- what they leave: the receiver, the room, and both buffers
pub record Remains : Type 0 where
  pub receiver : Receiver
  pub room : Room
  pub events : List ℕ
  pub answers : List ℕ

abbrev pub remains : Receiver → Room → List ℕ → List ℕ → Remains
remains r room events answers = record { receiver = r; room = room; events = events; answers = answers }

-- by the half-cycles from place i on
unfoldable pub remains_by : List ℕ → Receiver → ℕ → Room → List ℕ → List ℕ → Remains
remains_by halves r i room events answers =
    remains (receiver_after r (drop i halves)) (room_heard (events_of r (drop i halves)) room)
    (sets events (6 * i) (flat_map event_bytes (events_of r (drop i halves))))
    (sets answers (8 * i) (answers_heard (events_of r (drop i halves)) room))
