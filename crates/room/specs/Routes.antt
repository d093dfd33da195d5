-- Messages applied to a room one after the other, how a route judges the room, and the radio route: a code through the reader. The mains route is in Mains.
use Rattle.std.specs.Prelude.{ℕ, List, [], ◌∷◌, ◌++◌, Result, Ok, Err}
use Rattle.ground.specs.Refusals.{Report, reports, refuses, Cause, unless, judged}
use Rattle.ground.specs.declared.Refusal.TheVariants as refusal
use Rattle.message.specs.declared.Message.{Message}
use Rattle.radio.specs.Codes.{command_of}
use Rattle.radio.specs.Answers.{read_causes, messages_of}
use Rattle.room.specs.Rooms.{Room, modules_long, shutters_long, modules_valid, shutters_valid, changes, counts_of, room_after}
use Rattle.ground.specs.declared.Refusal.{Refusal}
use Rattle.room.specs.declared.Changes.{Changes}

-- messages applied one after the other, each as `apply` does it
unfoldable pub room_after_all : List Message → Room → Room
room_after_all [] room = room
room_after_all (m ∷ ms) room = room_after_all ms (room_after m room)

-- 1, 16, 3, 17: the room is judged once, before anything that comes to it
abbrev pub room_causes : Room → List Cause
room_causes room =
    unless (modules_long room) refusal.Table
    ∷ unless (shutters_long room) refusal.ShutterTable
    ∷ unless (modules_valid room) refusal.Record
    ∷ unless (shutters_valid room) refusal.ShutterRecord
    ∷ []

-- ---- by radio

-- these, and what the reader refuses: 12, 13, 14
abbrev pub radio_causes : List ℕ → Room → List Cause
radio_causes code room = room_causes room ++ read_causes code

-- the room once the messages of the command that a code names have been applied
abbrev pub radio_room : List ℕ → Room → Room
radio_room code room = room_after_all (messages_of (command_of code)) room

-- the room that is left: both messages are applied, or none
unfoldable pub radio_after : List ℕ → Room → Room
radio_after code room = judged (radio_causes code room) (radio_room code room) (λ why. room)

-- the answer: the counts are over both messages
unfoldable pub radio_answer : List ℕ → Room → Result Changes Refusal
radio_answer code room = judged (radio_causes code room) (Ok (changes room (radio_room code room))) Err

-- its number and counts
abbrev pub radio_report : List ℕ → Room → Report ℕ
radio_report code room = judged (radio_causes code room) (reports (counts_of (changes room (radio_room code room)))) refuses
