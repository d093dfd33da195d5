-- Demand 2: "Two routes carrying the same messages leave equal tables if the tables were equal before.", and 02, A1: "Demand 2 covers both tables from here."
-- What a route leaves and counts is what the contracts of `radio_route` and `mains_route` promise of its calls.
use Rattle.std.specs.Prelude.{ℕ, zero, suc, ◌+◌, ◌*◌, ◌/◌, ◌%◌, ◌^◌, ◌≤◌, ◌≡◌, true, length, get_or, drop, replicate}
use mathlib.Core.List.{List, [], ◌∷◌, ◌++◌, map, flat_map}
use Rattle.ground.specs.Refusals.{judged}
use Rattle.message.specs.declared.Message.{Message}
use Rattle.burst.specs.Frames.{burst_of}
use Rattle.receiver.specs.Receivers.{fresh_receiver}
use Rattle.receiver_laws.specs.Whole.{clear}
use Rattle.receiver_laws.specs.Inversion.{told}
use Rattle.receiver.specs.Bytes.{receiver_bytes}
use Rattle.radio.specs.Codes.{four_bytes, command_ok, command_of}
use Rattle.radio.specs.Answers.{read_causes, messages_of}
use Rattle.radio.specs.declared.RadioCommand.{RadioCommand}
use Rattle.room.specs.declared.Changes.{Changes}
use Rattle.room.specs.Rooms.{Room, no_changes, changes_of}
use Rattle.room.specs.Routes.{room_after_all, radio_after, radio_answer}
use Rattle.room.specs.Mains.{Lending, lent_to, heard, lent_causes, mains_causes, mains_after, mains_lent}

-- ---- a route: what comes in

pub data Route : Type 0 where
  -- by radio, codes, a call each
  radio : List (List ℕ) → Route
  -- on the mains, half-cycles in one call, with whatever is lent beside the tables: the bytes of a receiver and both buffers; Slices.antt says
  -- that more calls make no difference
  mains : Lending → Route

-- the messages that a code means: those of the command that it names, and none where the reader refuses it
unfoldable pub meant_by : List ℕ → List Message
meant_by code = judged (read_causes code) (messages_of (command_of code)) (λ why. [])

-- the messages that a route carries: those that its codes mean, or those that its receiver gives; what is refused carries none
abbrev pub carries : Route → List Message
carries (radio codes) = flat_map meant_by codes
carries (mains l) = judged (lent_causes l) (told (heard l)) (λ why. [])

-- ---- what it leaves

-- the room that is left, each call having the room that the call before it left
unfoldable pub radio_leaves : List (List ℕ) → Room → Room
radio_leaves [] room = room
radio_leaves (code ∷ codes) room = radio_leaves codes (radio_after code room)

abbrev pub leaves : Route → Room → Room
leaves (radio codes) room = radio_leaves codes room
leaves (mains l) room = mains_after l room

-- ---- what it counts

-- counts of modules and of shutters, added up each
abbrev pub added : Changes → Changes → Changes
added c d = record { levels = c.levels + d.levels; openings = c.openings + d.openings }

-- by radio, the counts that the calls give back, added up
unfoldable pub radio_counts : List (List ℕ) → Room → Changes
radio_counts [] room = no_changes
radio_counts (code ∷ codes) room = added (changes_of (radio_answer code room)) (radio_counts codes (radio_after code room))

-- on the mains, the counts of the answers that are left beside the events, added up: eight bytes each, the lowest first, the levels in the sixteen bits
-- above the lowest eight, and the openings in the next sixteen; a call that is refused counts 0
abbrev pub number_in : List ℕ → ℕ
number_in b =
    get_or b 0 0 + get_or b 1 0 * 2 ^ 8 + get_or b 2 0 * 2 ^ 16 + get_or b 3 0 * 2 ^ 24
    + get_or b 4 0 * 2 ^ 32 + get_or b 5 0 * 2 ^ 40 + get_or b 6 0 * 2 ^ 48 + get_or b 7 0 * 2 ^ 56

abbrev pub changes_in : List ℕ → Changes
changes_in b = record { levels = number_in b / 2 ^ 8 % 2 ^ 16; openings = number_in b / 2 ^ 24 % 2 ^ 16 }

unfoldable pub counts_in : ℕ → List ℕ → Changes
counts_in zero answers = no_changes
counts_in (suc n) answers = added (changes_in answers) (counts_in n (drop 8 answers))

abbrev pub counts : Route → Room → Changes
counts (radio codes) room = radio_counts codes room
counts (mains l) room = judged (mains_causes l room) (counts_in (length l.halves) (mains_lent l room).answers) (λ why. no_changes)

-- ---- the demand

-- two routes leave equal rooms of two, and give equal counts
pub record Alike (a b : Route) (room other : Room) : Type 0 where
  pub rooms : leaves a room ≡ leaves b other
  pub same_counts : counts a room ≡ counts b other

-- any two routes, any receivers and buffers, and any rooms, refused ones too: proofs/Carried.antt
abbrev pub Demand2 : Type 0
Demand2 = (a b : Route) (room other : Room) → carries a ≡ carries b → room ≡ other → Alike a b room other

-- a route leaves what its messages, applied one after the other, leave
abbrev pub NoMoreThanMessages : Type 0
NoMoreThanMessages = (a : Route) (room : Room) → leaves a room ≡ room_after_all (carries a) room

-- ---- radio commands, and the bursts of what they mean

-- a message's burst, and how many clear half-cycles come before it
pub record Sending : Type 0 where
  pub gap : ℕ
  pub message : Message

abbrev pub after : ℕ → Message → Sending
after z m = record { gap = z; message = m }

unfoldable pub on_line : List Sending → List ℕ
on_line [] = []
on_line (s ∷ more) = (clear s.gap ++ burst_of s.message) ++ on_line more

-- to a fresh receiver in its bytes, with room for the events and the answers
abbrev pub lending : List ℕ → List ℕ → Lending
lending state halves = lent_to state halves (replicate (6 * length halves) 0) (replicate (8 * length halves) 0)

abbrev pub to_fresh : List Sending → Route
to_fresh line = mains (lending (receiver_bytes fresh_receiver) (on_line line))

-- each "after three or more clear half-cycles"
abbrev pub Spaced : List Sending → Type 0
Spaced [] = Unit {0}
Spaced (s ∷ more) = (3 ≤ s.gap) × Spaced more

abbrev pub AllOk : List RadioCommand → Type 0
AllOk [] = Unit {0}
AllOk (k ∷ ks) = (command_ok k ≡ true) × AllOk ks

-- the line carries the commands' messages to a fresh receiver, and so do their codes; so they leave equal rooms: proofs/Bursts.antt
pub record SameByBoth (ks : List RadioCommand) (line : List Sending) : Type 0 where
  pub by_mains : carries (to_fresh line) ≡ flat_map messages_of ks
  pub by_codes : carries (radio (map four_bytes ks)) ≡ flat_map messages_of ks
  pub alike : (room : Room) → Alike (to_fresh line) (radio (map four_bytes ks)) room room

abbrev pub BurstsAsCodes : Type 0
BurstsAsCodes =
    (ks : List RadioCommand) (line : List Sending) → AllOk ks → Spaced line → map (λ s. s.message) line ≡ flat_map messages_of ks
    → SameByBoth ks line
