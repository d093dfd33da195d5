-- The receiver (01, 'The receiver', 'Numbers given back'): what each half-cycle says, and where the receiver then stands.
use Rattle.std.specs.Prelude.{ℕ, ◌+◌, ◌-◌, ◌*◌, ◌/◌, ◌%◌, ◌^◌, ◌≡◌, Bool, true, false, ◌&&◌, ◌||◌, List, [], ◌∷◌, eqb, leb, Option, Some, None}
use Rattle.ground.specs.Choice.{pick}
use Rattle.ground.specs.Refusals.{refusal_number, Cause, unless, judged, number_given, lowest}
use Rattle.ground.specs.declared.Refusal.TheVariants as refusal
use Rattle.message.specs.Messages.{message_ok, same_message}
use Rattle.message.specs.Words.{standard_of, extended_of}
use Rattle.message.specs.declared.Message.{Message}
use Rattle.message.specs.declared.word.Reading.{Reading}
use Rattle.message.specs.declared.word.Reading.TheVariants.{Message as Says, Longer, Unsupported}
use Rattle.receiver.specs.declared.Receiver.{Receiver}
use Rattle.receiver.specs.declared.Event.{Event}
use Rattle.receiver.specs.declared.Event.TheVariants.{Nothing, Message as Gives, Repeat, BrokenPair, BrokenUnsupported, Refused}
use Rattle.receiver.specs.declared.Heard.{Heard}

-- 01's number for each event: "10, 11 .. receiver events, not refusals", and 0 for all else that is not refused
abbrev pub event_number : Event → ℕ
event_number Nothing = 0
event_number (Gives m) = 0
event_number Repeat = 0
event_number BrokenPair = 10
event_number BrokenUnsupported = 11
event_number (Refused why) = refusal_number why

-- a receiver that "is hunting and has received no half-cycle"
abbrev pub fresh_receiver : Receiver
fresh_receiver = record { past = 63; at = 0; bits = 0; given = None }

-- ---- the waiting (02, A2)

-- "After BROKEN 10 in a frame whose start began at half-cycle s, a start 1110 at s+22 is also accepted .., and one at s+62": the receiver hunts and waits
-- for one. Then `at` is `near k` where it waits at s+22 and `far k` where at s+62, and the half-cycle that comes next is s+k. No place of a frame is so
-- high: the last is 62.
abbrev pub near : ℕ → ℕ
near k = 64 + k

abbrev pub far : ℕ → ℕ
far k = 128 + k

-- the fourth half-cycle of the start that is waited for comes next
abbrev pub near_end : ℕ
near_end = near (22 + 3)

abbrev pub far_end : ℕ
far_end = far (62 + 3)

-- ---- the four causes of STATE

-- "more pairs than its frame has": 29 at most, and more than nine only after code 7 with function bit 1
unfoldable pub pairs_ok : ℕ → ℕ → Bool
pairs_ok at bits = leb at 22 || (leb at 62 && eqb (bits / 2 ^ ((at - 23) / 2) % 32) 15)

-- "house or unit above 15"
abbrev pub given_ok : Option Message → Bool
given_ok None = true
given_ok (Some m) = message_ok m

-- "6 also for a receiver whose waiting no break, with calls after it, leads to". A break leads first to k = 6, in the first pair, and beyond the ninth to
-- k = 24. WaitingsRight of receiver_laws states in 02's words that these and no others are led to.
abbrev pub waiting_ok : ℕ → Bool
waiting_ok at = (leb (near 6) at && leb at near_end) || (leb (far 24) at && leb at far_end)

-- "a kept half-cycle not 0 or 1", and the three above
unfoldable pub receiver_ok : Receiver → Bool
receiver_ok r = leb r.past 63 && ((pairs_ok r.at r.bits || waiting_ok r.at) && given_ok r.given)

-- ---- where a receiver stands after a half-cycle

-- the last six half-cycles with one more
abbrev pub shifted : ℕ → ℕ → ℕ
shifted past h = past % 32 * 2 + h

-- it stands at a place, with no bits and no message given directly before
abbrev pub bare_at : ℕ → ℕ → Receiver
bare_at past at = record { past = past; at = at; bits = 0; given = None }

-- it hunts, and waits for a start if `at` is not 0
abbrev pub waiting : ℕ → ℕ → Receiver
waiting past at = bare_at past at

abbrev pub hunting : ℕ → Receiver
hunting past = waiting past 0

-- it reads from the first pair of a frame on
abbrev pub started : ℕ → Receiver
started past = bare_at past 5

abbrev pub says : Event → Receiver → Heard
says e r = record { event = e; next = r }

-- "Hunting: a frame begins after the last seven half-cycles received were 0 0 0 1 1 1 0, earlier frames' half-cycles included."
abbrev pub start_hunted : ℕ → ℕ → Bool
start_hunted past h = eqb past 7 && eqb h 0

-- "a start 1110 at s+22 is also accepted .., and one at s+62": this half-cycle is the fourth from there, and the last four were 1 1 1 0
abbrev pub start_waited : ℕ → ℕ → ℕ → Bool
start_waited past at h = (eqb at near_end || eqb at far_end) && (eqb (past % 8) 7 && eqb h 0)

-- what is waited for where no frame has begun: s+62 "if s+22 did not hold one", after it none
abbrev pub waits_on : ℕ → ℕ
waits_on at = pick (eqb at near_end) (far (22 + 4)) (pick (eqb at 0 || eqb at far_end) 0 (at + 1))

-- "The ordinary hunt runs on meanwhile; a frame it begins ends the waiting."
unfoldable pub hunt_of : ℕ → ℕ → ℕ → Heard
hunt_of past at h =
    says Nothing
    (pick (start_hunted past h || start_waited past at h) (started (shifted past h)) (waiting (shifted past h) (waits_on at)))

-- "The next four half-cycles must be 1 1 1 0; at the first that differs it hunts, saying nothing."
unfoldable pub await_of : Receiver → ℕ → Heard
await_of r h =
    pick (eqb h (pick (leb r.at 3) 1 0))
    (says Nothing (record { past = shifted r.past h; at = r.at + 1; bits = 0; given = r.given }))
    (hunt_of r.past 0 h)

-- "equal to the one just given"
abbrev pub is_repeat : Option Message → Message → Bool
is_repeat None m = false
is_repeat (Some g) m = same_message g m

-- "A complete frame gives MESSAGE", and four more half-cycles are awaited; "equal to the one just given, it gives REPEAT and hunting follows"
unfoldable pub complete_of : Option Message → Message → ℕ → Heard
complete_of given m past =
    pick (is_repeat given m) (says Repeat (hunting past))
    (says (Gives m) (record { past = past; at = 1; bits = 0; given = Some m }))

-- what the bits say when a pair is complete: of nine pairs a message, "code 10, 11 or 12 with function bit 1" or that a longer frame has
-- begun, of twenty-nine an extended message; otherwise that pairs are to follow
abbrev pub reading_of : ℕ → ℕ → Reading
reading_of at bits = pick (eqb at 22) (standard_of bits) (pick (eqb at 62) (Says (extended_of bits)) Longer)

-- what becomes of the receiver by it
abbrev pub outcome_of : Receiver → ℕ → ℕ → Reading → Heard
outcome_of r bits past (Says m) = complete_of r.given m past
outcome_of r bits past Longer = says Nothing (record { past = past; at = r.at + 1; bits = bits; given = r.given })
outcome_of r bits past Unsupported = says BrokenUnsupported (hunting past)

-- a pair of different half-cycles is complete, and with it perhaps the frame
unfoldable pub pair_of : Receiver → ℕ → ℕ → Heard
pair_of r bits past = outcome_of r bits past (reading_of r.at bits)

-- the bits with that of the pair which a half-cycle completes: the pair's first half-cycle
abbrev pub bits_after : Receiver → ℕ
bits_after r = r.bits % 2 ^ 28 * 2 + r.past % 2

-- "at s+22 .. if the break came in the first nine pairs, and one at s+62 if not": the pair's second half-cycle was s+at-1
abbrev pub broken : ℕ → ℕ → Receiver
broken past at = waiting past (pick (leb at 22) (near at) (far at))

-- "It then reads pairs. An equal pair gives BROKEN 10 at its second half-cycle, and hunting resumes."
unfoldable pub read_of : Receiver → ℕ → Heard
read_of r h =
    pick (eqb (r.at % 2) 1)
    (says Nothing (record { past = shifted r.past h; at = r.at + 1; bits = r.bits; given = r.given }))
    (pick (eqb (r.past % 2) h) (says BrokenPair (broken (shifted r.past h) r.at))
    (pair_of r (bits_after r) (shifted r.past h)))

-- it reads no frame and awaits none
abbrev pub is_hunting : ℕ → Bool
is_hunting at = eqb at 0 || leb 63 at

-- one half-cycle of 0 or 1 in a state that is not refused
unfoldable pub takes_of : Receiver → ℕ → Heard
takes_of r h =
    pick (is_hunting r.at) (hunt_of r.past r.at h) (pick (leb r.at 4) (await_of r h) (read_of r h))

-- ---- one call

-- 5 HALF and 6 STATE
abbrev pub step_causes : Receiver → ℕ → List Cause
step_causes r h = unless (leb h 1) refusal.Half ∷ unless (receiver_ok r) refusal.State ∷ []

-- a refusal "changes nothing lent or handed in"
unfoldable pub step_of : Receiver → ℕ → Heard
step_of r h = judged (step_causes r h) (takes_of r h) (λ why. says (Refused why) r)

-- "An equal pair": the half-cycle is a pair's second, and is what the first was
abbrev pub equal_pair : Receiver → ℕ → Bool
equal_pair r h = (leb 5 r.at && leb r.at 62) && (eqb (r.at % 2) 0 && eqb (r.past % 2) h)

-- "A ninth pair that completes code 10, 11 or 12 with function bit 1": that pair's bit is 1, after the four bits of the code
abbrev pub unsupported_code : Receiver → Bool
unsupported_code r = eqb r.at 22 && (eqb (r.past % 2) 1 && (leb 10 (r.bits % 16) && leb (r.bits % 16) 12))

-- BROKEN 10, BROKEN 11, and 0 for all else
unfoldable pub broken_number : Receiver → ℕ → ℕ
broken_number r h = pick (equal_pair r h) 10 (pick (unsupported_code r) 11 0)

-- ---- what holds of every call: proofs/ReceiverLaws.antt

-- "Within one routine the lowest number that applies is given."
abbrev pub StepLowest : Type 0
StepLowest = (r : Receiver) (h : ℕ) → lowest (step_causes r h) ≡ number_given (step_causes r h)

-- a receiver that is not refused stays so, whatever half-cycle comes; a fresh one is not refused
abbrev pub FreshIsValid : Type 0
FreshIsValid = receiver_ok fresh_receiver ≡ true

abbrev pub StaysValid : Type 0
StaysValid = (r : Receiver) (h : ℕ) → receiver_ok r ≡ true → receiver_ok (step_of r h).next ≡ true

-- every message given has house and unit 0 to 15
abbrev pub GivesValid : Type 0
GivesValid = (r : Receiver) (h : ℕ) (m : Message) → (step_of r h).event ≡ Gives m → message_ok m ≡ true
