-- One call after another: what a receiver says over a list of half-cycles, and where it then stands.
use Rattle.std.specs.Prelude.{ℕ, List, [], ◌∷◌, leb, Option, Some, None}
use Rattle.ground.specs.Choice.{pick}
use Rattle.message.specs.declared.Message.{Message}
use Rattle.receiver.specs.Receivers.{step_of}
use Rattle.receiver.specs.declared.Receiver.{Receiver}
use Rattle.receiver.specs.declared.Event.{Event}
use Rattle.receiver.specs.declared.Event.TheVariants.{Nothing, Message as Gives, Repeat, BrokenPair, BrokenUnsupported, Refused}

-- the event of each half-cycle
unfoldable pub events_of : Receiver → List ℕ → List Event
events_of r [] = []
events_of r (h ∷ hs) = (step_of r h).event ∷ events_of (step_of r h).next hs

-- the receiver after the last
unfoldable pub receiver_after : Receiver → List ℕ → Receiver
receiver_after r [] = r
receiver_after r (h ∷ hs) = receiver_after (step_of r h).next hs

-- a refused half-cycle "changes nothing": those that count are 0 or 1
abbrev pub taken : List ℕ → List ℕ
taken [] = []
taken (h ∷ hs) = pick (leb h 1) (h ∷ taken hs) (taken hs)

-- ---- up to the first MESSAGE

-- the message that an event gives, if any
abbrev pub given_by : Event → Option Message
given_by Nothing = None
given_by (Gives m) = Some m
given_by Repeat = None
given_by BrokenPair = None
given_by BrokenUnsupported = None
given_by (Refused why) = None

-- the message of an event, else a later one
abbrev pub else_given : Option Message → Option Message → Option Message
else_given None later = later
else_given (Some m) later = Some m

-- the first message that half-cycles give
unfoldable pub first_given : Receiver → List ℕ → Option Message
first_given r [] = None
first_given r (h ∷ hs) = else_given (given_by (step_of r h).event) (first_given (step_of r h).next hs)

-- no more half-cycles after a message, else those that come
abbrev pub else_more : Option Message → List ℕ → List ℕ
else_more None more = more
else_more (Some m) more = []

-- the half-cycles up to the first message, the one that gives it too; all where none does
unfoldable pub to_given : Receiver → List ℕ → List ℕ
to_given r [] = []
to_given r (h ∷ hs) = h ∷ else_more (given_by (step_of r h).event) (to_given (step_of r h).next hs)
