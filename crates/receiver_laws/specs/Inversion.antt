-- One inverted half-cycle (01, 'The receiver'): "a fresh receiver hears three or more clear half-cycles, then one burst with any one of
-- its half-cycles inverted, then clear ones. It gives MESSAGE at most once, and only with that burst's message." 02, A2: "01's property then says more:
-- an inversion anywhere in a pair of either copy gives MESSAGE exactly once, with that message. Inverted starts keep the old 'at most once'." The
-- theorems: proofs/Inversion.antt.
use Rattle.std.specs.Prelude.{ℕ, ◌-◌, ◌%◌, ◌≤◌, ◌<◌, ◌⊎◌, ◌≡◌, true, List, [], ◌∷◌, ◌++◌, length, get_or, set, Option, Some, None}
use Rattle.message.specs.Messages.{message_ok}
use Rattle.message.specs.declared.Message.{Message}
use Rattle.burst.specs.Frames.{frame_length, burst_of}
use Rattle.receiver.specs.Receivers.{fresh_receiver}
use Rattle.receiver.specs.Hearing.{events_of, given_by}
use Rattle.receiver.specs.declared.Event.{Event}
use Rattle.receiver_laws.specs.Whole.{clear}

-- the half-cycle at i inverted, the others as they are
unfoldable pub inverted : ℕ → List ℕ → List ℕ
inverted i hs = set hs i (1 - get_or hs i 0)

-- the messages given, one after the other
abbrev pub as_list : Option Message → List Message
as_list None = []
as_list (Some m) = m ∷ []

unfoldable pub told : List Event → List Message
told [] = []
told (e ∷ es) = as_list (given_by e) ++ told es

-- "MESSAGE at most once, and only with that burst's message"
abbrev pub AtMostOnce : Message → List Message → Type 0
AtMostOnce m ms = (ms ≡ []) ⊎ (ms ≡ m ∷ [])

-- the messages given where a fresh receiver hears z clear half-cycles, the burst of m with its half-cycle at i inverted, and y clear ones
abbrev pub told_of : Message → ℕ → ℕ → ℕ → List Message
told_of m z i y = told (events_of fresh_receiver (clear z ++ inverted i (burst_of m) ++ clear y))

-- 01's sentence
abbrev pub OneInversion : Type 0
OneInversion = (m : Message) → message_ok m ≡ true → (z i y : ℕ) → 3 ≤ z → i < length (burst_of m) → AtMostOnce m (told_of m z i y)

-- the half-cycle at i of a burst is one of a pair: it is none of the first four of its copy
abbrev pub InPair : Message → ℕ → Type 0
InPair m i = 4 ≤ i % frame_length m

-- 02's: "exactly once, with that message"
abbrev pub ExactlyOnce : Type 0
ExactlyOnce = (m : Message) → message_ok m ≡ true → (z i y : ℕ) → 3 ≤ z → i < length (burst_of m) → InPair m i → told_of m z i y ≡ m ∷ []

-- what holds besides: beyond the first copy's start the message is given once, the second copy's start included; with an inverted half-cycle in the
-- first copy's start it is never given
pub record InvertedStarts : Type 0 where
  pub beyond : (m : Message) → message_ok m ≡ true → (z i y : ℕ) → 3 ≤ z → 4 ≤ i → i < length (burst_of m) → told_of m z i y ≡ m ∷ []
  pub lost : (m : Message) → message_ok m ≡ true → (z i y : ℕ) → 3 ≤ z → i < 4 → told_of m z i y ≡ []
