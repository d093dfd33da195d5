-- A burst is heard whole, whatever its message (01, 'The receiver'): "A complete frame gives MESSAGE", and a second one "equal to the one just
-- given .. gives REPEAT and hunting follows". What 01 runs as an example holds of every message: "two clear half-cycles before a burst, nothing
-- heard, three, heard".
use Rattle.std.specs.Prelude.{ℕ, ◌-◌, ◌%◌, ◌≤◌, ◌≡◌, true, List, [], ◌∷◌, ◌++◌, length, replicate}
use Rattle.message.specs.Messages.{message_ok}
use Rattle.message.specs.declared.Message.{Message}
use Rattle.burst.specs.Frames.{frame_length, burst_of}
use Rattle.receiver.specs.Receivers.{fresh_receiver, is_hunting, receiver_ok, shifted, hunting}
use Rattle.receiver.specs.Hearing.{events_of, receiver_after}
use Rattle.receiver.specs.declared.Receiver.{Receiver}
use Rattle.receiver.specs.declared.Event.{Event}
use Rattle.receiver.specs.declared.Event.TheVariants.{Nothing, Message as Gives, Repeat}

-- so many clear half-cycles
abbrev pub clear : ℕ → List ℕ
clear z = replicate z 0

-- a valid hunting receiver, with a start waited for or none, whose last three half-cycles were 0, whatever stands in its other fields; `past` has the
-- latest lowest
pub record Ready (r : Receiver) : Type 0 where
  pub valid : receiver_ok r ≡ true
  pub hunts : is_hunting r.at ≡ true
  pub cleared : r.past % 8 ≡ 0

-- what is said of a frame: nothing before its last half-cycle, and there the event e
unfoldable pub frame_events : Message → Event → List Event
frame_events m e = replicate (frame_length m - 1) Nothing ++ e ∷ []

-- what is said of a burst: nothing but MESSAGE with its message at the frame's end, and REPEAT at the burst's end
unfoldable pub burst_events : Message → List Event
burst_events m = frame_events m (Gives m) ++ frame_events m Repeat

-- the last six half-cycles, once those of a list have come
unfoldable pub last_six : ℕ → List ℕ → ℕ
last_six past [] = past
last_six past (h ∷ hs) = last_six (shifted past h) hs

-- A receiver hears z clear half-cycles, of which it says nothing, and then the burst of m.
pub record Hears (r : Receiver) (z : ℕ) (m : Message) : Type 0 where
  pub events : events_of r (clear z ++ burst_of m) ≡ replicate z Nothing ++ burst_events m
  -- and then it hunts
  pub after : receiver_after r (clear z ++ burst_of m) ≡ hunting (last_six r.past (clear z ++ burst_of m))

pub record HeardWhole (m : Message) : Type 0 where
  -- by a fresh receiver after three clear half-cycles or more
  pub fresh : (z : ℕ) → 3 ≤ z → Hears fresh_receiver z m
  -- by one whose last three half-cycles were 0, with no further clear ones or with any number
  pub ready : (r : Receiver) (z : ℕ) → Ready r → Hears r z m
  -- of fewer than three and the burst, a fresh receiver says nothing at all
  pub fewer : (z : ℕ) → z ≤ 2 → events_of fresh_receiver (clear z ++ burst_of m) ≡ replicate (length (clear z ++ burst_of m)) Nothing

-- the theorem: proofs/Whole.antt
abbrev pub EveryBurstIsHeard : Type 0
EveryBurstIsHeard = (m : Message) → message_ok m ≡ true → HeardWhole m
