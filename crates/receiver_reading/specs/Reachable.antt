-- The states that a fresh receiver reaches (docs/receiver.md): by its fields, but while a start is waited for by the half-cycles that came. The theorem:
-- proofs/Reachable.antt.
use Rattle.std.specs.Prelude.{ℕ, suc, ◌+◌, ◌*◌, ◌^◌, ◌≤◌, ◌<◌, ◌≢◌, ◌↔◌, ◌≡◌, true, List, [], ◌∷◌, ◌++◌, length, take, Option, Some, None}
use Rattle.message.specs.Messages.{message_ok}
use Rattle.message.specs.declared.Message.{Message}
use Rattle.burst.specs.Frames.{frame_of}
use Rattle.receiver.specs.Receivers.{fresh_receiver, waiting, hunting}
use Rattle.receiver.specs.Hearing.{receiver_after}
use Rattle.receiver.specs.declared.Receiver.{Receiver}
use Rattle.receiver_reading.specs.Reading.{start_mark, pairs, Unfinished, Broke, idle, At}
use Rattle.receiver_reading.specs.Standing.{past_of, place_of}

-- what came when a frame began
pub data Beginning : Option Message → List ℕ → Type 0 where
  -- in the hunt: any two half-cycles and the start
  hunted : (a b : ℕ) → a ≤ 1 → b ≤ 1 → Beginning None (a ∷ b ∷ start_mark)
  -- awaited: the frame of m and the start
  awaited : (m : Message) → message_ok m ≡ true → Beginning (Some m) (frame_of m ++ start_mark)

pub data Reachable : Receiver → Type 0 where
  -- hunting, and no start is waited for: any last six half-cycles
  hunts : (p : ℕ) → p ≤ 63 → Reachable (hunting p)
  -- hunting after hs, in which a frame broke, while a start is waited for
  waits : {hs : List ℕ} {o : Broke} → At (idle o) hs → place_of o (length hs) ≢ 0 → Reachable (waiting (past_of hs) (place_of o (length hs)))
  -- the start is awaited after m's frame, k of its half-cycles having come
  awaits : (m : Message) (k : ℕ) → message_ok m ≡ true → k ≤ 3
      → Reachable (record { past = past_of (frame_of m ++ take k start_mark); at = suc k; bits = 0; given = Some m })
  -- the n bits of w were read in pairs, and more follow
  reads : {g : Option Message} {hs : List ℕ} (n w : ℕ) → Beginning g hs → w < 2 ^ n → Unfinished n w
      → Reachable (record { past = past_of (hs ++ pairs n w); at = 5 + 2 * n; bits = w; given = g })
  -- and a pair's first half-cycle
  halfway : {g : Option Message} {hs : List ℕ} (n w x : ℕ) → Beginning g hs → w < 2 ^ n → Unfinished n w → x ≤ 1
      → Reachable (record { past = past_of (hs ++ (pairs n w ++ x ∷ [])); at = 6 + 2 * n; bits = w; given = g })

-- these and no others
abbrev pub ReachableStates : Type 0
ReachableStates = (r : Receiver) → ((hs : List ℕ) × (receiver_after fresh_receiver hs ≡ r)) ↔ Reachable r
