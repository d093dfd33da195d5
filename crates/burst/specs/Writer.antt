-- The burst writer (01, 'Frames and bursts', 'Numbers given back').
use Rattle.std.specs.Prelude.{ℕ, ◌≡◌, List, [], ◌∷◌, ◌++◌, Bool, ◌||◌, eqb, leb, length, drop, Result, Ok, Err}
use Rattle.ground.specs.Refusals.{Cause, unless, judged, number_given, lowest}
use Rattle.ground.specs.declared.Refusal.TheVariants as refusal
use Rattle.message.specs.Messages.{message_ok}
use Rattle.message.specs.declared.Message.{Message}
use Rattle.burst.specs.Frames.{burst_of, burst_length}
use Rattle.ground.specs.declared.Refusal.{Refusal}

-- whether a frame carries so many bits
abbrev pub frame_bits : ℕ → Bool
frame_bits n = eqb n 9 || eqb n 29

-- "buffer below the 44 or 124 of this burst"
abbrev pub short_causes : Message → ℕ → List Cause
short_causes m room = unless (leb (burst_length m) room) refusal.Short ∷ []

-- "house or unit above 15", and that
abbrev pub burst_causes : Message → ℕ → List Cause
burst_causes m room = unless (message_ok m) refusal.Message ∷ short_causes m room

-- for a message and a buffer's length: the count is that of the half-cycles written
unfoldable pub burst_answer : Message → ℕ → Result ℕ Refusal
burst_answer m room = judged (burst_causes m room) (Ok (burst_length m)) Err

-- the burst at the buffer's front; "bytes beyond it stay"
unfoldable pub written : Message → List ℕ → List ℕ
written m buf = burst_of m ++ drop (burst_length m) buf

-- the buffer at exit
unfoldable pub buffer_after : Message → List ℕ → List ℕ
buffer_after m buf = judged (burst_causes m (length buf)) (written m buf) (λ why. buf)

-- "Within one routine the lowest number that applies is given.": proofs/Writing.antt
abbrev pub BurstLowest : Type 0
BurstLowest = (m : Message) (room : ℕ) → lowest (burst_causes m room) ≡ number_given (burst_causes m room)
