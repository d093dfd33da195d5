-- Frames and bursts (01, 'Frames and bursts'; XTC798's text, not the end mark of its diagram).
use Rattle.std.specs.Prelude.{ℕ, zero, suc, ◌+◌, ◌-◌, ◌/◌, ◌%◌, ◌^◌, ◌<◌, ◌≡◌, true, List, [], ◌∷◌, ◌++◌, length, get_or}
use Rattle.message.specs.declared.Message.{Message}
use Rattle.message.specs.declared.Message.TheVariants.{Address, Function as Command, Extended}
use Rattle.message.specs.Messages.{message_ok}
use Rattle.message.specs.Words.{word_of, bit_count}

-- the k lowest bits of a number, "highest first"
unfoldable pub bits_of : ℕ → ℕ → List ℕ
bits_of zero w = []
bits_of (suc k) w = w / 2 ^ k % 2 ∷ bits_of k w

-- "bits in pairs, each bit followed by its complement"
unfoldable pub pairs_of : List ℕ → List ℕ
pairs_of [] = []
pairs_of (b ∷ bs) = b ∷ (1 - b) ∷ pairs_of bs

-- "A frame is the start 1 1 1 0, then bits in pairs"
unfoldable pub frame_of : Message → List ℕ
frame_of m = 1 ∷ 1 ∷ 1 ∷ 0 ∷ pairs_of (bits_of (bit_count m) (word_of m))

-- "22 half-cycles", "62 half-cycles"
abbrev pub frame_length : Message → ℕ
frame_length (Address h u) = 22
frame_length (Command h f) = 22
frame_length (Extended h u d c) = 62

-- "A burst is the frame twice with no gap: 44 or 124."
unfoldable pub burst_of : Message → List ℕ
burst_of m = frame_of m ++ frame_of m

abbrev pub burst_length : Message → ℕ
burst_length m = frame_length m + frame_length m

-- ---- what holds of every message: proofs/FrameLaws.antt

-- frames and bursts have these lengths
abbrev pub FrameLengths : Type 0
FrameLengths = (m : Message) → length (frame_of m) ≡ frame_length m

abbrev pub BurstLengths : Type 0
BurstLengths = (m : Message) → length (burst_of m) ≡ burst_length m

-- "A half-cycle carries 1 or 0."
abbrev pub BurstHalves : Type 0
BurstHalves = (m : Message) (i : ℕ) → get_or (burst_of m) i 0 < 2

-- frames tell messages apart: two valid messages with equal frames are equal
abbrev pub FramesOneToOne : Type 0
FramesOneToOne = (m n : Message) → message_ok m ≡ true → message_ok n ≡ true → frame_of m ≡ frame_of n → m ≡ n

-- no frame is a proper beginning of another
abbrev pub NoFrameBeginsAnother : Type 0
NoFrameBeginsAnother =
    (m n : Message) (rest : List ℕ) → message_ok m ≡ true → message_ok n ≡ true → frame_of n ≡ frame_of m ++ rest → rest ≡ []
