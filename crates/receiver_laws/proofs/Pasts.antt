-- The last six half-cycles, as one number, after pairs and frames.
--
--     start, paired, equal                          a frame's start; the number after a pair, different or equal
--     six_append                                    after two lists
--     two_more, three_more, four_more               after as many half-cycles
--     Bits, bits_of_lem                                 a list of 0 and 1; the bits of a word are one
--     Clean, clean_pair, clean_pairs, clean_start, clean_frame, clean_burst     after a pair that followed a pair or a start
use Prim.Native.Nat.{ℕ, zero, suc, ◌+◌, ◌-◌, ◌*◌, ◌%◌, ◌≤◌}
use mathlib.Core.Logic.{◌≢◌}
use mathlib.Core.Path.{◌≡◌, refl}
use mathlib.Core.List.{List, [], ◌∷◌, ◌++◌}
use native.Mathlib.Omega.{arith}
use Rattle.message.specs.Words.{word_of, bit_count}
use Rattle.message.specs.declared.Message.{Message}
use Rattle.burst.specs.Frames.{bits_of, pairs_of, frame_of, burst_of}
use Rattle.receiver.specs.Receivers.{shifted}
use Rattle.receiver_laws.specs.Whole.{last_six}

abbrev pub start : List ℕ
start = 1 ∷ 1 ∷ 1 ∷ 0 ∷ []

-- after a bit and its complement
abbrev pub paired : ℕ → ℕ → ℕ
paired p b = shifted (shifted p b) (1 - b)

pub six_append : (p : ℕ) (hs ks : List ℕ) → last_six p (hs ++ ks) ≡ last_six (last_six p hs) ks
unfolding last_six
six_append p [] ks = refl
six_append p (h ∷ hs) ks = six_append (shifted p h) hs ks

-- ---- as many half-cycles more, in front of them what is kept of p

pub two_more : (p b c : ℕ) → b ≤ 1 → shifted (shifted p b) c ≡ p % 16 * 4 + (b * 2 + c)
two_more p b c h =
    let kept : (p % 32 * 2 + b) % 32 ≡ p % 16 * 2 + b = omega arith in
    rw kept (omega arith)

pub two_kept : (p d : ℕ) → d ≤ 3 → (p % 16 * 4 + d) % 32 ≡ p % 8 * 4 + d
two_kept p d h = omega arith

pub three_more : (p b c d : ℕ) → (b ≤ 1) × (c ≤ 1) → shifted (shifted (shifted p b) c) d ≡ p % 8 * 8 + (b * 4 + c * 2 + d)
three_more p b c d h = rw (two_more p b c h.0, two_kept p (b * 2 + c) (omega arith)) (omega arith)

pub four_more : (p b c d e : ℕ) → (b ≤ 1) × (c ≤ 1) × (d ≤ 1) → shifted (shifted (shifted (shifted p b) c) d) e ≡ p % 4 * 16 + (b * 8 + c * 4 + d * 2 + e)
four_more p b c d e h =
    let kept : (p % 8 * 8 + (b * 4 + c * 2 + d)) % 32 ≡ p % 4 * 8 + (b * 4 + c * 2 + d) = omega arith in
    rw (three_more p b c d (h.0, h.1), kept) (omega arith)

-- ---- bits

abbrev pub Bits : List ℕ → Type 0
Bits [] = Unit {0}
Bits (b ∷ bs) = (b ≤ 1) × Bits bs

pub bits_of_lem : (k w : ℕ) → Bits (bits_of k w)
unfolding bits_of
bits_of_lem zero w = tt
bits_of_lem (suc k) w = (omega arith, bits_of_lem k w)

-- ---- frames

-- the last two half-cycles differ, and the last four are not 0 0 0 1
pub record Clean (p : ℕ) : Type 0 where
  pub six : p ≤ 63
  pub low : 1 ≤ p % 4
  pub high : p % 4 ≤ 2
  pub apart : p % 16 ≢ 1

pub clean_pair : (p b : ℕ) → b ≤ 1 → Clean p → Clean (paired p b)
clean_pair p b h c =
    let d = b * 2 + (1 - b) in
    let two : (p % 16 * 4 + d) % 4 ≡ d = omega arith in
    let four : (p % 16 * 4 + d) % 16 ≡ p % 4 * 4 + d = omega arith in
    rw (two_more p b (1 - b) h) (omega arith)

pub clean_pairs : (bs : List ℕ) (p : ℕ) → Bits bs → Clean p → Clean (last_six p (pairs_of bs))
unfolding last_six pairs_of
clean_pairs [] p hb c = c
clean_pairs (b ∷ bs) p hb c = clean_pairs bs (paired p b) hb.1 (clean_pair p b hb.0 c)

pub clean_start : (p : ℕ) → Clean (last_six p start)
unfolding last_six
clean_start p = rw (four_more p 1 1 1 0 (omega arith)) (omega arith)

pub clean_frame : (m : Message) (p : ℕ) → Clean (last_six p (frame_of m))
unfolding last_six frame_of
clean_frame m p = clean_pairs (bits_of (bit_count m) (word_of m)) (last_six p start) (bits_of_lem (bit_count m) (word_of m)) (clean_start p)

pub clean_burst : (m : Message) (p : ℕ) → Clean (last_six p (burst_of m))
unfolding burst_of
clean_burst m p = rw (six_append p (frame_of m) (frame_of m)) (clean_frame m (last_six p (frame_of m)))
