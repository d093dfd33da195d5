-- The half-cycle at a place of a burst, said without the burst: the start's, or a bit of the message's word, or its complement.
--
--     bit_at        the bit at a place among the bits of a number
--     pair_at       the half-cycle at a place among the pairs
--     start_one, start_zero, frame_pair     the half-cycle at a place of a frame
--     burst_first, burst_second     the half-cycle at a place of either copy is the frame's
use mathlib.Core.Path.{◌≡◌, refl, ap, ◌∙◌}
use mathlib.Core.List.{List, [], ◌∷◌, ◌++◌}
use Prim.Native.Nat.{ℕ, zero, suc, ◌+◌, ◌-◌, ◌/◌, ◌%◌, ◌^◌, ◌≤◌, ◌<◌}
use native.Mathlib.Nat.{not-suc-le-zero, le_of_suc-le-suc}
use native.Mathlib.Omega.{arith}
use lib.Dec.{eqb}
use lib.ListN.{length, get_or, get_or-append}
use lib.Seq.{get_or-append-add}
use Rattle.ground.specs.Choice.{pick}
use Rattle.message.specs.declared.Message.{Message}
use Rattle.burst.specs.Frames.{bits_of, pairs_of, frame_of, frame_length, burst_of}
use Rattle.burst.proofs.FrameLaws.{bits_length, frame_length_lem}

-- ---- the half-cycle at a place

pub bit_at : (k w i : ℕ) → i < k → get_or (bits_of k w) i 0 ≡ w / 2 ^ (k - 1 - i) % 2
unfolding bits_of
bit_at zero w i h = absurd (not-suc-le-zero h)
bit_at (suc k) w zero h = let e : suc k - 1 - 0 ≡ k = omega arith in rw e
bit_at (suc k) w (suc i) h =
    let e : suc k - 1 - suc i ≡ k - 1 - i = omega arith in
    rw e (bit_at k w i (le_of_suc-le-suc h))

-- the half-cycle at q of the pairs: the bit of its pair where it is the pair's first, else the bit's complement
pub pair_at : (bs : List ℕ) (q : ℕ) → q < length bs + length bs → get_or (pairs_of bs) q 0 ≡ pick (eqb (q % 2) 0) (get_or bs (q / 2) 0) (1 - get_or bs (q / 2) 0)
unfolding pairs_of
pair_at [] q h = absurd (omega arith)
pair_at (b ∷ bs) zero h = refl
pair_at (b ∷ bs) (suc zero) h = refl
pair_at (b ∷ bs) (suc (suc q)) h =
    let r : suc (suc q) % 2 ≡ q % 2 = omega arith in
    let d : suc (suc q) / 2 ≡ suc (q / 2) = omega arith in
    rw (r, d) (pair_at bs q (omega arith))

-- the start's ones, its 0, and the pairs after it
pub start_one : (hs : List ℕ) (p : ℕ) → p < 3 → get_or (1 ∷ 1 ∷ 1 ∷ hs) p 0 ≡ 1
start_one hs zero h = refl
start_one hs (suc zero) h = refl
start_one hs (suc (suc zero)) h = refl
start_one hs (suc (suc (suc p))) h = absurd (omega arith)

pub start_zero : (hs : List ℕ) (p : ℕ) → 3 ≤ p → p < 4 → get_or (1 ∷ 1 ∷ 1 ∷ 0 ∷ hs) p 0 ≡ 0
start_zero hs p h k = let e : p ≡ 3 = omega arith in rw e

pub frame_pair : (k w p : ℕ) → 4 ≤ p → p < 4 + (k + k)
    → get_or (1 ∷ 1 ∷ 1 ∷ 0 ∷ pairs_of (bits_of k w)) p 0
    ≡ pick (eqb ((p - 4) % 2) 0) (w / 2 ^ (k - 1 - (p - 4) / 2) % 2) (1 - w / 2 ^ (k - 1 - (p - 4) / 2) % 2)
frame_pair k w p h l =
    let bits = bits_of k w in
    let past : p ≡ 4 + (p - 4) = omega arith in
    let within : p - 4 < length bits + length bits = rw (bits_length k w) (omega arith) in
    ap (λ (n : ℕ). get_or (1 ∷ 1 ∷ 1 ∷ 0 ∷ pairs_of bits) n 0) past
    ∙ get_or-append-add (1 ∷ 1 ∷ 1 ∷ 0 ∷ []) (pairs_of bits) (p - 4) 0
    ∙ pair_at bits (p - 4) within
    ∙ ap (λ (b : ℕ). pick (eqb ((p - 4) % 2) 0) b (1 - b)) (bit_at k w ((p - 4) / 2) (omega arith))

pub burst_first : (m : Message) (p : ℕ) → p < frame_length m → get_or (burst_of m) p 0 ≡ get_or (frame_of m) p 0
unfolding burst_of
burst_first m p h = get_or-append (frame_of m) (frame_of m) 0 p (rw frame_length_lem h)

pub burst_second : (m : Message) (p : ℕ) → frame_length m ≤ p → get_or (burst_of m) p 0 ≡ get_or (frame_of m) (p - frame_length m) 0
unfolding burst_of
burst_second m p h =
    let e : p ≡ length (frame_of m) + (p - frame_length m) = omega (arith, frame_length_lem m) in
    ap (λ (n : ℕ). get_or (frame_of m ++ frame_of m) n 0) e ∙ get_or-append-add (frame_of m) (frame_of m) (p - frame_length m) 0
