-- Laws of frames and bursts.
--
--     bits_length, pairs_length                                 how long each list is
--     frame_length_lem, burst_length_lem                                FrameLengths, BurstLengths
--     bits_below, pairs_below, frame_halves, burst_halves       every entry is 0 or 1
--     bits_split, value_of_bits                                 the bits of a number in two parts; the number read back
--     frames_one_to_one, no_frame_begins_another                FramesOneToOne, NoFrameBeginsAnother
use mathlib.Core.Path.{◌≡◌, refl, sym, ap, ap₂, subst, ◌∙◌}
use mathlib.Core.Bool.{true}
use mathlib.Core.List.{List, [], ◌∷◌, ◌++◌, append-nil}
use Prim.Native.Nat.{ℕ, zero, suc, ◌+◌, ◌-◌, ◌*◌, ◌/◌, ◌%◌, ◌^◌, ◌≤◌, ◌<◌}
use native.Mathlib.Nat.{suc-add, zero-add, add_comm, mod-eq_of_lt, mod-lt, mod-one, suc-ne-zero}
use native.Mathlib.Numerals.{one-add}
use native.Mathlib.Decide.{dec_lt}
use native.Mathlib.Omega.{arith}
use lib.Dec.{lit<, lit≤}
use lib.Pow.{shr-shr, mod-pow-add}
use lib.ListN.{length, get_or, take, drop, length-append, get_or-append}
use lib.Seq.{take_at, get_or-append-add}
use Rattle.message.specs.Codes.{code_of}
use Rattle.message.specs.Messages.{message_ok}
use Rattle.message.specs.Words.{word_of, bit_count, nine, standard_of}
use Rattle.message.specs.declared.Message.{Message}
use Rattle.message.specs.declared.Message.TheVariants.{Address, Function as Command, Extended}
use Rattle.message.specs.declared.word.Reading.TheVariants.{Message as Says, Longer as More}
use Rattle.message.proofs.CodeLaws.{code_below}
use Rattle.message.proofs.WordLaws.{word_below, words_one_to_one, head_of_extended, standard_of-head, standard_of-address, standard_of-function}
use Rattle.message.specs.declared.word.Word.{Word}
use Rattle.burst.specs.Frames.{bits_of, pairs_of, frame_of, frame_length, burst_of, FrameLengths, BurstLengths, BurstHalves, FramesOneToOne}
use Rattle.burst.specs.Frames.{NoFrameBeginsAnother}

-- ---- lengths

pub bits_length : (k w : ℕ) → length (bits_of k w) ≡ k
unfolding bits_of
bits_length zero w = refl
bits_length (suc k) w = ap suc (bits_length k w)

pub pairs_length : (bs : List ℕ) → length (pairs_of bs) ≡ 2 * length bs
unfolding pairs_of
pairs_length [] = refl
pairs_length (b ∷ bs) = let e = pairs_length bs in omega arith

pub frame_length_lem : FrameLengths
unfolding frame_of
frame_length_lem (Address h u) = omega (arith, pairs_length (bits_of 9 (word_of (Address h u))), bits_length 9 (word_of (Address h u)))
frame_length_lem (Command h f) = omega (arith, pairs_length (bits_of 9 (word_of (Command h f))), bits_length 9 (word_of (Command h f)))
frame_length_lem (Extended h u d c) =
    omega (arith, pairs_length (bits_of 29 (word_of (Extended h u d c))), bits_length 29 (word_of (Extended h u d c)))

pub burst_length_lem : BurstLengths
unfolding burst_of
burst_length_lem m = length-append (frame_of m) (frame_of m) ∙ ap₂ (λ (a b : ℕ). a + b) (frame_length_lem m) (frame_length_lem m)

-- ---- every half-cycle is 0 or 1

pub bits_below : (k w i : ℕ) → get_or (bits_of k w) i 0 < 2
unfolding bits_of
bits_below zero w i = lit< tt
bits_below (suc k) w zero = mod-lt (w / 2 ^ k) (lit< tt)
bits_below (suc k) w (suc i) = bits_below k w i

pub pairs_below : (bs : List ℕ) → ((i : ℕ) → get_or bs i 0 < 2) → (i : ℕ) → get_or (pairs_of bs) i 0 < 2
unfolding pairs_of
pairs_below [] h i = lit< tt
pairs_below (b ∷ bs) h zero = h zero
pairs_below (b ∷ bs) h (suc zero) = omega arith
pairs_below (b ∷ bs) h (suc (suc i)) = pairs_below bs (λ j. h (suc j)) i

pub frame_halves : (m : Message) (i : ℕ) → get_or (frame_of m) i 0 < 2
unfolding frame_of
frame_halves m zero = lit< tt
frame_halves m (suc zero) = lit< tt
frame_halves m (suc (suc zero)) = lit< tt
frame_halves m (suc (suc (suc zero))) = lit< tt
frame_halves m (suc (suc (suc (suc i)))) = pairs_below (bits_of (bit_count m) (word_of m)) (bits_below (bit_count m) (word_of m)) i

pub burst_halves : BurstHalves
unfolding burst_of
burst_halves m i = go (dec_lt i (length (frame_of m)))
  where
    go : Dec (i < length (frame_of m)) → get_or (frame_of m ++ frame_of m) i 0 < 2
    go (yes h) = rw (get_or-append (frame_of m) (frame_of m) 0 i h) (frame_halves m i)
    go (no h) =
        let j : ℕ = i - length (frame_of m) in
        let e : i ≡ length (frame_of m) + j = omega arith in
        subst (λ (k : ℕ). get_or (frame_of m ++ frame_of m) k 0 < 2) (sym e)
        (rw (get_or-append-add (frame_of m) (frame_of m) j 0) (frame_halves m j))

-- ---- the bits of a number, read back

-- the bits of a number in two parts
pub bits_split : (j k w : ℕ) → bits_of (j + k) w ≡ bits_of j (w / 2 ^ k) ++ bits_of k w
unfolding bits_of
bits_split zero k w = ap (λ (n : ℕ). bits_of n w) (zero-add k)
bits_split (suc j) k w =
    ap (λ (n : ℕ). bits_of n w) (suc-add j k)
    ∙ ap₂ (λ (x : ℕ) (l : List ℕ). x % 2 ∷ l) (ap (λ (n : ℕ). w / 2 ^ n) (add_comm j k) ∙ sym (shr-shr w k j)) (bits_split j k w)

-- the number that bits make, highest first
abbrev value_of : List ℕ → ℕ
value_of [] = 0
value_of (b ∷ bs) = b * 2 ^ length bs + value_of bs

pub value_of_bits : (k w : ℕ) → value_of (bits_of k w) ≡ w % 2 ^ k
unfolding bits_of
value_of_bits zero w = sym (mod-one w)
value_of_bits (suc k) w =
    ap₂ (λ (n v : ℕ). w / 2 ^ k % 2 * 2 ^ n + v) (bits_length k w) (value_of_bits k w)
    ∙ sym (mod-pow-add w 1 k)
    ∙ ap (λ (n : ℕ). w % 2 ^ n) (one-add k)

-- the first half-cycle of each pair
abbrev firsts : List ℕ → List ℕ
firsts [] = []
firsts (a ∷ []) = []
firsts (a ∷ b ∷ r) = a ∷ firsts r

firsts_of_pairs : (bs rest : List ℕ) → firsts (pairs_of bs ++ rest) ≡ bs ++ firsts rest
unfolding pairs_of
firsts_of_pairs [] rest = refl
firsts_of_pairs (b ∷ bs) rest = ap (λ (l : List ℕ). b ∷ l) (firsts_of_pairs bs rest)

-- a frame gives its bits back, with whatever follows it
bits_of-frame : (m : Message) (rest : List ℕ) → firsts (drop 4 (frame_of m ++ rest)) ≡ bits_of (bit_count m) (word_of m) ++ firsts rest
unfolding frame_of
bits_of-frame m rest = firsts_of_pairs (bits_of (bit_count m) (word_of m)) rest

-- ---- frames tell messages apart

-- equal bits, from equal frames
same_bits : (m n : Message) → frame_of m ≡ frame_of n → bits_of (bit_count m) (word_of m) ≡ bits_of (bit_count n) (word_of n)
same_bits m n e =
    sym (append-nil (bits_of (bit_count m) (word_of m)))
    ∙ sym (bits_of-frame m [])
    ∙ ap (λ (l : List ℕ). firsts (drop 4 (l ++ []))) e
    ∙ bits_of-frame n []
    ∙ append-nil (bits_of (bit_count n) (word_of n))

-- the word of a message, from its bits
word_of-bits : (m : Message) → message_ok m ≡ true → value_of (bits_of (bit_count m) (word_of m)) ≡ word_of m
word_of-bits m t = value_of_bits (bit_count m) (word_of m) ∙ mod-eq_of_lt (word_below m t)

pub frames_one_to_one : FramesOneToOne
frames_one_to_one m n tm tn e =
    let eb = same_bits m n e in
    let counts = sym (bits_length (bit_count m) (word_of m)) ∙ ap length eb ∙ bits_length (bit_count n) (word_of n) in
    let words = sym (word_of-bits m tm) ∙ ap value_of eb ∙ word_of-bits n tn in
    words_one_to_one m n tm tn (ap₂ {C = Word} (λ (b k : ℕ). record { bits = b; count = k }) words counts)

-- a standard frame's nine bits are not those that begin an extended frame, which say another thing
module _ (m : Message) (ok : message_ok m ≡ true) (count : bit_count m ≡ 9) (read : standard_of (word_of m) ≡ Says m) where
  begins_no_extended : (h u d c : ℕ) (rest : List ℕ) → message_ok (Extended h u d c) ≡ true → frame_of (Extended h u d c) ≡ frame_of m ++ rest → ⊥
  begins_no_extended h u d c rest t e =
      let w : ℕ = word_of (Extended h u d c) in
      let bits : bits_of 9 (w / 2 ^ 20) ++ bits_of 20 w ≡ bits_of (bit_count m) (word_of m) ++ firsts rest =
      sym (bits_split 9 20 w)
      ∙ sym (append-nil (bits_of 29 w))
      ∙ sym (bits_of-frame (Extended h u d c) [])
      ∙ ap (λ (l : List ℕ). firsts (drop 4 l)) (append-nil (frame_of (Extended h u d c)) ∙ e)
      ∙ bits_of-frame m rest in
      let first : bits_of 9 (w / 2 ^ 20) ≡ bits_of (bit_count m) (word_of m) =
      sym (take_at (bits_of 9 (w / 2 ^ 20)) (bits_of 20 w) 9 (bits_length 9 (w / 2 ^ 20)))
      ∙ ap (take 9) bits
      ∙ take_at (bits_of (bit_count m) (word_of m)) (firsts rest) 9 (bits_length (bit_count m) (word_of m) ∙ count) in
      let head : w / 2 ^ 20 ≡ nine (code_of h) 7 1 = head_of_extended h u d c t in
      let small : nine (code_of h) 7 1 < 2 ^ 9 = omega (arith, code_below h) in
      let same : nine (code_of h) 7 1 ≡ word_of m =
      sym (mod-eq_of_lt small)
      ∙ ap (λ (n : ℕ). n % 2 ^ 9) (sym head)
      ∙ sym (value_of_bits 9 (w / 2 ^ 20))
      ∙ ap value_of first
      ∙ word_of-bits m ok in
      let says : More ≡ Says m = sym (standard_of-head h) ∙ ap standard_of same ∙ read in
      let z : ◌≡◌ {A = ℕ} 0 1 = cc in
      omega arith

-- where the frame that begins is at least as long, nothing is left
nothing_left : (m n : Message) (rest : List ℕ) → frame_length n ≤ frame_length m → frame_of n ≡ frame_of m ++ rest → rest ≡ []
nothing_left m n rest hl e = empty rest (omega (arith, frame_length_lem m, frame_length_lem n, ap length e ∙ length-append (frame_of m) rest))
  where
    empty : (l : List ℕ) → length l ≡ 0 → l ≡ []
    empty [] h = refl
    empty (x ∷ xs) h = absurd (suc-ne-zero (length xs) h)

pub no_frame_begins_another : NoFrameBeginsAnother
no_frame_begins_another (Address h u) (Extended h' u' d c) rest tm tn e =
    absurd (begins_no_extended (Address h u) tm refl (standard_of-address h u tm) h' u' d c rest tn e)
no_frame_begins_another (Command h f) (Extended h' u' d c) rest tm tn e =
    absurd (begins_no_extended (Command h f) tm refl (standard_of-function h f tm) h' u' d c rest tn e)
no_frame_begins_another (Address h u) (Address h' u') rest tm tn e = nothing_left (Address h u) (Address h' u') rest (lit≤ tt) e
no_frame_begins_another (Address h u) (Command h' f') rest tm tn e = nothing_left (Address h u) (Command h' f') rest (lit≤ tt) e
no_frame_begins_another (Command h f) (Address h' u') rest tm tn e = nothing_left (Command h f) (Address h' u') rest (lit≤ tt) e
no_frame_begins_another (Command h f) (Command h' f') rest tm tn e = nothing_left (Command h f) (Command h' f') rest (lit≤ tt) e
no_frame_begins_another (Extended h u d c) (Address h' u') rest tm tn e =
    nothing_left (Extended h u d c) (Address h' u') rest (lit≤ tt) e
no_frame_begins_another (Extended h u d c) (Command h' f') rest tm tn e =
    nothing_left (Extended h u d c) (Command h' f') rest (lit≤ tt) e
no_frame_begins_another (Extended h u d c) (Extended h' u' d' c') rest tm tn e =
    nothing_left (Extended h u d c) (Extended h' u' d' c') rest (lit≤ tt) e
