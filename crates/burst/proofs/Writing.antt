-- Laws of the burst's array: what a turn of the loop does, and what the array then holds.
--
--     pair_put                           one turn of `put_pairs`
--     frame_placed, burst_placed         the first frame, and both, in the array
--     burst_taken                        the burst taken from the array
--     frame_at_most                      the longest frame
--     frame_of-bits                      a frame's length from its bits
--     count_at_most, few_bits            a count of bits is 9 or 29
--     has_bits, no_bits                  what the answer of `word_of` tells
--     length-of_word, burst_copied       the writer's count and its buffer
--     burst_lowest                       BurstLowest
use Rattle.std.specs.Prelude.{Result, Ok, Err}
use mathlib.Core.Path.{◌≡◌, refl, sym, ap, ap₂, subst, ◌∙◌}
use mathlib.Core.Bool.{Bool, true, false, true≢false, false≢true}
use mathlib.Core.List.{List, ◌∷◌, ◌++◌}
use Prim.Native.Nat.{ℕ, zero, suc, ◌+◌, ◌-◌, ◌/◌, ◌%◌, ◌^◌, ◌≤◌, ◌<◌}
use native.Mathlib.Nat.{not-suc-le-zero}
use native.Mathlib.Numerals.{add-one, add-two, sub-one}
use native.Mathlib.Omega.{arith}
use lib.Dec.{lit≤}
use lib.ListN.{length, set, take, drop, replicate}
use lib.Seq.{sets, sets-eq, paste, take_at, drop-append-add}
use Rattle.ground.specs.Choice.{pick}
use Rattle.ground.specs.Refusals.{judged}
use Rattle.ground.specs.declared.Refusal.{Refusal}
use Rattle.ground.specs.declared.Refusal.TheVariants as refusal
use Rattle.ground.proofs.Causes.{lowest_given}
use Rattle.message.specs.Messages.{message_ok}
use Rattle.message.specs.Words.{word_of, word_in, word_answer, bit_count}
use Rattle.message.specs.declared.Message.{Message}
use Rattle.message.specs.declared.Message.TheVariants.{Address, Function as Command, Extended}
use Rattle.message.specs.declared.word.Word.{Word}
use Rattle.burst.specs.Frames.{bits_of, pairs_of, frame_of, frame_length, burst_of, burst_length}
use Rattle.burst.specs.Writer.{burst_causes, written, frame_bits, BurstLowest}
use Rattle.burst.proofs.FrameLaws.{frame_length_lem, burst_length_lem}

-- the next bit and its complement are put, and the rest is still to come
pub pair_put : (out : List ℕ) (next left word : ℕ) → 0 < left
    → sets (set (set out next (word / 2 ^ (left - 1) % 2)) (next + 1) (1 - word / 2 ^ (left - 1) % 2)) (next + 2) (pairs_of (bits_of (left - 1) word))
    ≡ sets out next (pairs_of (bits_of left word))
unfolding bits_of pairs_of
pair_put out next zero word h = absurd (not-suc-le-zero h)
pair_put out next (suc l) word h = simp (sub-one, add-one, add-two)

-- the array before the pairs are put: the start, then 0
abbrev pub started : List ℕ
started = 1 ∷ 1 ∷ 1 ∷ replicate 121 0

module _ (m : Message) where
  vs : List ℕ
  vs = pairs_of (bits_of (bit_count m) (word_of m))

  -- the start and the pairs are as long as the frame
  through : 4 + length vs ≡ frame_length m
  unfolding vs frame_of
  through = sym (four_more vs) ∙ frame_length_lem m
    where
      four_more : (l : List ℕ) → length (1 ∷ 1 ∷ 1 ∷ 0 ∷ l) ≡ 4 + length l
      four_more l = omega arith

-- what lies beyond the frame, and beyond both frames, in an array of 124
beyond_one : (m : Message) → drop (frame_length m) started ≡ replicate (124 - frame_length m) 0
beyond_one (Address h u) = refl
beyond_one (Command h f) = refl
beyond_one (Extended h u d c) = refl

beyond_two : (m : Message) → drop {A = ℕ} (frame_length m) (replicate (124 - frame_length m) 0) ≡ replicate (124 - burst_length m) 0
beyond_two (Address h u) = refl
beyond_two (Command h f) = refl
beyond_two (Extended h u d c) = refl

fits : (m : Message) → frame_length m ≤ length started
fits (Address h u) = lit≤ tt
fits (Command h f) = lit≤ tt
fits (Extended h u d c) = lit≤ tt

pub frame_placed : (m : Message) → sets started 4 (pairs_of (bits_of (bit_count m) (word_of m))) ≡ frame_of m ++ replicate (124 - frame_length m) 0
unfolding vs frame_of
frame_placed m =
    sets-eq (vs m) started 4 (subst (λ (k : ℕ). k ≤ length started) (sym (through m)) (fits m))
    ∙ ap (λ (k : ℕ). (1 ∷ 1 ∷ 1 ∷ 0 ∷ vs m) ++ drop k started) (through m)
    ∙ ap (λ (l : List ℕ). (1 ∷ 1 ∷ 1 ∷ 0 ∷ vs m) ++ l) (beyond_one m)

pub burst_placed : (m : Message) (a : List ℕ) → a ≡ frame_of m ++ replicate (124 - frame_length m) 0
    → paste a (frame_length m) a (frame_length m) ≡ burst_of m ++ replicate (124 - burst_length m) 0
unfolding burst_of
burst_placed m a e =
    let f : ℕ = frame_length m in
    let zeros : List ℕ = replicate (124 - f) 0 in
    let front : take f a ≡ frame_of m = ap (take f) e ∙ take_at (frame_of m) zeros f (frame_length_lem m) in
    let rest : drop (f + f) a ≡ replicate (124 - burst_length m) 0 =
    ap₂ (λ (k : ℕ) (l : List ℕ). drop (k + f) l) (sym (frame_length_lem m)) e
    ∙ drop-append-add (frame_of m) zeros f
    ∙ beyond_two m in
    ap₂ (λ (x y : List ℕ). x ++ x ++ y) front rest

pub burst_taken : (m : Message) (a : List ℕ) → a ≡ burst_of m ++ replicate (124 - burst_length m) 0 → take (burst_length m) a ≡ burst_of m
burst_taken m a e = ap (take (burst_length m)) e ∙ take_at (burst_of m) (replicate (124 - burst_length m) 0) (burst_length m) (burst_length_lem m)

pub frame_at_most : (m : Message) → frame_length m ≤ 62
frame_at_most (Address h u) = lit≤ tt
frame_at_most (Command h f) = lit≤ tt
frame_at_most (Extended h u d c) = lit≤ tt

-- the start, and a pair for each bit
pub frame_of-bits : (m : Message) → frame_length m ≡ 4 + (bit_count m + bit_count m)
frame_of-bits (Address h u) = refl
frame_of-bits (Command h f) = refl
frame_of-bits (Extended h u d c) = refl

-- ---- what the writer answers

abbrev is_bits : Result Word Refusal → Bool
is_bits (Ok w) = true
is_bits (Err why) = false

-- the bits of a message, as its answer tells
pub has_bits : (m : Message) (w : Word) → word_answer m ≡ Ok w → (message_ok m ≡ true) × (w ≡ word_in m)
unfolding word_answer judged
has_bits m w e = go (message_ok m) e
  where
    go : (ok : Bool) → pick ok (Ok (word_in m)) (Err refusal.Message) ≡ Ok w → (ok ≡ true) × (w ≡ word_in m)
    go true p = (refl, cc)
    go false p = absurd (false≢true (ap is_bits p))

pub no_bits : (m : Message) (why : Refusal) → word_answer m ≡ Err why → (message_ok m ≡ false) × (why ≡ refusal.Message)
unfolding word_answer judged
no_bits m why e = go (message_ok m) e
  where
    go : (ok : Bool) → pick ok (Ok (word_in m)) (Err refusal.Message) ≡ Err why → (ok ≡ false) × (why ≡ refusal.Message)
    go true p = absurd (true≢false (ap is_bits p))
    go false p = (refl, cc)

pub count_at_most : (m : Message) → bit_count m ≤ 29
count_at_most (Address h u) = lit≤ tt
count_at_most (Command h f) = lit≤ tt
count_at_most (Extended h u d c) = lit≤ tt

nine_or_all : (m : Message) → frame_bits (bit_count m) ≡ true
nine_or_all (Address h u) = refl
nine_or_all (Command h f) = refl
nine_or_all (Extended h u d c) = refl

pub few_bits : (m : Message) (w : Word) → w ≡ word_in m → (w.count ≤ 29) × (frame_bits w.count ≡ true)
few_bits m w e = (
  subst (λ (v : Word). v.count ≤ 29) (sym e) (count_at_most m),
  subst (λ (v : Word). frame_bits v.count ≡ true) (sym e) (nine_or_all m),
)

-- a frame's length, twice, is the burst's
pub length-of_word : (m : Message) (w : Word) (f : ℕ) → w ≡ word_in m → f ≡ 4 + (w.count + w.count) → f ≡ frame_length m
length-of_word m w f e l = l ∙ ap (λ (v : Word). 4 + (v.count + v.count)) e ∙ sym (frame_of-bits m)

-- the burst copied from the array is the burst written
pub burst_copied : (m : Message) (buf a after : List ℕ) (n : ℕ) → n ≡ burst_length m
    → a ≡ burst_of m ++ replicate (124 - burst_length m) 0 → after ≡ take n a ++ drop n buf → after ≡ written m buf
unfolding written
burst_copied m buf a after n en ea e = e ∙ rw en (ap (λ (l : List ℕ). l ++ drop (burst_length m) buf) (burst_taken m a ea))

pub burst_lowest : BurstLowest
burst_lowest m room = lowest_given (burst_causes m room) refl
