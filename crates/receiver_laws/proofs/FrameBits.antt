-- What the receiver's definitions say at each pair of a message's frame, in one record for the three kinds of message.
--
--     one_more_bit       the bits of a word, read one by one
--     Framed, framed     the record; every valid message has it
--     pairs_few          no more than nine pairs are never too many
use Rattle.std.specs.Prelude.{Option}
use Prim.Native.Nat.{ℕ, zero, suc, ◌+◌, ◌-◌, ◌*◌, ◌/◌, ◌%◌, ◌^◌, ◌≤◌, ◌<◌}
use mathlib.Core.Logic.{◌⊎◌, inl, inr}
use mathlib.Core.Path.{◌≡◌, refl, sym, ap, ◌∙◌}
use mathlib.Core.Bool.{true}
use native.Mathlib.Nat.{div-eq_of_lt}
use native.Mathlib.Numerals.{add-one}
use native.Mathlib.Decide.{dec_le, ℕ_discrete}
use native.Mathlib.Omega.{arith}
use borrow.Author.Tests.{le-leb, lt-leb, eq-eqb, ne_eqb}
use lib.Dec.{lit≤}
use lib.Pow.{shr-shr, shr_le}
use Rattle.message.specs.Codes.{code_of}
use Rattle.message.specs.Messages.{message_ok}
use Rattle.message.specs.Words.{nine, word_of, bit_count, standard_of}
use Rattle.message.specs.declared.Message.{Message}
use Rattle.message.specs.declared.Message.TheVariants.{Address, Function as Command, Extended}
use Rattle.message.specs.declared.word.Reading.TheVariants.{Message as Says, Longer}
use Rattle.message.proofs.WordLaws.{word_below, head_of_extended, standard_of-head, standard_of-address, standard_of-function, extended_of-word}
use Rattle.burst.specs.Frames.{frame_length}
use Rattle.receiver.specs.Receivers.{pair_of, complete_of, says, pairs_ok}
use Rattle.receiver.specs.declared.Event.TheVariants.{Nothing}
use Rattle.receiver_laws.proofs.Steps.{standing}

half_word : (w i : ℕ) → w / 2 ^ suc i ≡ w / 2 ^ i / 2
half_word w i = sym (shr-shr w i 1 ∙ ap (λ (n : ℕ). w / 2 ^ n) (add-one i))

-- with the next bit after the bits so far, one bit fewer of the word is left; the receiver keeps 28 of those so far
pub one_more_bit : (w i : ℕ) → w < 2 ^ 29 → w / 2 ^ suc i % 2 ^ 28 * 2 + w / 2 ^ i % 2 ≡ w / 2 ^ i
one_more_bit w i h =
    let low : w / 2 ^ i ≤ w = shr_le w i in
    rw (half_word w i) (omega arith)

-- the half-cycles of n pairs
abbrev pub twice : ℕ → ℕ
twice zero = zero
twice (suc n) = suc (suc (twice n))

-- The receiver is at a before a pair after which i bits of the word are left: a + 2 (i + 1) = 5 + 2 (rest + 1).
pub record Framed (m : Message) : Type 0 where
  -- the bits that follow the first
  pub rest : ℕ
  pub count : bit_count m ≡ suc rest
  pub kinds : (rest ≡ 8) ⊎ (rest ≡ 28)
  pub most : rest ≤ 28
  -- the half-cycles before the last: four of the start, one of the first pair, and two for each bit that follows
  pub lead : frame_length m - 1 ≡ suc (suc (suc (suc (suc (twice rest)))))
  pub small : word_of m < 2 ^ 29
  -- no bit before the first
  pub none : word_of m / 2 ^ suc rest ≡ 0
  -- "more pairs than its frame has" is not so before either half-cycle of a pair
  pub pairs : (i a : ℕ) → 7 + 2 * rest ≤ a + 2 * suc i → a + 2 * suc i ≤ 8 + 2 * rest → pairs_ok a (word_of m / 2 ^ suc i) ≡ true
  -- a pair that others follow
  pub more : (g : Option Message) (p q i a b : ℕ) → a + 2 * suc (suc i) ≡ 7 + 2 * rest
      → pair_of (standing g p (a + 1) b) (word_of m / 2 ^ suc i) q ≡ says Nothing (standing g q (a + 1 + 1) (word_of m / 2 ^ suc i))
  -- the last pair
  pub last : (g : Option Message) (p q a b : ℕ) → a + 2 ≡ 7 + 2 * rest → pair_of (standing g p (a + 1) b) (word_of m) q ≡ complete_of g m q

pub pairs_few : (a b : ℕ) → a ≤ 22 → pairs_ok a b ≡ true
unfolding pairs_ok
pairs_few a b h = rw (le-leb a 22 h)

standard : (m : Message) → bit_count m ≡ 9 → frame_length m ≡ 22 → word_of m < 2 ^ 9 → standard_of (word_of m) ≡ Says m → Framed m
unfolding pair_of
standard m n f s e = record {
  rest = 8;
  count = n;
  kinds = inl refl;
  most = lit≤ tt;
  lead = ap (λ (x : ℕ). x - 1) f;
  small = omega arith;
  none = div-eq_of_lt s;
  pairs = λ i a low high. pairs_few a (word_of m / 2 ^ suc i) (omega arith);
  more = λ g p q i a b h. rw (ne_eqb (a + 1) 22 (λ x. omega arith), ne_eqb (a + 1) 62 (λ x. omega arith));
  last = λ g p q a b h. rw (eq-eqb (a + 1) 22 (omega arith), e);
}

module _ (h u d c : ℕ) (ok : message_ok (Extended h u d c) ≡ true) where
  w : ℕ
  w = word_of (Extended h u d c)

  nine_bits : w / 2 ^ 20 ≡ nine (code_of h) 7 1
  unfolding w
  nine_bits = head_of_extended h u d c ok

  head : (i j : ℕ) → i + j ≡ 20 → w / 2 ^ i / 2 ^ j ≡ nine (code_of h) 7 1
  head i j e = shr-shr w i j ∙ ap (λ (x : ℕ). w / 2 ^ x) e ∙ nine_bits

  pairs_all : (i a : ℕ) → 63 ≤ a + 2 * suc i → a + 2 * suc i ≤ 64 → pairs_ok a (w / 2 ^ suc i) ≡ true
  unfolding pairs_ok
  pairs_all i a low high = go (dec_le a 22)
    where
      go : Dec (a ≤ 22) → pairs_ok a (w / 2 ^ suc i) ≡ true
      go (yes l) = pairs_few a (w / 2 ^ suc i) l
      go (no l) =
          let fifteen : w / 2 ^ suc i / 2 ^ ((a - 23) / 2) % 32 ≡ 15 = rw (head (suc i) ((a - 23) / 2) (omega arith)) (omega arith) in
          rw (lt-leb a 22 (omega arith), le-leb a 62 (omega arith), eq-eqb _ _ fifteen)

  -- the ninth pair of an extended message says that more follow
  next_pair : (g : Option Message) (p q i a b : ℕ) → a + 2 * suc (suc i) ≡ 63
      → pair_of (standing g p (a + 1) b) (w / 2 ^ suc i) q ≡ says Nothing (standing g q (a + 1 + 1) (w / 2 ^ suc i))
  unfolding pair_of
  next_pair g p q i a b e = go (ℕ_discrete a 21)
    where
      go : Dec (a ≡ 21) → pair_of (standing g p (a + 1) b) (w / 2 ^ suc i) q ≡ says Nothing (standing g q (a + 1 + 1) (w / 2 ^ suc i))
      go (yes n) =
          let nth : suc i ≡ 20 = omega arith in
          let says_so : standard_of (w / 2 ^ suc i) ≡ Longer = ap (λ (x : ℕ). standard_of (w / 2 ^ x)) nth ∙ ap standard_of nine_bits ∙ standard_of-head h in
          rw (eq-eqb (a + 1) 22 (omega arith), says_so)
      go (no n) = rw (ne_eqb (a + 1) 22 (λ x. omega arith), ne_eqb (a + 1) 62 (λ x. omega arith))

  last_pair : (g : Option Message) (p q a b : ℕ) → a ≡ 61 → pair_of (standing g p (a + 1) b) w q ≡ complete_of g (Extended h u d c) q
  unfolding pair_of w
  last_pair g p q a b e =
      rw (ne_eqb (a + 1) 22 (λ x. omega arith), eq-eqb (a + 1) 62 (omega arith), extended_of-word h u d c ok)

  extended : Framed (Extended h u d c)
  unfolding w
  extended = record {
    rest = 28;
    count = refl;
    kinds = inr refl;
    most = lit≤ tt;
    lead = refl;
    small = word_below (Extended h u d c) ok;
    none = div-eq_of_lt (word_below (Extended h u d c) ok);
    pairs = λ i a low high. pairs_all i a (omega arith) (omega arith);
    more = λ g p q i a b e. next_pair g p q i a b (omega arith);
    last = λ g p q a b e. last_pair g p q a b (omega arith);
  }

pub framed : (m : Message) → message_ok m ≡ true → Framed m
framed (Address h u) ok = standard (Address h u) refl refl (word_below (Address h u) ok) (standard_of-address h u ok)
framed (Command h f) ok = standard (Command h f) refl refl (word_below (Command h f) ok) (standard_of-function h f ok)
framed (Extended h u d c) ok = extended h u d c ok
