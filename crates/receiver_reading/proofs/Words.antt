-- The bits that pairs carry, as one number: with one bit more, and what nine or 29 of them say. What is read is written again with the same bits,
-- because each code stands for one number, and a longer frame's first nine bits are code 7 with function bit 1.
--
--     bits_last, pairs_none, pairs-last, pairs_more     one bit more: of a number's bits, of its pairs
--     low_more, low_less, low_word                      and how large the number then is
--     unfinished_low, unfinished_more, unfinished_less, unfinished_last     whether more pairs follow
--     before_last                                       a message is unfinished before its last bit
--     WordIs, word_of-nine, word_of-all                 what bits say has these bits
--     longer_code, code_longer                          nine bits that begin a longer frame
--     unsupported_code_lem, code_unsupported                nine bits with no such code
use Prim.Native.Nat.{ℕ, suc, ◌+◌, ◌-◌, ◌*◌, ◌/◌, ◌%◌, ◌^◌, ◌≤◌, ◌<◌}
use mathlib.Core.Logic.{inl, inr, ◌≢◌}
use mathlib.Core.Path.{◌≡◌, refl, sym, ap, ap₂, ◌∙◌}
use mathlib.Core.Bool.{Bool, true, false, false≢true, ◌&&◌, not, and-eq-true_iff}
use mathlib.Core.List.{List, [], ◌∷◌, ◌++◌, append-nil}
use native.Mathlib.Decide.{ℕ_discrete, dec_le}
use native.Mathlib.Nat.{div-one, div-div-eq-div-mul, pow-le-pow_right}
use native.Mathlib.Numerals.{add-one}
use native.Mathlib.Omega.{arith}
use borrow.Author.Tests.{eq-eqb, ne_eqb, eqb-true, le-leb, leb-true}
use lib.Dec.{eqb, leb}
use lib.Pow.{shr-shr}
use Rattle.ground.proofs.Choices.{both}
use Rattle.message.specs.Codes.{code_of, number_of, function_code, meaning_of, meanings}
use Rattle.message.specs.Messages.{message_ok}
use Rattle.message.specs.Words.{nine, word_of, bit_count, function_reading, standard_of, extended_of}
use Rattle.message.specs.declared.Message.{Message}
use Rattle.message.specs.declared.Message.TheVariants.{Address, Function as Command, Extended}
use Rattle.message.specs.declared.word.Reading.{Reading}
use Rattle.message.specs.declared.word.Reading.TheVariants.{Message as Says, Longer, Unsupported}
use Rattle.message.proofs.CodeLaws.{code_of-number}
use Rattle.message.proofs.Tables.{every_at}
use Rattle.message.proofs.WordLaws.{head_of_extended}
use Rattle.burst.specs.Frames.{bits_of, pairs_of}
use Rattle.burst.proofs.FrameLaws.{bits_split}
use Rattle.receiver.proofs.ReceiverLaws.{ten_to_twelve, nine_ok, nine_ok_lem, reads_ok, standard_ok, extended_ok, begun_code}
use Rattle.receiver_reading.specs.Reading.{pairs, Unfinished, NoSuchCode}

-- ---- one bit more

half_more : (w k : ℕ) → w / 2 / 2 ^ k ≡ w / 2 ^ suc k
half_more w k = shr-shr w 1 k ∙ ap (λ (x : ℕ). w / 2 ^ x) (omega arith)

pub bits_last : (n w : ℕ) → bits_of (suc n) w ≡ bits_of n (w / 2) ++ w % 2 ∷ []
unfolding bits_of
bits_last n w =
    ap (λ (k : ℕ). bits_of k w) (sym (add-one n))
    ∙ bits_split n 1 w
    ∙ ap (λ (b : ℕ). bits_of n (w / 2) ++ b % 2 ∷ []) (div-one w)

pairs-append : (bs : List ℕ) (b : ℕ) → pairs_of (bs ++ b ∷ []) ≡ pairs_of bs ++ b ∷ (1 - b) ∷ []
unfolding pairs_of
pairs-append [] b = refl
pairs-append (c ∷ bs) b = ap (λ (l : List ℕ). c ∷ (1 - c) ∷ l) (pairs-append bs b)

pub pairs_none : (hs : List ℕ) (w : ℕ) → hs ++ pairs 0 w ≡ hs
unfolding pairs_of bits_of
pairs_none hs w = append-nil hs

pub pairs-last : (n w : ℕ) → pairs (suc n) w ≡ pairs n (w / 2) ++ w % 2 ∷ (1 - w % 2) ∷ []
pairs-last n w = ap pairs_of (bits_last n w) ∙ pairs-append (bits_of n (w / 2)) (w % 2)

pub pairs_more : (n w x : ℕ) → x ≤ 1 → pairs (suc n) (w * 2 + x) ≡ pairs n w ++ x ∷ (1 - x) ∷ []
pairs_more n w x l =
    let half : (w * 2 + x) / 2 ≡ w = omega arith in
    let bit : (w * 2 + x) % 2 ≡ x = omega arith in
    pairs-last n (w * 2 + x) ∙ ap₂ (λ (v b : ℕ). pairs n v ++ b ∷ (1 - b) ∷ []) half bit

pub low_more : (n w x : ℕ) → x ≤ 1 → w < 2 ^ n → w * 2 + x < 2 ^ suc n
low_more n w x l h = omega arith

pub low_less : (n w : ℕ) → w < 2 ^ suc n → w / 2 < 2 ^ n
low_less n w h = omega arith

-- ---- whether more pairs follow

pub unfinished_low : (n w : ℕ) → Unfinished n w → n ≤ 28
unfinished_low n w (inl h) = omega arith
unfinished_low n w (inr h) = h.1

-- so the receiver keeps every bit
pub low_word : (n w : ℕ) → Unfinished n w → w < 2 ^ n → w < 2 ^ 28
low_word n w u h = omega (arith, pow-le-pow_right {n = 2} (omega arith) (unfinished_low n w u))

pub unfinished_more : (n w : ℕ) → Unfinished n (w / 2) → n ≢ 8 → n ≢ 28 → Unfinished (suc n) w
unfinished_more n w (inl h) d e = inl (omega arith)
unfinished_more n w (inr h) d e =
    let k : suc n - 9 ≡ suc (n - 9) = omega (arith, h.0) in
    let code : w / 2 ^ (suc n - 9) ≡ w / 2 / 2 ^ (n - 9) = ap (λ (j : ℕ). w / 2 ^ j) k ∙ sym (half_more w (n - 9)) in
    inr (omega (arith, h.0), omega (arith, h.1), ap (λ (v : ℕ). v % 32) code ∙ h.2)

pub unfinished_less : (n w : ℕ) → Unfinished (suc n) w → Unfinished n (w / 2)
unfinished_less n w (inl h) = inl (omega arith)
unfinished_less n w (inr h) = go (dec_le n 8)
  where
    go : Dec (n ≤ 8) → Unfinished n (w / 2)
    go (yes l) = inl l
    go (no l) =
        let k : suc (n - 9) ≡ suc n - 9 = omega arith in
        inr (omega arith, omega (arith, h.1), ap (λ (v : ℕ). v % 32) (half_more w (n - 9) ∙ ap (λ (j : ℕ). w / 2 ^ j) k) ∙ h.2)

-- the code of all 29 bits
pub unfinished_last : (w : ℕ) → Unfinished 28 (w / 2) → w / 2 ^ 20 % 32 ≡ 15
unfinished_last w (inl h) = absurd (omega arith)
unfinished_last w (inr h) = ap (λ (v : ℕ). v % 32) (sym (half_more w 19)) ∙ h.2

-- a message's bits but the last
pub before_last : (m : Message) (n : ℕ) → message_ok m ≡ true → bit_count m ≡ suc n → Unfinished n (word_of m / 2)
before_last (Address h u) n ok e = inl (omega arith)
before_last (Command h f) n ok e = inl (omega arith)
before_last (Extended h u d c) n ok e =
    let w = word_of (Extended h u d c) in
    let k : 20 ≡ suc (n - 9) = omega arith in
    let first : w / 2 / 2 ^ (n - 9) ≡ nine (code_of h) 7 1 = half_more w (n - 9) ∙ ap (λ (j : ℕ). w / 2 ^ j) (sym k) ∙ head_of_extended h u d c ok in
    inr (omega arith, omega arith, ap (λ (v : ℕ). v % 32) first ∙ omega arith)

-- ---- what bits say has these bits

pub record WordIs (n w : ℕ) (m : Message) : Type 0 where
  pub count : bit_count m ≡ n
  pub word : word_of m ≡ w
  pub valid : message_ok m ≡ true

-- with function bit 1: a function of the house, with that code; one computed test over the table of meanings
abbrev is_function : ℕ → ℕ → Message → Bool
is_function house c (Address h u) = false
is_function house c (Command h f) = eqb h house && eqb (function_code f) c
is_function house c (Extended h u d k) = false

abbrev says_function : ℕ → ℕ → Reading → Bool
says_function house c (Says m) = is_function house c m
says_function house c Longer = true
says_function house c Unsupported = true

says_function_lem : (house c : ℕ) → c < 16 → says_function house c (function_reading house (meaning_of c)) ≡ true
unfolding meaning_of meanings
says_function_lem house c low = every_at (λ k x. says_function house k (function_reading house x)) meanings (meaning_of 16) c (rw (eq-eqb house house refl)) low

module _ (w : ℕ) (low : w < 2 ^ 9) where
  record Nine (m : Message) : Type 0 where
    pub count : bit_count m ≡ 9
    pub word : word_of m ≡ w

  -- house, code and function bit again
  parts : nine (w / 32 % 16) (w / 2 % 16) (w % 2) ≡ w
  parts =
      let a : w / 2 / 16 ≡ w / 32 = div-div-eq-div-mul w 2 16 in
      let top : w / 32 % 16 ≡ w / 32 = omega arith in
      omega arith

  house : code_of (number_of (w / 32 % 16)) ≡ w / 32 % 16
  house = code_of-number (w / 32 % 16) (omega arith)

  nine_address : w % 2 ≡ 0 → Nine (Address (number_of (w / 32 % 16)) (number_of (w / 2 % 16)))
  nine_address z =
      let unit = code_of-number (w / 2 % 16) (omega arith) in
      record { count = refl; word = omega (arith, house, unit, parts) }

  nine_function : (m : Message) → w % 2 ≡ 1 → is_function (number_of (w / 32 % 16)) (w / 2 % 16) m ≡ true → Nine m
  nine_function (Address h u) o t = absurd (false≢true t)
  nine_function (Command h f) o t =
      let p = (and-eq-true_iff (eqb h (number_of (w / 32 % 16))) (eqb (function_code f) (w / 2 % 16))).0 t in
      let same : code_of h ≡ w / 32 % 16 = ap code_of (eqb-true h (number_of (w / 32 % 16)) p.0) ∙ house in
      let code : function_code f ≡ w / 2 % 16 = eqb-true (function_code f) (w / 2 % 16) p.1 in
      record { count = refl; word = omega (arith, same, code, parts) }
  nine_function (Extended h u d c) o t = absurd (false≢true t)

  nine_bits : (m : Message) → standard_of w ≡ Says m → Nine m
  unfolding standard_of
  nine_bits m e = go (ℕ_discrete (w % 2) 0)
    where
      go : Dec (w % 2 ≡ 0) → Nine m
      go (yes z) =
          let q : Says (Address (number_of (w / 32 % 16)) (number_of (w / 2 % 16))) ≡ Says m = rw (eq-eqb (w % 2) 0 z) at e in
          let same : Address (number_of (w / 32 % 16)) (number_of (w / 2 % 16)) ≡ m = cc in
          rw (sym same) (nine_address z)
      go (no n) =
          let q : function_reading (number_of (w / 32 % 16)) (meaning_of (w / 2 % 16)) ≡ Says m = rw (ne_eqb (w % 2) 0 n) at e in
          let t = says_function_lem (number_of (w / 32 % 16)) (w / 2 % 16) (omega arith) in
          nine_function m (omega arith) (ap (says_function (number_of (w / 32 % 16)) (w / 2 % 16)) (sym q) ∙ t)

  pub word_of-nine : (m : Message) → standard_of w ≡ Says m → WordIs 9 w m
  word_of-nine m e =
      let b = nine_bits m e in
      record { count = b.count; word = b.word; valid = ap reads_ok (sym e) ∙ standard_ok w }

-- a number by its parts, where t has code 7 and function bit 1
glued : (w v u t s x y z : ℕ) → w ≡ v * 256 + x → v ≡ u * 256 + y → u ≡ t * 16 + z → t ≡ s * 32 + 15
    → ((nine s 7 1 * 16 + z) * 256 + y) * 256 + x ≡ w
glued w v u t s x y z a b c d = omega arith

pub word_of-all : (w : ℕ) → w < 2 ^ 29 → w / 2 ^ 20 % 32 ≡ 15 → WordIs 29 w (extended_of w)
word_of-all w low e =
    let a : w / 256 / 256 ≡ w / 2 ^ 16 = div-div-eq-div-mul w 256 256 in
    let b : w / 2 ^ 16 / 16 ≡ w / 2 ^ 20 = div-div-eq-div-mul w (2 ^ 16) 16 in
    let c : w / 2 ^ 20 / 32 ≡ w / 2 ^ 25 = div-div-eq-div-mul w (2 ^ 20) 32 in
    let house = code_of-number (w / 2 ^ 25 % 16) (omega arith) in
    let unit = code_of-number (w / 2 ^ 16 % 16) (omega arith) in
    let same =
    glued w (w / 256) (w / 2 ^ 16) (w / 2 ^ 20) (w / 2 ^ 25 % 16) (w % 256) (w / 256 % 256) (w / 2 ^ 16 % 16)
    (omega arith) (omega arith) (omega arith) (omega arith) in
    record { count = refl; word = rw (house, unit) same; valid = extended_ok w }

-- ---- nine bits that say no message

pub longer_code : (w : ℕ) → standard_of w ≡ Longer → w / 2 ^ 0 % 32 ≡ 15
longer_code w e = ap (λ (v : ℕ). v % 32) (div-one w) ∙ begun_code w e

pub code_longer : (w : ℕ) → w / 2 ^ 0 % 32 ≡ 15 → standard_of w ≡ Longer
unfolding standard_of meaning_of meanings
code_longer w e =
    let low : w % 32 ≡ 15 = ap (λ (v : ℕ). v % 32) (sym (div-one w)) ∙ e in
    let bit : w % 2 ≡ 1 = omega arith in
    let a : w / 2 / 16 ≡ w / 32 = div-div-eq-div-mul w 2 16 in
    let code : w / 2 % 16 ≡ 7 = omega arith in
    simp (bit, code)

pub unsupported_code_lem : (w : ℕ) → w < 2 ^ 9 → standard_of w ≡ Unsupported → NoSuchCode w
unsupported_code_lem w low e =
    let c = w / 2 % 16 in
    let t : (eqb (w % 2) 1 && ten_to_twelve c) ≡ true = ap (nine_ok (eqb (w % 2) 1) c) (sym e) ∙ nine_ok_lem w in
    let p = (and-eq-true_iff (eqb (w % 2) 1) (ten_to_twelve c)).0 t in
    let q = (and-eq-true_iff (leb 10 c) (leb c 12)).0 p.1 in
    record { nine = low; function = eqb-true (w % 2) 1 p.0; low = leb-true 10 c q.0; high = leb-true c 12 q.1 }

pub code_unsupported : (w : ℕ) → NoSuchCode w → standard_of w ≡ Unsupported
code_unsupported w c = go (standard_of w) (nine_ok_lem w) refl
  where
    such : (eqb (w % 2) 1 && ten_to_twelve (w / 2 % 16)) ≡ true
    such = both (eq-eqb (w % 2) 1 c.function) (both (le-leb 10 (w / 2 % 16) c.low) (le-leb (w / 2 % 16) 12 c.high))

    go : (x : Reading) → nine_ok (eqb (w % 2) 1) (w / 2 % 16) x ≡ true → standard_of w ≡ x → standard_of w ≡ Unsupported
    go (Says m) t e =
        let other = ((and-eq-true_iff (message_ok m) (not (eqb (w % 2) 1 && ten_to_twelve (w / 2 % 16)))).0 t).1 in
        absurd (false≢true (ap not (sym such) ∙ other))
    go Longer t e =
        let seven = eqb-true (w / 2 % 16) 7 ((and-eq-true_iff (eqb (w % 2) 1) (eqb (w / 2 % 16) 7)).0 t).1 in
        absurd (omega (arith, seven, c.low))
    go Unsupported t e = e
