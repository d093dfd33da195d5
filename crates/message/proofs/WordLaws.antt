-- Laws of the word of a message: its bits fit the count, and it is read back as the message it came from.
--
--     word_below                          a word has no more bits than the count
--     head_of_extended, standard_of-head  the first nine bits of an extended message, and what they say
--     standard_of-address, standard_of-function, extended_of-word     the word of a valid message read back, kind by kind
--     words_read_back, words_one_to_one   WordsReadBack, WordsOneToOne
use Rattle.std.specs.Prelude.{Result, Ok}
use mathlib.Core.Path.{◌≡◌, sym, ap, ◌∙◌}
use mathlib.Core.Bool.{true}
use Prim.Native.Nat.{ℕ, ◌/◌, ◌%◌, ◌^◌, ◌<◌}
use native.Mathlib.Omega.{arith}
use borrow.Author.Tests.{lt-ltb, eq-eqb}
use Rattle.message.specs.Codes.{code_of, function_code, meanings, meaning_of}
use Rattle.message.specs.Messages.{message_ok}
use Rattle.message.specs.Words.{nine, word_of, bit_count, standard_of, standard_answer}
use Rattle.message.specs.Words.{extended_of, extended_answer, read_word, WordsReadBack, WordsOneToOne}
use Rattle.message.specs.declared.Function.{Function}
use Rattle.message.specs.declared.Message.{Message}
use Rattle.message.specs.declared.Message.TheVariants.{Address, Function as Command, Extended}
use Rattle.message.specs.declared.word.Reading.{Reading}
use Rattle.message.specs.declared.word.Reading.TheVariants.{Message as Says, Longer as More}
use Rattle.ground.specs.Refusals.{judged}
use Rattle.ground.specs.declared.Refusal.{Refusal}
use Rattle.ground.proofs.Choices.{below_sixteen, both_below}
use Rattle.message.proofs.CodeLaws.{code_below, number_of-code, meaning_of-function, function_code-below, extended_below}

-- the parts of nine bits
module _ (h c f : ℕ) (hh : h < 16) (hc : c < 16) (hf : f < 2) where
  nine_house : nine h c f / 32 % 16 ≡ h
  nine_house = omega arith

  nine_code : nine h c f / 2 % 16 ≡ c
  nine_code = omega arith

  nine_bit : nine h c f % 2 ≡ f
  nine_bit = omega arith

  nine_below : nine h c f < 512
  nine_below = omega arith

pub word_below : (m : Message) → message_ok m ≡ true → word_of m < 2 ^ bit_count m
word_below (Address h u) t = nine_below (code_of h) (code_of u) 0 (code_below h) (code_below u) (omega arith)
word_below (Command h f) t = nine_below (code_of h) (function_code f) 1 (code_below h) (function_code-below f) (omega arith)
word_below (Extended h u d c) t = omega (arith, extended_below h u d c t, code_below h, code_below u)

-- the first nine bits of an extended message say so
pub head_of_extended : (h u d c : ℕ) → message_ok (Extended h u d c) ≡ true → word_of (Extended h u d c) / 2 ^ 20 ≡ nine (code_of h) 7 1
head_of_extended h u d c t = omega (arith, extended_below h u d c t, code_below h, code_below u)

pub standard_of-address : (h u : ℕ) → message_ok (Address h u) ≡ true → standard_of (word_of (Address h u)) ≡ Says (Address h u)
unfolding standard_of
standard_of-address h u t =
    let p = both_below h u t in
    simp (
      nine_house (code_of h) (code_of u) 0 (code_below h) (code_below u) (omega arith),
      nine_code (code_of h) (code_of u) 0 (code_below h) (code_below u) (omega arith),
      nine_bit (code_of h) (code_of u) 0 (code_below h) (code_below u) (omega arith),
      number_of-code h p.0,
      number_of-code u p.1,
    )

pub standard_of-function : (h : ℕ) (f : Function) → message_ok (Command h f) ≡ true → standard_of (word_of (Command h f)) ≡ Says (Command h f)
unfolding standard_of
standard_of-function h f t =
    simp (
      nine_house (code_of h) (function_code f) 1 (code_below h) (function_code-below f) (omega arith),
      nine_code (code_of h) (function_code f) 1 (code_below h) (function_code-below f) (omega arith),
      nine_bit (code_of h) (function_code f) 1 (code_below h) (function_code-below f) (omega arith),
      number_of-code h (below_sixteen h t),
      meaning_of-function f,
    )

pub extended_of-word : (h u d c : ℕ) → message_ok (Extended h u d c) ≡ true → extended_of (word_of (Extended h u d c)) ≡ Extended h u d c
extended_of-word h u d c t =
    let p = extended_below h u d c t in
    let w = word_of (Extended h u d c) in
    let eh : w / 2 ^ 25 % 16 ≡ code_of h = omega (arith, code_below h, code_below u) in
    let eu : w / 2 ^ 16 % 16 ≡ code_of u = omega (arith, code_below h, code_below u) in
    let ed : w / 256 % 256 ≡ d = omega arith in
    let ec : w % 256 ≡ c = omega arith in
    simp (eh, eu, ed, ec, number_of-code h p.0, number_of-code u p.1)

-- ---- every message

standard_read : (w : ℕ) → w < 512 → standard_answer w ≡ Ok (standard_of w)
unfolding standard_answer judged
standard_read w h = rw (lt-ltb w 512 h)

extended_read : (h u d c : ℕ) → message_ok (Extended h u d c) ≡ true
    → extended_answer (word_of (Extended h u d c)) ≡ Ok (Says (extended_of (word_of (Extended h u d c))))
unfolding extended_answer judged
extended_read h u d c t =
    let p = extended_below h u d c t in
    let w = word_of (Extended h u d c) in
    let within : w < 2 ^ 29 = omega (arith, code_below h, code_below u) in
    let head : w / 2 ^ 20 % 32 ≡ 15 = omega (arith, code_below h, code_below u) in
    rw (lt-ltb w (2 ^ 29) within, eq-eqb (w / 2 ^ 20 % 32) 15 head)

pub words_read_back : WordsReadBack
words_read_back (Address h u) t = standard_read (word_of (Address h u)) (word_below (Address h u) t) ∙ ap Ok (standard_of-address h u t)
words_read_back (Command h f) t = standard_read (word_of (Command h f)) (word_below (Command h f) t) ∙ ap Ok (standard_of-function h f t)
words_read_back (Extended h u d c) t = extended_read h u d c t ∙ ap (λ m. Ok (Says m)) (extended_of-word h u d c t)

pub words_one_to_one : WordsOneToOne
words_one_to_one m n tm tn e =
    let p : ◌≡◌ {A = Result Reading Refusal} (Ok (Says m)) (Ok (Says n)) = sym (words_read_back m tm) ∙ ap read_word e ∙ words_read_back n tn in
    cc

-- nine bits of a house, code 7 and function bit 1 say that an extended message has begun
pub standard_of-head : (h : ℕ) → standard_of (nine (code_of h) 7 1) ≡ More
unfolding standard_of meaning_of meanings
standard_of-head h =
    simp (
      nine_code (code_of h) 7 1 (code_below h) (omega arith) (omega arith),
      nine_bit (code_of h) 7 1 (code_below h) (omega arith) (omega arith),
    )
