-- Laws of texts.
--
--     digits_small, digits_more, length_more     a number of one digit, and of more
--     digits_at_most, digits_below  no more than so many digits
--     last_digits, length_last, digits_are_last     the digits put from the last to the first
--     trim_none, trim_end, trim_more     a word as far as its first 0
--     trimmed_name                  the name that stands at a code, taken from its table
--     unit_at_most, fits_in_text    how long a text is: FitsInText
--     unit_told                     what the type of a message tells: its unit is a byte
--     front_is_text, text_front     a text read back from its front: FrontIsText
--     text_put                      what is put into 32 zeros from their front on is the text
use mathlib.Core.Path.{◌≡◌, refl, sym, ap, ◌∙◌}
use mathlib.Core.Bool.{Bool, true, false, not, and-eq-true_iff}
use mathlib.Core.List.{List, [], ◌∷◌, ◌++◌}
use Prim.Native.Nat.{ℕ, zero, suc, ◌+◌, ◌-◌, ◌/◌, ◌%◌, ◌^◌, ◌≤◌, ◌<◌}
use native.Mathlib.Nat.{zero-add}
use native.Mathlib.Numerals.{add-one}
use native.Mathlib.Omega.{arith}
use native.Mathlib.Decide.{dec_lt}
use mir.Val.{Val}
use denote.Laws.{Is}
use denote.Enum.Declared as Declared
use borrow.Author.Tests.{lt-ltb, le-ltb, leb-true, ne_eqb, not-true}
use lib.Dec.{eqb, leb, lit<}
use lib.ListN.{length, take, drop, replicate, length-append}
use lib.Seq.{take-append_seam}
use Rattle.ground.specs.Text.{bytes_of, bytes_from}
use Rattle.ground.proofs.Lists.{sets-front}
use Rattle.message.specs.Codes.{function_names, function_code, name_at, padded}
use Rattle.message.specs.declared.Message.{Message}
use Rattle.message.specs.declared.Message.TheVariants.{Address, Function as Command, Extended}
use Rattle.message.specs.contracts.Message as M
use Rattle.message.proofs.Tables.{every_from, every_at}
use Rattle.message.proofs.CodeLaws.{function_code-below}
use Rattle.text.specs.Texts.{digits_up_to, hex_digit, trimmed, message_text, text_of, Put, unit_of, FitsInText, FrontIsText}
use Rattle.text.specs.declared.Text.{Text}

-- ---- digits

pub digits_small : (k n : ℕ) → n < 10 → digits_up_to (suc k) n ≡ (48 + n) ∷ []
unfolding digits_up_to
digits_small k n h = simp (lt-ltb n 10 h)

pub digits_more : (k n : ℕ) → 10 ≤ n → digits_up_to (suc k) n ≡ digits_up_to k (n / 10) ++ ((48 + n % 10) ∷ [])
unfolding digits_up_to
digits_more k n h = simp (le-ltb n 10 h)

length-snoc : (s : List ℕ) (x : ℕ) → length (s ++ (x ∷ [])) ≡ suc (length s)
length-snoc s x = length-append s (x ∷ []) ∙ add-one (length s)

pub length_more : (k n : ℕ) → 10 ≤ n → length (digits_up_to (suc k) n) ≡ suc (length (digits_up_to k (n / 10)))
length_more k n h = ap length (digits_more k n h) ∙ length-snoc (digits_up_to k (n / 10)) (48 + n % 10)

pub digits_at_most : (k n : ℕ) → length (digits_up_to k n) ≤ k
unfolding digits_up_to
digits_at_most zero n = omega arith
digits_at_most (suc k) n = go (dec_lt n 10) (digits_at_most k (n / 10))
  where
    go : Dec (n < 10) → length (digits_up_to k (n / 10)) ≤ k → length (digits_up_to (suc k) n) ≤ suc k
    go (yes h) most = rw (digits_small k n h) (omega arith)
    go (no h) most = let more : 10 ≤ n = omega arith in omega (arith, length_more k n more)

-- a number below 10 ^ m has no more than m digits
pub digits_below : (m k n : ℕ) → n < 10 ^ m → 0 < m → length (digits_up_to k n) ≤ m
unfolding digits_up_to
digits_below zero k n h some = omega arith
digits_below (suc m) zero n h some = omega arith
digits_below (suc m) (suc k) n h some = go (dec_lt n 10) (digits_below m k (n / 10))
  where
    go : Dec (n < 10) → (n / 10 < 10 ^ m → 0 < m → length (digits_up_to k (n / 10)) ≤ m) → length (digits_up_to (suc k) n) ≤ suc m
    go (yes s) less = rw (digits_small k n s) (omega arith)
    go (no s) less =
        let more : 10 ≤ n = omega arith in
        let fewer : n / 10 < 10 ^ m = omega arith in
        let two : 0 < m = first m h in
        omega (arith, length_more k n more, less fewer two)
      where
        first : (m : ℕ) → n < 10 ^ suc m → 0 < m
        first zero below = omega arith
        first (suc m) below = omega arith

-- the last so many digits
unfoldable pub last_digits : ℕ → ℕ → List ℕ
last_digits zero n = []
last_digits (suc k) n = last_digits k (n / 10) ++ ((48 + n % 10) ∷ [])

pub length_last : (k n : ℕ) → length (last_digits k n) ≡ k
unfolding last_digits
length_last zero n = refl
length_last (suc k) n = length-snoc (last_digits k (n / 10)) (48 + n % 10) ∙ ap suc (length_last k (n / 10))

pub digits_are_last : (k n : ℕ) → digits_up_to k n ≡ last_digits (length (digits_up_to k n)) n
unfolding last_digits digits_up_to
digits_are_last zero n = refl
digits_are_last (suc k) n = go (dec_lt n 10) (digits_are_last k (n / 10))
  where
    go : Dec (n < 10) → digits_up_to k (n / 10) ≡ last_digits (length (digits_up_to k (n / 10))) (n / 10)
        → digits_up_to (suc k) n ≡ last_digits (length (digits_up_to (suc k) n)) n
    go (yes h) fewer =
        let e : n % 10 ≡ n = omega arith in
        digits_small k n h ∙ ap (λ (d : ℕ). (48 + d) ∷ []) (sym e) ∙ ap (λ (s : List ℕ). last_digits (length s) n) (sym (digits_small k n h))
    go (no h) fewer =
        let more : 10 ≤ n = omega arith in
        digits_more k n more
        ∙ ap (λ (s : List ℕ). s ++ ((48 + n % 10) ∷ [])) fewer
        ∙ ap (λ (m : ℕ). last_digits m n) (sym (length_more k n more))

-- ---- a text as far as its first 0

pub trim_none : trimmed [] ≡ []
unfolding trimmed
trim_none = refl

pub trim_end : (bs : List ℕ) → trimmed (0 ∷ bs) ≡ []
unfolding trimmed
trim_end bs = refl

pub trim_more : (b : ℕ) (bs : List ℕ) → (b ≡ 0 → ⊥) → trimmed (b ∷ bs) ≡ b ∷ trimmed bs
unfolding trimmed
trim_more b bs h = simp (ne_eqb b 0 h)

abbrev letters : List ℕ → Bool
letters t = every_from (λ k x. not (eqb x 0)) 0 t

-- a text of which no byte is 0, filled up
trim_filled : (t : List ℕ) (i k : ℕ) → every_from (λ j x. not (eqb x 0)) i t ≡ true → trimmed (t ++ replicate k 0) ≡ t
unfolding trimmed
trim_filled [] i zero l = refl
trim_filled [] i (suc k) l = refl
trim_filled (x ∷ t) i k l =
    let both = (and-eq-true_iff (not (eqb x 0)) (every_from (λ j y. not (eqb y 0)) (suc i) t)).0 l in
    let no : eqb x 0 ≡ false = not-true (eqb x 0) both.0 in
    rw no (ap (λ (s : List ℕ). x ∷ s) (trim_filled t (suc i) k both.1))

names_have_no_zero : every_from (λ k t. letters t) 0 function_names ≡ true
unfolding function_names bytes_of bytes_from
names_have_no_zero = refl

pub trimmed_name : (c : ℕ) → c < 16 → trimmed (padded (name_at c)) ≡ name_at c
unfolding padded name_at function_names
trimmed_name c h = trim_filled (name_at c) 0 (16 - length (name_at c)) (every_at (λ k t. letters t) function_names [] c names_have_no_zero h)

-- ---- how long a text is

name_at-most : (c : ℕ) → c < 16 → length (name_at c) ≤ 16
unfolding name_at function_names bytes_of bytes_from
name_at-most c h = leb-true (length (name_at c)) 16 (every_at (λ k t. leb (length t) 16) function_names [] c refl h)

-- a unit is a byte, and its number from 1 on has three digits at most
pub unit_at_most : (u : ℕ) → u < 256 → length (digits_up_to 20 (u + 1)) ≤ 3
unit_at_most u h = digits_below 3 20 (u + 1) (omega arith) (lit< tt)

message_at_most : (between : ℕ) (m : Message) → unit_of m < 256 → length (message_text between m) ≤ 27
unfolding message_text bytes_of bytes_from
message_at_most b (Address h u) t = omega (arith, unit_at_most u t)
message_at_most b (Command h f) t = omega (arith, name_at-most (function_code f) (function_code-below f))
message_at_most b (Extended h u d c) t =
    let ds = digits_up_to 20 (u + 1) in
    omega (arith, unit_at_most u t, length-append ds (b ∷ hex_digit (d / 16) ∷ hex_digit (d % 16) ∷ b ∷ hex_digit (c / 16) ∷ hex_digit (c % 16) ∷ []))

pub fits_in_text : FitsInText
fits_in_text = record {
  decimal = digits_at_most 20;
  hex = λ b. refl;
  place = λ h u t. omega (arith, unit_at_most u t);
  message = message_at_most;
}

pub unit_told : (m : Message) (vs : List Val) → Is (Declared.row M.the_type) m vs → unit_of m < 256
unit_told (Address h u) vs p = p.1.1.1.1.1.0.1
unit_told (Command h f) vs p = lit< tt
unit_told (Extended h u d c) vs p = p.1.1.1.1.1.0.1

-- ---- a text by value

pub front_is_text : FrontIsText
unfolding text_of
front_is_text l h =
    let zeros : List ℕ = replicate 32 0 in
    ap (take (length l)) (sets-front l zeros (omega arith)) ∙ take-append_seam l (drop (length l) zeros)

pub text_front : {t : Text} {l : List ℕ} → t ≡ text_of l → length l ≤ 32 → take t.length t.bytes ≡ l
text_front {t} {l} e h = ap (λ (x : Text). take x.length x.bytes) e ∙ front_is_text l h

pub text_put : {l out : List ℕ} {n : ℕ} → Put (replicate 32 0) 0 l out n → record { bytes = out; length = n } ≡ text_of l
unfolding text_of
text_put {l} {out} {n} p = simp (p.bytes, p.place, zero-add)
