-- Laws for the reader: which b and c are those of a code, and of which command, by the tests that the code makes of them.
--
--     both_hold, one_fails                             what the code's test of both complements says of the definition's
--     code_again                                       where both are right, b and c make the code again
--     of_switch, of_step_lem                               what the b and c of a code for on or off are, and of one for bright or dim
--     on_named, off_named, bright_named, dim_named     the command of such b and c: its b and c are these
--     switch_told, step_told                           the code's tests whether b and c are those of such a code
--     answered, unanswered                             what the reader answers for b and c
use Rattle.std.specs.Prelude.{Ok, Err}
use mathlib.Core.Path.{◌≡◌, refl, sym, ap, ◌∙◌}
use mathlib.Core.Bool.{Bool, true, false, not, ◌&&◌, ◌||◌, and-eq-true_iff, true≢false}
use mathlib.Core.List.{List, [], ◌∷◌}
use mathlib.Core.Logic.{◌⊎◌, inl, inr, ⊎_elim}
use Prim.Native.Nat.{ℕ, ◌+◌, ◌-◌, ◌*◌, ◌/◌, ◌%◌, ◌<◌}
use native.Mathlib.Omega.{arith}
use borrow.Author.Tests.{eqb-true, eqb-false, ltb-true, ltb-false, not-true, not-false, le-leb}
use lib.Bits.{bit_and, and_step, and_high}
use lib.Dec.{eqb, leb, ltb}
use lib.ListN.{length, get_or}
use Rattle.ground.specs.Refusals.{judged}
use Rattle.ground.specs.declared.Refusal.TheVariants as refusal
use Rattle.ground.proofs.Choices.{both}
use Rattle.radio.specs.Codes.{house_of_nibble, house_in_b, unit_in_b, unit_in_c, unit_from, byte_b, byte_c, code_from, command_ok, among, command_of}
use Rattle.radio.specs.Codes.{is_switch, switch_code, step_code}
use Rattle.radio.specs.Answers.{named_answer}
use Rattle.radio.specs.declared.RadioCommand.{RadioCommand}
use Rattle.radio.specs.declared.RadioCommand.TheVariants.{On, Off, Bright, Dim}
use Rattle.radio.proofs.CodeLaws.{house_read_back, house_of_nibble-below, bit_below, Bits, bits, in_c, digits}
use Rattle.radio.proofs.CommandLaws.{code_of-named, named_of_code}

-- ---- two tests joined: whether one of two fails

pub both_hold : (s t : Bool) → (not s || not t) ≡ false → (s && t) ≡ true
both_hold true t e = not-false t e
both_hold false t e = sym e

pub one_fails : (s t : Bool) → (not s || not t) ≡ true → (s && t) ≡ false
one_fails true t e = not-true t e
one_fails false t e = refl

-- ---- four bytes whose pairs are complementary

pub code_again : (code : List ℕ) → length code ≡ 4
    → (not (eqb (get_or code 1 0) (255 - get_or code 0 0)) || not (eqb (get_or code 3 0) (255 - get_or code 2 0))) ≡ false
    → code_from (get_or code 0 0) (get_or code 2 0) ≡ code
code_again [] four e = absurd (omega arith)
code_again (b ∷ []) four e = absurd (omega arith)
code_again (b ∷ x ∷ []) four e = absurd (omega arith)
code_again (b ∷ x ∷ c ∷ []) four e = absurd (omega arith)
code_again (b ∷ x ∷ c ∷ y ∷ []) four e =
    let p = (and-eq-true_iff (eqb x (255 - b)) (eqb y (255 - c))).0 (both_hold (eqb x (255 - b)) (eqb y (255 - c)) e) in
    let ex = eqb-true x (255 - b) p.0 in
    let ey = eqb-true y (255 - c) p.1 in
    cc
code_again (b ∷ x ∷ c ∷ y ∷ z ∷ zs) four e = absurd (omega arith)

-- ---- the house and the unit taken out of b and c

house_again : (b : ℕ) → b < 256 → house_in_b (house_of_nibble (b / 16)) ≡ b / 16 * 16
house_again b l = ap (λ (n : ℕ). n * 16) (house_read_back (b / 16) (omega arith))

house_fits : (b : ℕ) → b < 256 → leb (house_of_nibble (b / 16)) 15 ≡ true
house_fits b l = le-leb (house_of_nibble (b / 16)) 15 (omega (arith, house_of_nibble-below (b / 16) (omega arith)))

-- the masks of bit 1, of bits 2 and 0, and of bits 3, 1 and 0
two : (n : ℕ) → bit_and n 2 ≡ n / 2 % 2 * 2
two n = and_high n 1 1

two_of_half : (n : ℕ) → bit_and (n / 2) 2 ≡ n / 4 % 2 * 2
two_of_half n =
    let quarter : n / 2 / 2 ≡ n / 4 = omega arith in
    two (n / 2) ∙ ap (λ (m : ℕ). m % 2 * 2) quarter

five : (n : ℕ) → bit_and n 5 ≡ n / 4 % 2 * 4 + n % 2
five n = omega (arith, and_step n 5, two_of_half n)

eleven : (n : ℕ) → bit_and n 11 ≡ n / 8 % 2 * 8 + n / 2 % 2 * 2 + n % 2
eleven n =
    let eighth : n / 2 / 4 ≡ n / 8 = omega arith in
    let high : bit_and (n / 2) 5 ≡ n / 8 % 2 * 4 + n / 2 % 2 = five (n / 2) ∙ ap (λ (m : ℕ). m % 2 * 4 + n / 2 % 2) eighth in
    omega (arith, and_step n 11, high)

-- the low four bits
low_four : (b : ℕ) → b % 16 ≡ b / 8 % 2 * 8 + b / 4 % 2 * 4 + b / 2 % 2 * 2 + b % 2
low_four b =
    let e₃ : b % 16 / 8 % 2 ≡ b / 8 % 2 = omega arith in
    let e₂ : b % 16 / 4 % 2 ≡ b / 4 % 2 = omega arith in
    let e₁ : b % 16 / 2 % 2 ≡ b / 2 % 2 = omega arith in
    let e₀ : b % 16 % 2 ≡ b % 2 = omega arith in
    simp (e₃, e₂, e₁, e₀) at (sym (digits (b % 16) (omega arith)))

-- b's bits 3, 1 and 0 are 0 where its low four bits have no other than bit 2
low_clear : (b : ℕ) → bit_and b 11 ≡ 0 → b % 16 ≡ b / 4 % 2 * 4
low_clear b e = let m = eleven b in let l = low_four b in omega arith

low_masked : (b : ℕ) → b % 16 ≡ b / 4 % 2 * 4 → bit_and b 11 ≡ 0
low_masked b e = let m = eleven b in let l = low_four b in omega arith

-- c from its four bits, as it is from the bits of c / 8
weigh : (c q f o t : ℕ) → c % 8 ≡ 0 → q * 8 + f * 4 + o * 2 + t ≡ c / 8 → q * 64 + t * 8 + o * 16 + f * 32 ≡ c
weigh c q f o t z d = omega arith

bits_again : (c : ℕ) → c < 128 → c % 8 ≡ 0 → c / 64 % 2 * 64 + c / 8 % 2 * 8 + c / 16 % 2 * 16 + c / 32 % 2 * 32 ≡ c
bits_again c l z =
    let e₆ : c / 8 / 8 ≡ c / 64 = omega arith in
    let e₅ : c / 8 / 4 ≡ c / 32 = omega arith in
    let e₄ : c / 8 / 2 ≡ c / 16 = omega arith in
    weigh c (c / 64 % 2) (c / 32 % 2) (c / 16 % 2) (c / 8 % 2) z (simp (e₆, e₅, e₄) at (digits (c / 8) (omega arith)))

module _ (b c : ℕ) where
  unit_bits_lem : Bits (unit_from b c) (b / 4 % 2) (c / 64 % 2) (c / 8 % 2) (c / 16 % 2)
  unit_bits_lem =
      bits (unit_from b c) (b / 4 % 2) (c / 64 % 2) (c / 8 % 2) (c / 16 % 2)
      (bit_below (b / 4)) (bit_below (c / 64)) (bit_below (c / 8)) (bit_below (c / 16)) (omega arith)

  unit_again : c < 128 → c % 8 ≡ 0 → unit_in_c (unit_from b c) + c / 32 % 2 * 32 ≡ c
  unit_again l z = ap (λ (n : ℕ). n + c / 32 % 2 * 32) (in_c unit_bits_lem) ∙ bits_again c l z

-- ---- which b and c are those of a code, and of which command

module _ (b c : ℕ) where
  -- a command that has this b and this c
  named_by : (k : RadioCommand) → command_ok k ≡ true → byte_b k ≡ b → byte_c k ≡ c → (among (code_from b c) ≡ true) × (command_of (code_from b c) ≡ k)
  named_by k ok eb ec = rw (eb, ec) at (named_of_code k ok)

  -- what the code's command, and so its kind, says of b and c
  module _ (one : among (code_from b c) ≡ true) where
    bytes_of : (byte_b (command_of (code_from b c)) ≡ b) × (byte_c (command_of (code_from b c)) ≡ c)
    bytes_of = let same = (code_of-named (code_from b c) one).1 in (cc, cc)

    bits_of-switch : is_switch (command_of (code_from b c)) ≡ true → (c < 128) × (b % 16 ≡ b / 4 % 2 * 4) × (c % 8 ≡ 0)
    bits_of-switch t = go (command_of (code_from b c)) t bytes_of.0 bytes_of.1
      where
        go : (k : RadioCommand) → is_switch k ≡ true → byte_b k ≡ b → byte_c k ≡ c → (c < 128) × (b % 16 ≡ b / 4 % 2 * 4) × (c % 8 ≡ 0)
        go (On h u) t eb ec = (omega arith, omega arith, omega arith)
        go (Off h u) t eb ec = (omega arith, omega arith, omega arith)
        go (Bright h) t eb ec = absurd (true≢false (sym t))
        go (Dim h) t eb ec = absurd (true≢false (sym t))

    bits_of-step : is_switch (command_of (code_from b c)) ≡ false → (b % 16 ≡ 0) × ((c ≡ 136) ⊎ (c ≡ 152))
    bits_of-step t = go (command_of (code_from b c)) t bytes_of.0 bytes_of.1
      where
        go : (k : RadioCommand) → is_switch k ≡ false → byte_b k ≡ b → byte_c k ≡ c → (b % 16 ≡ 0) × ((c ≡ 136) ⊎ (c ≡ 152))
        go (On h u) t eb ec = absurd (true≢false t)
        go (Off h u) t eb ec = absurd (true≢false t)
        go (Bright h) t eb ec = (omega arith, inl (sym ec))
        go (Dim h) t eb ec = (omega arith, inr (sym ec))

  pub of_switch : switch_code (code_from b c) ≡ true → (c < 128) × (b % 16 ≡ b / 4 % 2 * 4) × (c % 8 ≡ 0)
  of_switch t = let p = (and-eq-true_iff (among (code_from b c)) _).0 t in bits_of-switch p.0 p.1

  pub of_step_lem : step_code (code_from b c) ≡ true → (b % 16 ≡ 0) × ((c ≡ 136) ⊎ (c ≡ 152))
  of_step_lem t = let p = (and-eq-true_iff (among (code_from b c)) _).0 t in bits_of-step p.0 (not-true (is_switch (command_of (code_from b c))) p.1)

module _ (b c : ℕ) (small : b < 256) where
  -- the command that b and c name is this one
  abbrev Names : RadioCommand → Type 0
  Names k = (among (code_from b c) ≡ true) × (command_of (code_from b c) ≡ k)

  pub bright_named : b % 16 ≡ 0 → c ≡ 136 → Names (Bright (house_of_nibble (b / 16)))
  bright_named z e = named_by b c (Bright (house_of_nibble (b / 16))) (house_fits b small) (omega (arith, house_again b small)) (sym e)

  pub dim_named : b % 16 ≡ 0 → c ≡ 152 → Names (Dim (house_of_nibble (b / 16)))
  dim_named z e = named_by b c (Dim (house_of_nibble (b / 16))) (house_fits b small) (omega (arith, house_again b small)) (sym e)

  module _ (low : c < 128) (pb : b % 16 ≡ b / 4 % 2 * 4) (pc : c % 8 ≡ 0) where
    fits : (leb (house_of_nibble (b / 16)) 15 && leb (unit_from b c) 15) ≡ true
    fits = simp (house_fits b small, le-leb (unit_from b c) 15 (unit_bits_lem b c).small)

    b_again : house_in_b (house_of_nibble (b / 16)) + unit_in_b (unit_from b c) ≡ b
    b_again = simp (house_again b small, (unit_bits_lem b c).eight) (omega arith)

    pub on_named : c / 32 % 2 ≡ 0 → Names (On (house_of_nibble (b / 16)) (unit_from b c))
    on_named z = named_by b c (On (house_of_nibble (b / 16)) (unit_from b c)) fits b_again (omega (arith, unit_again b c low pc))

    pub off_named : (c / 32 % 2 ≡ 0 → ⊥) → Names (Off (house_of_nibble (b / 16)) (unit_from b c))
    off_named z = named_by b c (Off (house_of_nibble (b / 16)) (unit_from b c)) fits b_again (omega (arith, unit_again b c low pc))

-- ---- the tests of b and c

not-one : (t : Bool) → (t ≡ true → ⊥) → t ≡ false
not-one true never = absurd (never refl)
not-one false never = refl

module _ (b c : ℕ) (small : b < 256) where
  switch_named : (k : RadioCommand) → Names b c small k → is_switch k ≡ true → true ≡ switch_code (code_from b c)
  switch_named k it t = sym (both it.0 (ap is_switch it.1 ∙ t))

  step_named : (k : RadioCommand) → Names b c small k → is_switch k ≡ false → true ≡ step_code (code_from b c)
  step_named k it t = sym (both it.0 (ap (λ (x : Bool). not x) (ap is_switch it.1 ∙ t)))

  pub switch_told : ((ltb c 128 && eqb (bit_and b 11) 0) && eqb (c % 8) 0) ≡ switch_code (code_from b c)
  switch_told = go (ltb c 128) (eqb (bit_and b 11) 0) (eqb (c % 8) 0) (eqb (c / 32 % 2) 0) refl refl refl refl
    where
      go : (w x y on : Bool) → ltb c 128 ≡ w → eqb (bit_and b 11) 0 ≡ x → eqb (c % 8) 0 ≡ y → eqb (c / 32 % 2) 0 ≡ on
          → ((w && x) && y) ≡ switch_code (code_from b c)
      go true true true true l p q z =
          let pb = low_clear b (eqb-true (bit_and b 11) 0 p) in
          switch_named _ (on_named b c small (ltb-true c 128 l) pb (eqb-true (c % 8) 0 q) (eqb-true (c / 32 % 2) 0 z)) refl
      go true true true false l p q z =
          let pb = low_clear b (eqb-true (bit_and b 11) 0 p) in
          switch_named _ (off_named b c small (ltb-true c 128 l) pb (eqb-true (c % 8) 0 q) (eqb-false (c / 32 % 2) 0 z)) refl
      go true true false on l p q z = sym (not-one _ (λ t. eqb-false (c % 8) 0 q (of_switch b c t).2))
      go true false y on l p q z = sym (not-one _ (λ t. eqb-false (bit_and b 11) 0 p (low_masked b (of_switch b c t).1)))
      go false x y on l p q z = sym (not-one _ (λ t. let low = (of_switch b c t).0 in absurd (omega (arith, ltb-false c 128 l))))

  pub step_told : (eqb (b % 16) 0 && (eqb c 136 || eqb c 152)) ≡ step_code (code_from b c)
  step_told = go (eqb (b % 16) 0) (eqb c 136) (eqb c 152) refl refl refl
    where
      go : (x y z : Bool) → eqb (b % 16) 0 ≡ x → eqb c 136 ≡ y → eqb c 152 ≡ z → (x && (y || z)) ≡ step_code (code_from b c)
      go true true z p q r = step_named _ (bright_named b c small (eqb-true (b % 16) 0 p) (eqb-true c 136 q)) refl
      go true false true p q r = step_named _ (dim_named b c small (eqb-true (b % 16) 0 p) (eqb-true c 152 r)) refl
      go true false false p q r = sym (not-one _ (λ t. ⊎_elim (eqb-false c 136 q) (eqb-false c 152 r) (of_step_lem b c t).1))
      go false y z p q r = sym (not-one _ (λ t. eqb-false (b % 16) 0 p (of_step_lem b c t).0))

-- ---- what the reader answers for b and c

module _ (b c : ℕ) where
  pub answered : (k : RadioCommand) → (among (code_from b c) ≡ true) × (command_of (code_from b c) ≡ k) → Ok k ≡ named_answer (code_from b c)
  unfolding judged
  answered k it = simp (it.0, it.1)

  pub unanswered : switch_code (code_from b c) ≡ false → step_code (code_from b c) ≡ false → Err refusal.Code ≡ named_answer (code_from b c)
  unfolding judged
  unanswered switch step = simp (go (among (code_from b c)) (is_switch (command_of (code_from b c))) switch step)
    where
      go : (a s : Bool) → (a && s) ≡ false → (a && not s) ≡ false → a ≡ false
      go true true p q = p
      go true false p q = q
      go false s p q = refl
