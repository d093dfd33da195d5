-- A turned bit of a code. Turning a bit is an exclusive or; the exclusive or of two units has, in b and in c, the exclusive or of their bits,
-- whatever the second unit is, and a weight has one bit there. A byte's complement has every bit of the byte turned, so its own bit turns
-- with it.
--
--     turned_xor       a turned bit as an exclusive or
--     moved_below      a unit that one of its bits moves stays below 16
--     turned_code      a code with one of the unit's bits turned
use mathlib.Core.Path.{◌≡◌, refl, sym, ap, ap₂, subst, ◌∙◌}
use mathlib.Core.Bool.{Bool, true, ◌&&◌, and-eq-true_iff}
use mathlib.Core.List.{List, [], ◌∷◌, Memᴰ}
use Prim.Native.Nat.{ℕ, zero, suc, ◌+◌, ◌-◌, ◌*◌, ◌/◌, ◌%◌, ◌^◌, ◌<◌}
use native.Mathlib.Nat.{zero-add, add-zero, suc-add, pow-suc}
use native.Mathlib.Omega.{arith}
use borrow.Author.Tests.{eqb-true, ltb-true}
use lib.Bits.{bit_and, bit_xor, and_high, and_mask, xor_add_and, xor_block, xor_shr, xor_mod, xor_lt, xor_zero_r}
use lib.Dec.{eqb, ltb}
use lib.Pow.{pow_pos}
use Rattle.ground.specs.Choice.{pick}
use Rattle.message.specs.Codes.{place_in}
use Rattle.message.proofs.Tables.{every_from}
use Rattle.radio.specs.Codes.{Place, b's, c's, UnitBit, its, unit_bits, nibble_of, house_in_b, unit_in_b, unit_in_c, code_from}
use Rattle.radio.specs.Statements.{turned, TurnedIsXor, turned_at}
use Rattle.radio.proofs.CodeLaws.{bit_below, nibble_below}
use Rattle.radio.proofs.CommandLaws.{every_mem}

-- ---- one bit

-- an exclusive or with 2 ^ k, by the bit that stands there
xor_bit : (k n : ℕ) → bit_xor n (2 ^ k) + n / 2 ^ k % 2 * 2 ^ k * 2 ≡ n + 2 ^ k
xor_bit k n =
    let double : 2 ^ (1 + k) ≡ 2 ^ k * 2 = ap (λ (j : ℕ). 2 ^ j) (suc-add zero k ∙ ap suc (zero-add k)) ∙ pow-suc 2 k in
    let alone : 2 ^ k ≡ 2 ^ (1 + k) - 2 ^ k = omega (arith, double) in
    let masked : bit_and n (2 ^ k) ≡ n / 2 ^ k % 2 * 2 ^ k = ap (bit_and n) alone ∙ and_high n 1 k in
    ap (λ (m : ℕ). bit_xor n (2 ^ k) + m * 2) (sym masked) ∙ xor_add_and n (2 ^ k)

pub turned_xor : TurnedIsXor
turned_xor k n = go (n / 2 ^ k % 2) (bit_below (n / 2 ^ k)) (xor_bit k n)
  where
    go : (d : ℕ) → d < 2 → bit_xor n (2 ^ k) + d * 2 ^ k * 2 ≡ n + 2 ^ k → pick (eqb d 0) (n + 2 ^ k) (n - 2 ^ k) ≡ bit_xor n (2 ^ k)
    go zero l e = omega arith
    go (suc zero) l e = omega arith
    go (suc (suc d)) l e = absurd (omega arith)

-- ---- the complement

digit_xor : (k m n : ℕ) → bit_xor m n / 2 ^ k % 2 ≡ bit_xor (m / 2 ^ k % 2) (n / 2 ^ k % 2)
digit_xor k m n = ap (λ (x : ℕ). x % 2) (xor_shr m n k) ∙ xor_mod (m / 2 ^ k) (n / 2 ^ k) 1

-- a byte's complement has every bit turned
all_turned : (n : ℕ) → n < 256 → 255 - n ≡ bit_xor n 255
all_turned n l = let sum = xor_add_and n 255 in let whole = and_mask n 8 in omega arith

complement_turned : (k n : ℕ) → n < 256 → 255 / 2 ^ k % 2 ≡ 1 → bit_xor (255 - n) (2 ^ k) ≡ 255 - bit_xor n (2 ^ k)
complement_turned k n l set =
    go (n / 2 ^ k % 2) (bit_below (n / 2 ^ k)) (xor_bit k n)
    (subst (λ (d : ℕ). bit_xor (255 - n) (2 ^ k) + d * 2 ^ k * 2 ≡ 255 - n + 2 ^ k) other (xor_bit k (255 - n)))
  where
    other : (255 - n) / 2 ^ k % 2 ≡ bit_xor (n / 2 ^ k % 2) 1
    other = ap (λ (m : ℕ). m / 2 ^ k % 2) (all_turned n l) ∙ digit_xor k n 255 ∙ ap (bit_xor (n / 2 ^ k % 2)) set

    go : (d : ℕ) → d < 2 → bit_xor n (2 ^ k) + d * 2 ^ k * 2 ≡ n + 2 ^ k → bit_xor (255 - n) (2 ^ k) + bit_xor d 1 * 2 ^ k * 2 ≡ 255 - n + 2 ^ k
        → bit_xor (255 - n) (2 ^ k) ≡ 255 - bit_xor n (2 ^ k)
    go zero low e f = omega arith
    go (suc zero) low e f = omega arith
    go (suc (suc d)) low e f = absurd (omega arith)

-- ---- b and c of a unit that is moved

shift : (k a b : ℕ) → bit_xor (a * 2 ^ k) (b * 2 ^ k) ≡ bit_xor a b * 2 ^ k
shift k a b =
    ap₂ bit_xor (sym (add-zero (a * 2 ^ k))) (sym (add-zero (b * 2 ^ k)))
    ∙ xor_block k a b 0 0 (pow_pos k) (pow_pos k)
    ∙ add-zero (bit_xor a b * 2 ^ k)

-- what stands above the bits of s stays
above : (k a r s : ℕ) → r < 2 ^ k → s < 2 ^ k → bit_xor (a * 2 ^ k + r) s ≡ a * 2 ^ k + bit_xor r s
above k a r s hr hs =
    let none : s ≡ 0 * 2 ^ k + s = omega arith in
    ap (bit_xor (a * 2 ^ k + r)) none
    ∙ xor_block k a 0 r s hr hs
    ∙ ap (λ (x : ℕ). x * 2 ^ k + bit_xor r s) (xor_zero_r a)

b_xor : (n u v : ℕ) → bit_xor (n * 16 + unit_in_b u) (unit_in_b v) ≡ n * 16 + unit_in_b (bit_xor u v)
b_xor n u v =
    let eight = digit_xor 3 u v in
    let one : unit_in_b u ≡ u / 8 % 2 * 4 = omega arith in
    let other : unit_in_b v ≡ v / 8 % 2 * 4 = omega arith in
    let both = shift 2 (u / 8 % 2) (v / 8 % 2) in
    above 4 n (unit_in_b u) (unit_in_b v) (omega arith) (omega arith)
    ∙ ap (λ (x : ℕ). n * 16 + x) (ap₂ bit_xor one other ∙ both ∙ omega arith)

-- c's bits 5, 4 and 3: off, the unit's 1 and its 2
low : (f o t o' t' : ℕ) → o < 2 → t < 2 → o' < 2 → t' < 2 → bit_xor (f * 4 + (o * 2 + t)) (o' * 2 + t') ≡ f * 4 + (bit_xor o o' * 2 + bit_xor t t')
low f o t o' t' ho ht ho' ht' =
    above 2 f (o * 2 + t) (o' * 2 + t') (omega arith) (omega arith)
    ∙ ap (λ (x : ℕ). f * 4 + x) (xor_block 1 o o' t t' ht ht')

c_xor : (f u v : ℕ) → f < 2 → bit_xor (unit_in_c u + f * 32) (unit_in_c v) ≡ unit_in_c (bit_xor u v) + f * 32
c_xor f u v hf =
    let four = digit_xor 2 u v in
    let two = digit_xor 1 u v in
    let one = digit_xor 0 u v in
    let r = f * 4 + (u / 1 % 2 * 2 + u / 2 % 2) in
    let s = v / 1 % 2 * 2 + v / 2 % 2 in
    let mine : unit_in_c u + f * 32 ≡ (u / 4 % 2 * 8 + r) * 8 = omega arith in
    let other : unit_in_c v ≡ (v / 4 % 2 * 8 + s) * 8 = omega arith in
    let whole = shift 3 (u / 4 % 2 * 8 + r) (v / 4 % 2 * 8 + s) in
    let high = xor_block 3 (u / 4 % 2) (v / 4 % 2) r s (omega arith) (omega arith) in
    let below = low f (u / 1 % 2) (u / 2 % 2) (v / 1 % 2) (v / 2 % 2) (bit_below (u / 1)) (bit_below (u / 2)) (bit_below (v / 1)) (bit_below (v / 2)) in
    ap₂ bit_xor mine other ∙ whole ∙ omega arith

-- ---- the four bits of the rule

-- a place's number, and the byte b, or c, that has this bit alone
abbrev number : Place → ℕ
number (b's i) = i
number (c's i) = i

abbrev alone_b : Place → ℕ
alone_b (b's i) = 2 ^ i
alone_b (c's i) = 0

abbrev alone_c : Place → ℕ
alone_c (b's i) = 0
alone_c (c's i) = 2 ^ i

-- the k of a weight 2 ^ k
unfoldable exponent : ℕ → ℕ
exponent w = place_in eqb w (1 ∷ 2 ∷ 4 ∷ 8 ∷ [])

-- a weight is a power of two below 16, its place is one of a byte's eight, and a unit of this weight alone has this bit alone
record Alone (w : ℕ) (p : Place) : Type 0 where
  power : 2 ^ exponent w ≡ w
  small : w < 16
  within : 255 / 2 ^ number p % 2 ≡ 1
  in_b : unit_in_b w ≡ alone_b p
  in_c : unit_in_c w ≡ alone_c p

-- one test of the four
abbrev is_alone : UnitBit → Bool
is_alone (its w p) =
    eqb (2 ^ exponent w) w
    && (ltb w 16
    && (eqb (255 / 2 ^ number p % 2) 1
    && (eqb (unit_in_b w) (alone_b p)
    && eqb (unit_in_c w) (alone_c p))))

each_alone : every_from (λ i x. is_alone x) 0 unit_bits ≡ true
unfolding exponent place_in
each_alone = refl

alone : (w : ℕ) (p : Place) → Memᴰ (its w p) unit_bits → Alone w p
alone w p m =
    let t = (and-eq-true_iff (eqb (2 ^ exponent w) w) _).0 (every_mem is_alone unit_bits 0 each_alone m) in
    let t₁ = (and-eq-true_iff (ltb w 16) _).0 t.1 in
    let t₂ = (and-eq-true_iff (eqb (255 / 2 ^ number p % 2) 1) _).0 t₁.1 in
    let t₃ = (and-eq-true_iff (eqb (unit_in_b w) (alone_b p)) _).0 t₂.1 in
    record {
      power = eqb-true (2 ^ exponent w) w t.0;
      small = ltb-true w 16 t₁.0;
      within = eqb-true (255 / 2 ^ number p % 2) 1 t₂.0;
      in_b = eqb-true (unit_in_b w) (alone_b p) t₃.0;
      in_c = eqb-true (unit_in_c w) (alone_c p) t₃.1;
    }

-- a byte and its complement with the same bit turned
pair_turned : (k n m : ℕ) → n < 256 → 255 / 2 ^ k % 2 ≡ 1 → m ≡ bit_xor n (2 ^ k) → (turned (2 ^ k) n ≡ m) × (turned (2 ^ k) (255 - n) ≡ 255 - m)
pair_turned k n m l within e =
    (turned_xor k n ∙ sym e, turned_xor k (255 - n) ∙ complement_turned k n l within ∙ ap (λ (x : ℕ). 255 - x) (sym e))

four_same : {b x c y b' x' c' y' : ℕ} → b ≡ b' → x ≡ x' → c ≡ c' → y ≡ y'
    → ◌≡◌ {A = List ℕ} (b ∷ x ∷ c ∷ y ∷ []) (b' ∷ x' ∷ c' ∷ y' ∷ [])
four_same p q r s = cc

module _ (w u : ℕ) (p : Place) where
  moved : Alone w p → turned w u ≡ bit_xor u w
  moved a = subst (λ (v : ℕ). turned v u ≡ bit_xor u v) a.power (turned_xor (exponent w) u)

  pub moved_below : Memᴰ (its w p) unit_bits → u < 16 → turned w u < 16
  moved_below m l = let a = alone w p m in subst (λ (v : ℕ). v < 16) (sym (moved a)) (xor_lt 4 u w l a.small)

module _ (w h u c c' f : ℕ) (hf : f < 2) (is : c ≡ unit_in_c u + f * 32) (is' : c' ≡ unit_in_c (turned w u) + f * 32) where
  -- b before, and after
  abbrev b : ℕ
  b = house_in_b h + unit_in_b u

  abbrev b' : ℕ
  b' = house_in_b h + unit_in_b (turned w u)

  module _ (p : Place) (a : Alone w p) where
    b_moved : b' ≡ bit_xor b (alone_b p)
    b_moved = ap (λ (v : ℕ). house_in_b h + unit_in_b v) (moved w u p a) ∙ sym (b_xor (nibble_of h) u w) ∙ ap (bit_xor b) a.in_b

    c_moved : c' ≡ bit_xor c (alone_c p)
    c_moved = is' ∙ ap (λ (v : ℕ). unit_in_c v + f * 32) (moved w u p a) ∙ sym (c_xor f u w hf) ∙ ap₂ bit_xor (sym is) a.in_c

  pub turned_code : (p : Place) → Memᴰ (its w p) unit_bits → turned_at p b (255 - b) c (255 - c) ≡ code_from b' c'
  turned_code (b's i) m =
      let a = alone w (b's i) m in
      let pair = pair_turned i b b' (omega (arith, nibble_below h)) a.within (b_moved (b's i) a) in
      let same : c ≡ c' = sym (c_moved (b's i) a ∙ xor_zero_r c) in
      four_same pair.0 pair.1 same (ap (λ (n : ℕ). 255 - n) same)
  turned_code (c's i) m =
      let a = alone w (c's i) m in
      let pair = pair_turned i c c' (omega arith) a.within (c_moved (c's i) a) in
      let same : b ≡ b' = sym (b_moved (c's i) a ∙ xor_zero_r b) in
      four_same same (ap (λ (n : ℕ). 255 - n) same) pair.0 pair.1
