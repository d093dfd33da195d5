-- Laws of the quick test of a record. A bitwise operation on numbers of four bytes is that of each byte; what is asked of a byte is one
-- computed test of all 256.
--
--     or-none, and_word, xor_word, word_none        bitwise operations, byte by byte
--     word_shifted                                  a number from its bytes shifted
--     sound                                         a record in whose words no fault is found keeps the rules
use mathlib.Core.Path.{◌≡◌, refl, sym, ap, ap₂, ◌∙◌}
use mathlib.Core.Bool.{Bool, true, false, not, ◌&&◌, ◌||◌, and-eq-true_iff, false≢true}
use mathlib.Core.List.{List}
use Prim.Native.Nat.{ℕ, ◌+◌, ◌-◌, ◌*◌, ◌/◌, ◌%◌, ◌^◌, ◌≤◌, ◌<◌}
use native.Mathlib.Nat.{add-zero}
use native.Mathlib.Omega.{arith}
use native.Mathlib.Numerals.{add-one}
use borrow.Author.Tests.{eq-eqb, eqb-true, leb-true}
use lib.Bits.{bit_and, bit_or, bit_xor, and_le_l, and_le_r, or_add_and, and_block, xor_block, xor_lt, or_shifted_r}
use lib.Dec.{eqb, leb}
use lib.ListN.{get_or, take, drop}
use lib.Seq.{get_or-take, get_or-drop}
use Rattle.ground.specs.Choice.{pick}
use Rattle.ground.specs.Records.{all_below, each_ok}
use Rattle.ground.proofs.Choices.{both}
use Rattle.ground.proofs.Records.{below_at}
use Rattle.plan.specs.Plans.{bit}
use Rattle.record.specs.declared.Record.{Record}
use Rattle.record.specs.Layout.{GROUPS, RECORD_BYTES, UNITS, record_at, modules, preset, reference}
use Rattle.record.specs.ModuleTable.{level_ok, preset_ok, reference_ok, groups_ok, record_ok, lit_of}
use Rattle.record.proofs.RecordLaws.{bare_ok}
use Rattle.module_table.proofs.TableLaws.{preset_at, reference_at}
use Rattle.module_table.specs.Quick.{word, WordOf, InWords}

-- ---- bitwise operations, byte by byte

pub or-none : (a b : ℕ) → bit_or a b ≡ 0 → (a ≡ 0) × (b ≡ 0)
or-none a b e =
    let sum = or_add_and a b in
    let left = and_le_l a b in
    let right = and_le_r a b in (omega (arith, sum, left, right, e), omega (arith, sum, left, right, e))

-- four bytes, the highest first
nested : (a b c d : ℕ) → word a b c d ≡ ((d * 256 + c) * 256 + b) * 256 + a
nested a b c d = omega arith

-- an operation that goes block by block goes byte by byte
module _ (op : ℕ → ℕ → ℕ) (block : (k a b r s : ℕ) → r < 2 ^ k → s < 2 ^ k → op (a * 2 ^ k + r) (b * 2 ^ k + s) ≡ op a b * 2 ^ k + op r s) where
  by_bytes : (a b c d e f g h : ℕ) → a < 256 → b < 256 → c < 256 → e < 256 → f < 256 → g < 256
      → op (word a b c d) (word e f g h) ≡ word (op a e) (op b f) (op c g) (op d h)
  by_bytes a b c d e f g h ha hb hc he hf hg =
      ap₂ op (nested a b c d) (nested e f g h)
      ∙ block 8 ((d * 256 + c) * 256 + b) ((h * 256 + g) * 256 + f) a e ha he
      ∙ ap (λ (x : ℕ). x * 256 + op a e)
      (block 8 (d * 256 + c) (h * 256 + g) b f hb hf ∙ ap (λ (x : ℕ). x * 256 + op b f) (block 8 d h c g hc hg))
      ∙ sym (nested (op a e) (op b f) (op c g) (op d h))

and_word : (a b c d e f g h : ℕ) → a < 256 → b < 256 → c < 256 → e < 256 → f < 256 → g < 256
    → bit_and (word a b c d) (word e f g h) ≡ word (bit_and a e) (bit_and b f) (bit_and c g) (bit_and d h)
and_word = by_bytes bit_and and_block

xor_word : (a b c d e f g h : ℕ) → a < 256 → b < 256 → c < 256 → e < 256 → f < 256 → g < 256
    → bit_xor (word a b c d) (word e f g h) ≡ word (bit_xor a e) (bit_xor b f) (bit_xor c g) (bit_xor d h)
xor_word = by_bytes bit_xor xor_block

word_none : (a b c d : ℕ) → word a b c d ≡ 0 → (a ≡ 0) × (b ≡ 0) × (c ≡ 0) × (d ≡ 0)
word_none a b c d e = (omega arith, omega arith, omega arith, omega arith)

-- the bytes of a number
low_byte : (w a b c d : ℕ) → WordOf w a b c d → w % 256 ≡ a
low_byte w a b c d is = let e : w ≡ (b + c * 256 + d * 65536) * 256 + a = is.value ∙ omega arith in omega (arith, e, is.first)

pub second_byte_lem : (w a b c d : ℕ) → WordOf w a b c d → w / 256 % 256 ≡ b
second_byte_lem w a b c d is =
    let e : w ≡ (b + c * 256 + d * 65536) * 256 + a = is.value ∙ omega arith in
    let rest : w / 256 ≡ (c + d * 256) * 256 + b = omega (arith, e, is.first) in
    ap (λ (x : ℕ). x % 256) rest ∙ omega (arith, is.second)

top_byte : (w a b c d : ℕ) → WordOf w a b c d → w / 16777216 ≡ d
top_byte w a b c d is = let e = is.value in omega (arith, e, is.first, is.second, is.third)

-- a number from its bytes shifted
pub word_shifted : (a b c d : ℕ) → a < 256 → b < 256 → c < 256 → d < 256
    → bit_or (bit_or (bit_or a (b * 256 % 4294967296)) (c * 65536 % 4294967296)) (d * 16777216 % 4294967296) ≡ word a b c d
word_shifted a b c d ha hb hc hd =
    let second : b * 256 % 4294967296 ≡ b * 256 = omega arith in
    let third : c * 65536 % 4294967296 ≡ c * 65536 = omega arith in
    let fourth : d * 16777216 % 4294967296 ≡ d * 16777216 = omega arith in
    let two : bit_or a (b * 256 % 4294967296) ≡ b * 256 + a = ap (bit_or a) second ∙ or_shifted_r b 8 a ha in
    let three : bit_or (bit_or a (b * 256 % 4294967296)) (c * 65536 % 4294967296) ≡ c * 65536 + (b * 256 + a) =
    ap₂ bit_or two third ∙ or_shifted_r c 16 (b * 256 + a) (omega arith) in
    ap₂ bit_or three fourth ∙ or_shifted_r d 24 (c * 65536 + (b * 256 + a)) (omega arith) ∙ omega arith

-- ---- what is asked of one byte

-- the first test gives the second
abbrev gives : Bool → Bool → Bool
gives a b = not a || b

given : (a b : Bool) → gives a b ≡ true → a ≡ true → b ≡ true
given true b e h = e
given false b e h = absurd (false≢true h)

abbrev one : Bool → ℕ
one b = pick b 1 0

abbrev none : ℕ → Bool
none n = eqb n 0

abbrev kind_test : ℕ → Bool
kind_test k = gives (none (bit_and k 252) && none (bit_and k (k / 2))) (leb k 2)

kind_tested : all_below 256 kind_test ≡ true
unfolding all_below
kind_tested = refl

-- a number of at most j bits
abbrev narrow_test : ℕ → ℕ → Bool
narrow_test j x = gives (none (bit_and x (256 - 2 ^ j))) (leb x (2 ^ j - 1))

narrow_tested : all_below 8 (λ j. all_below 256 (narrow_test j)) ≡ true
unfolding all_below
narrow_tested = refl

-- a level, of a module of a kind that there is
abbrev level_test : ℕ → ℕ → Bool
level_test k x = gives (none (bit_and x 192) && none (bit_and (bit_xor x (x % 2 * 63)) (k / 2 % 2 * 63))) (level_ok k x)

level_tested : all_below 3 (λ k. all_below 256 (level_test k)) ≡ true
unfolding all_below
level_tested = refl

-- a preset, of a member and of another
abbrev preset_test : ℕ → Bool → ℕ → Bool
preset_test k b x = gives (none (bit_and x (255 - one b * 63)) && none (bit_and (bit_xor x (bit_and x 1 * 63)) (k / 2 % 2 * 63))) (preset_ok k b x)

preset_tested : all_below 3 (λ k. all_below 256 (λ x. preset_test k true x && preset_test k false x)) ≡ true
unfolding all_below
preset_tested = refl

-- a reference
abbrev reference_test : Bool → ℕ → Bool
reference_test b x = gives (none (bit_and x (255 - one b * 31)) && none (bit_and (bit_and x 31 + 15) 32)) (reference_ok b x)

reference_tested : all_below 256 (λ x. reference_test true x && reference_test false x) ≡ true
unfolding all_below
reference_tested = refl

-- the mask's bits, one in each byte
abbrev members_test : ℕ → Bool
members_test m = eqb (bit_and (m * 2113665) 16843009) (word (one (bit 0 m)) (one (bit 1 m)) (one (bit 2 m)) (one (bit 3 m)))

members_tested : all_below 16 members_test ≡ true
unfolding all_below
members_tested = refl

-- two tests at once
two : (a b : ℕ) (t : Bool) → gives (none a && none b) t ≡ true → a ≡ 0 → b ≡ 0 → t ≡ true
two a b t e x y = given (none a && none b) t e (both (eq-eqb a 0 x) (eq-eqb b 0 y))

kind_fits : (k : ℕ) → k < 256 → bit_and k 252 ≡ 0 → bit_and k (k / 2) ≡ 0 → leb k 2 ≡ true
kind_fits k h x y = two (bit_and k 252) (bit_and k (k / 2)) (leb k 2) (below_at kind_test 256 kind_tested k h) x y

narrow_fits : (j x : ℕ) → j < 8 → x < 256 → bit_and x (256 - 2 ^ j) ≡ 0 → leb x (2 ^ j - 1) ≡ true
narrow_fits j x hj hx e =
    given (none (bit_and x (256 - 2 ^ j))) (leb x (2 ^ j - 1))
    (below_at (narrow_test j) 256 (below_at (λ i. all_below 256 (narrow_test i)) 8 narrow_tested j hj) x hx)
    (eq-eqb (bit_and x (256 - 2 ^ j)) 0 e)

level_fits : (k x : ℕ) → k < 3 → x < 256 → bit_and x 192 ≡ 0 → bit_and (bit_xor x (x % 2 * 63)) (k / 2 % 2 * 63) ≡ 0 → level_ok k x ≡ true
level_fits k x hk hx e f =
    two (bit_and x 192) (bit_and (bit_xor x (x % 2 * 63)) (k / 2 % 2 * 63)) (level_ok k x)
    (below_at (level_test k) 256 (below_at (λ j. all_below 256 (level_test j)) 3 level_tested k hk) x hx) e f

-- what holds of a member and of another
either : (f : Bool → Bool) (b : Bool) → (f true && f false) ≡ true → f b ≡ true
either f true e = ((and-eq-true_iff (f true) (f false)).0 e).0
either f false e = ((and-eq-true_iff (f true) (f false)).0 e).1

preset_fits : (k x : ℕ) (b : Bool) → k < 3 → x < 256 → bit_and x (255 - one b * 63) ≡ 0 → bit_and (bit_xor x (bit_and x 1 * 63)) (k / 2 % 2 * 63) ≡ 0
    → preset_ok k b x ≡ true
preset_fits k x b hk hx e f =
    two (bit_and x (255 - one b * 63)) (bit_and (bit_xor x (bit_and x 1 * 63)) (k / 2 % 2 * 63)) (preset_ok k b x)
    (either (λ c. preset_test k c x) b
    (below_at (λ y. preset_test k true y && preset_test k false y) 256
    (below_at (λ j. all_below 256 (λ y. preset_test j true y && preset_test j false y)) 3 preset_tested k hk) x hx)) e f

reference_fits : (x : ℕ) (b : Bool) → x < 256 → bit_and x (255 - one b * 31) ≡ 0 → bit_and (bit_and x 31 + 15) 32 ≡ 0 → reference_ok b x ≡ true
reference_fits x b hx e f =
    two (bit_and x (255 - one b * 31)) (bit_and (bit_and x 31 + 15) 32) (reference_ok b x)
    (either (λ c. reference_test c x) b (below_at (λ y. reference_test true y && reference_test false y) 256 reference_tested x hx)) e f

members_are : (m : ℕ) → m < 16 → bit_and (m * 2113665) 16843009 ≡ word (one (bit 0 m)) (one (bit 1 m)) (one (bit 2 m)) (one (bit 3 m))
members_are m h = eqb-true _ _ (below_at members_test 16 members_tested m h)

-- ---- what is asked of four at once

fields_sound : (k l a m : ℕ) → k < 256 → l < 256 → a < 256 → m < 256 → bit_and (word k l a m) 4043227388 ≡ 0
    → bit_and k (k / 2) ≡ 0 → bit_and (bit_xor l (l % 2 * 63)) (k / 2 % 2 * 63) ≡ 0
    → (leb k 2 ≡ true) × (level_ok k l ≡ true) × (leb a 1 ≡ true) × (leb m 15 ≡ true)
fields_sound k l a m hk hl ha hm e three all-or-none =
    let each = word_none (bit_and k 252) (bit_and l 192) (bit_and a 254) (bit_and m 240)
    (sym (and_word k l a m 252 192 254 240 hk hl ha (omega arith) (omega arith) (omega arith)) ∙ e) in
    let kind = kind_fits k hk each.0 three in
    let low : k ≤ 2 = leb-true k 2 kind in
    (kind, level_fits k l (omega arith) hl each.1 all-or-none, narrow_fits 1 a (omega arith) ha each.2, narrow_fits 4 m (omega arith) hm each.3)

-- the bytes of what is left of all ones
left_of : (n : ℕ) (b c d e : Bool) → n ≤ 255
    → 4294967295 - word (one b) (one c) (one d) (one e) * n ≡ word (255 - one b * n) (255 - one c * n) (255 - one d * n) (255 - one e * n)
left_of n b c d e h =
    let spread : word (one b) (one c) (one d) (one e) * n ≡ word (one b * n) (one c * n) (one d * n) (one e * n) = omega arith in
    omega (arith, spread, low b, low c, low d, low e)
  where
    low : (b : Bool) → one b * n ≤ 255
    low true = omega arith
    low false = omega arith

module _ (k : ℕ) (b₀ b₁ b₂ b₃ : Bool) (x₀ x₁ x₂ x₃ : ℕ) (h₀ : x₀ < 256) (h₁ : x₁ < 256) (h₂ : x₂ < 256) (h₃ : x₃ < 256) where
  -- no bit outside those that a member may have
  within : (n : ℕ) → n ≤ 255 → bit_and (word x₀ x₁ x₂ x₃) (4294967295 - word (one b₀) (one b₁) (one b₂) (one b₃) * n) ≡ 0
      → (bit_and x₀ (255 - one b₀ * n) ≡ 0) × (bit_and x₁ (255 - one b₁ * n) ≡ 0) × (bit_and x₂ (255 - one b₂ * n) ≡ 0) × (bit_and x₃ (255 - one b₃ * n) ≡ 0)
  within n h e =
      word_none _ _ _ _
      (sym (ap (bit_and (word x₀ x₁ x₂ x₃)) (left_of n b₀ b₁ b₂ b₃ h)
      ∙ and_word x₀ x₁ x₂ x₃ (255 - one b₀ * n) (255 - one b₁ * n) (255 - one b₂ * n) (255 - one b₃ * n) h₀ h₁ h₂
      (omega arith) (omega arith) (omega arith)) ∙ e)

  presets_sound : k < 3 → bit_and (word x₀ x₁ x₂ x₃) (4294967295 - word (one b₀) (one b₁) (one b₂) (one b₃) * 63) ≡ 0
      → bit_and (bit_xor (word x₀ x₁ x₂ x₃) (bit_and (word x₀ x₁ x₂ x₃) 16843009 * 63)) (k / 2 % 2 * 1061109567) ≡ 0
      → (preset_ok k b₀ x₀ ≡ true) × (preset_ok k b₁ x₁ ≡ true) × (preset_ok k b₂ x₂ ≡ true) × (preset_ok k b₃ x₃ ≡ true)
  presets_sound hk e f =
      let low = within 63 (omega arith) e in
      let app = k / 2 % 2 in
      let most : app ≤ 1 = omega arith in
      let l₀ = and_le_r x₀ 1 in
      let l₁ = and_le_r x₁ 1 in
      let l₂ = and_le_r x₂ 1 in
      let l₃ = and_le_r x₃ 1 in
      let ones : bit_and (word x₀ x₁ x₂ x₃) 16843009 * 63 ≡ word (bit_and x₀ 1 * 63) (bit_and x₁ 1 * 63) (bit_and x₂ 1 * 63) (bit_and x₃ 1 * 63) =
      ap (λ (y : ℕ). y * 63) (and_word x₀ x₁ x₂ x₃ 1 1 1 1 h₀ h₁ h₂ (omega arith) (omega arith) (omega arith)) ∙ omega arith in
      let full : app * 1061109567 ≡ word (app * 63) (app * 63) (app * 63) (app * 63) = omega arith in
      let turned = xor_word x₀ x₁ x₂ x₃ (bit_and x₀ 1 * 63) (bit_and x₁ 1 * 63) (bit_and x₂ 1 * 63) (bit_and x₃ 1 * 63) h₀ h₁ h₂
      (omega (arith, l₀)) (omega (arith, l₁)) (omega (arith, l₂)) in
      let all = word_none _ _ _ _
      (sym (ap₂ bit_and (ap (bit_xor (word x₀ x₁ x₂ x₃)) ones ∙ turned) full
      ∙ and_word (bit_xor x₀ (bit_and x₀ 1 * 63)) (bit_xor x₁ (bit_and x₁ 1 * 63)) (bit_xor x₂ (bit_and x₂ 1 * 63)) (bit_xor x₃ (bit_and x₃ 1 * 63))
      (app * 63) (app * 63) (app * 63) (app * 63)
      (xor_lt 8 x₀ (bit_and x₀ 1 * 63) h₀ (omega (arith, l₀))) (xor_lt 8 x₁ (bit_and x₁ 1 * 63) h₁ (omega (arith, l₁)))
      (xor_lt 8 x₂ (bit_and x₂ 1 * 63) h₂ (omega (arith, l₂)))
      (omega arith) (omega arith) (omega arith)) ∙ f) in (
        preset_fits k x₀ b₀ hk h₀ low.0 all.0,
        preset_fits k x₁ b₁ hk h₁ low.1 all.1,
        preset_fits k x₂ b₂ hk h₂ low.2 all.2,
        preset_fits k x₃ b₃ hk h₃ low.3 all.3,
      )

  references_sound : bit_and (word x₀ x₁ x₂ x₃) (4294967295 - word (one b₀) (one b₁) (one b₂) (one b₃) * 31) ≡ 0
      → bit_and (bit_and (word x₀ x₁ x₂ x₃) 522133279 + 252645135) 538976288 ≡ 0
      → (reference_ok b₀ x₀ ≡ true) × (reference_ok b₁ x₁ ≡ true) × (reference_ok b₂ x₂ ≡ true) × (reference_ok b₃ x₃ ≡ true)
  references_sound e f =
      let low = within 31 (omega arith) e in
      let l₀ = and_le_r x₀ 31 in
      let l₁ = and_le_r x₁ 31 in
      let l₂ = and_le_r x₂ 31 in
      let more : bit_and (word x₀ x₁ x₂ x₃) 522133279 + 252645135 ≡ word (bit_and x₀ 31 + 15) (bit_and x₁ 31 + 15) (bit_and x₂ 31 + 15) (bit_and x₃ 31 + 15) =
      ap (λ (y : ℕ). y + 252645135) (and_word x₀ x₁ x₂ x₃ 31 31 31 31 h₀ h₁ h₂ (omega arith) (omega arith) (omega arith)) ∙ omega arith in
      let all = word_none _ _ _ _
      (sym (ap (λ (y : ℕ). bit_and y 538976288) more
      ∙ and_word (bit_and x₀ 31 + 15) (bit_and x₁ 31 + 15) (bit_and x₂ 31 + 15) (bit_and x₃ 31 + 15) 32 32 32 32
      (omega (arith, l₀)) (omega (arith, l₁)) (omega (arith, l₂)) (omega arith) (omega arith) (omega arith)) ∙ f) in (
        reference_fits x₀ b₀ h₀ low.0 all.0,
        reference_fits x₁ b₁ h₁ low.1 all.1,
        reference_fits x₂ b₂ h₂ low.2 all.2,
        reference_fits x₃ b₃ h₃ low.3 all.3,
      )

-- ---- a record

or_eight : (a b c d e f g h : ℕ) → bit_or (bit_or (bit_or (bit_or (bit_or (bit_or (bit_or a b) c) d) e) f) g) h ≡ 0
    → (a ≡ 0) × (b ≡ 0) × (c ≡ 0) × (d ≡ 0) × (e ≡ 0) × (f ≡ 0) × (g ≡ 0) × (h ≡ 0)
or_eight a b c d e f g h none' =
    let seven = or-none (bit_or (bit_or (bit_or (bit_or (bit_or (bit_or a b) c) d) e) f) g) h none' in
    let six = or-none (bit_or (bit_or (bit_or (bit_or (bit_or a b) c) d) e) f) g seven.0 in
    let five = or-none (bit_or (bit_or (bit_or (bit_or a b) c) d) e) f six.0 in
    let four = or-none (bit_or (bit_or (bit_or a b) c) d) e five.0 in
    let three = or-none (bit_or (bit_or a b) c) d four.0 in
    let two' = or-none (bit_or a b) c three.0 in
    let one' = or-none a b two'.0 in
    (one'.0, one'.1, two'.1, three.1, four.1, five.1, six.1, seven.1)

-- an absent module's level, mark and mask are 0
absent_bare : (k l a m chosen : ℕ) → chosen ≡ pick (eqb k 0) (word k l a m) 0 → chosen ≡ 0
    → (not (eqb k 0) || (eqb l 0 && eqb a 0 && eqb m 0)) ≡ true
absent_bare k l a m chosen choice e = go (eqb k 0) (sym choice ∙ e)
  where
    go : (b : Bool) → pick b (word k l a m) 0 ≡ 0 → (not b || (eqb l 0 && eqb a 0 && eqb m 0)) ≡ true
    go true x = let all = word_none k l a m x in both (both (eq-eqb l 0 all.1) (eq-eqb a 0 all.2)) (eq-eqb m 0 all.3)
    go false x = refl

-- what `faults` answers
abbrev pub faults_of : ℕ → ℕ → ℕ → ℕ → ℕ
faults_of w p s chosen =
    let kind = w % 256 in
    let level = w / 256 % 256 in
    let appliance = kind / 2 % 2 in
    let members = bit_and (w / 16777216 * 2113665) 16843009 in
    bit_or (bit_or (bit_or (bit_or (bit_or (bit_or (bit_or (bit_and w 4043227388) (bit_and kind (kind / 2))) chosen) (bit_and p (4294967295 - members * 63)))
    (bit_and s (4294967295 - members * 31))) (bit_and (bit_xor level (level % 2 * 63)) (appliance * 63)))
    (bit_and (bit_xor p (bit_and p 16843009 * 63)) (appliance * 1061109567))) (bit_and (bit_and s 522133279 + 252645135) 538976288)

pub sound : (r : Record) (w p s chosen : ℕ) → InWords r w p s → chosen ≡ pick (eqb (w % 256) 0) w 0 → faults_of w p s chosen ≡ 0 → record_ok r ≡ true
unfolding all_below
sound r w p s chosen is choice e =
    let k = r.kind in
    let l = r.level in
    let a = r.addressed in
    let m = r.groups.mask in
    let f = is.fields in
    let x = is.presets in
    let y = is.references in
    let kind = low_byte w k l a m f in
    let level = second_byte_lem w k l a m f in
    let mask = top_byte w k l a m f in
    let members = bit_and (w / 16777216 * 2113665) 16843009 in
    let all = or_eight (bit_and w 4043227388) (bit_and (w % 256) (w % 256 / 2)) chosen
    (bit_and p (4294967295 - members * 63)) (bit_and s (4294967295 - members * 31))
    (bit_and (bit_xor (w / 256 % 256) (w / 256 % 256 % 2 * 63)) (w % 256 / 2 % 2 * 63))
    (bit_and (bit_xor p (bit_and p 16843009 * 63)) (w % 256 / 2 % 2 * 1061109567))
    (bit_and (bit_and s 522133279 + 252645135) 538976288) e in
    let fields = fields_sound k l a m f.first f.second f.third f.fourth
    (sym (ap (λ (n : ℕ). bit_and n 4043227388) f.value) ∙ all.0)
    (sym (ap (λ (n : ℕ). bit_and n (n / 2)) kind) ∙ all.1)
    (sym (ap₂ (λ (i j : ℕ). bit_and (bit_xor i (i % 2 * 63)) (j / 2 % 2 * 63)) level kind) ∙ all.5) in
    let few : k ≤ 2 = leb-true k 2 fields.0 in
    let narrow : m ≤ 15 = leb-true m 15 fields.3 in
    let joined : members ≡ word (one (bit 0 m)) (one (bit 1 m)) (one (bit 2 m)) (one (bit 3 m)) =
    ap (λ (n : ℕ). bit_and (n * 2113665) 16843009) mask ∙ members_are m (omega arith) in
    let presets = presets_sound k (bit 0 m) (bit 1 m) (bit 2 m) (bit 3 m) (preset 0 r) (preset 1 r) (preset 2 r) (preset 3 r)
    x.first x.second x.third x.fourth (omega arith)
    (sym (ap₂ (λ (i j : ℕ). bit_and i (4294967295 - j * 63)) x.value joined) ∙ all.3)
    (sym (ap₂ (λ (i j : ℕ). bit_and (bit_xor i (bit_and i 16843009 * 63)) (j / 2 % 2 * 1061109567)) x.value kind) ∙ all.6) in
    let references = references_sound k (bit 0 m) (bit 1 m) (bit 2 m) (bit 3 m) (reference 0 r) (reference 1 r) (reference 2 r) (reference 3 r)
    y.first y.second y.third y.fourth
    (sym (ap₂ (λ (i j : ℕ). bit_and i (4294967295 - j * 31)) y.value joined) ∙ all.4)
    (sym (ap (λ (i : ℕ). bit_and (bit_and i 522133279 + 252645135) 538976288) y.value) ∙ all.7) in
    let groups : groups_ok GROUPS r ≡ true =
    both (both (both (both presets.0 references.0) (both presets.1 references.1)) (both presets.2 references.2))
    (both presets.3 references.3) in
    let bare = absent_bare k l a m chosen (choice ∙ ap₂ (λ (i j : ℕ). pick (eqb i 0) j 0) kind f.value) all.2 in
    sym (bare_ok r) ∙ both (both (both (both (both fields.0 fields.1) fields.2) fields.3) groups) bare

-- ---- where the words lie

same_word : (x a b c d a' b' c' d' : ℕ) → a ≡ a' → b ≡ b' → c ≡ c' → d ≡ d' → WordOf x a b c d → WordOf x a' b' c' d'
same_word x a b c d a' b' c' d' ea eb ec ed is =
    record {
      value = is.value ∙ omega (arith, ea, eb, ec, ed);
      first = omega (arith, ea, is.first);
      second = omega (arith, eb, is.second);
      third = omega (arith, ec, is.third);
      fourth = omega (arith, ed, is.fourth);
    }

here : (t : List ℕ) (at : ℕ) → get_or t (at + 0) 0 ≡ get_or t at 0
here t at = ap (λ (n : ℕ). get_or t n 0) (add-zero at)

-- the word of a part of four bytes
pub part_word : (t : List ℕ) (at x : ℕ) → let s = take (at + 4 - at) (drop at t) in WordOf x (get_or s 0 0) (get_or s 1 0) (get_or s 2 0) (get_or s 3 0)
    → WordOf x (get_or t at 0) (get_or t (at + 1) 0) (get_or t (at + 2) 0) (get_or t (at + 3) 0)
part_word t at x is = same_word x _ _ _ _ _ _ _ _ (byte 0 (omega arith) ∙ here t at) (byte 1 (omega arith)) (byte 2 (omega arith)) (byte 3 (omega arith)) is
  where
    byte : (k : ℕ) → k < 4 → get_or (take (at + 4 - at) (drop at t)) k 0 ≡ get_or t (at + k) 0
    byte k h = get_or-take (at + 4 - at) (drop at t) k 0 (omega arith) ∙ get_or-drop at t k 0

abbrev At : List ℕ → ℕ → ℕ → Type 0
At t at x = WordOf x (get_or t at 0) (get_or t (at + 1) 0) (get_or t (at + 2) 0) (get_or t (at + 3) 0)

pub in_words : (t : List ℕ) (i w p s : ℕ) → At t (i * RECORD_BYTES) w → At t (i * RECORD_BYTES + 4) p → At t (i * RECORD_BYTES + 8) s
    → InWords (record_at t i) w p s
unfolding record_at
in_words t i w p s fields presets references =
    record {
      fields = fields;
      presets = same_word p _ _ _ _ _ _ _ _ (sym (preset_at t i 0 (omega arith) ∙ here t (i * RECORD_BYTES + 4))) (sym (preset_at t i 1 (omega arith)))
          (sym (preset_at t i 2 (omega arith))) (sym (preset_at t i 3 (omega arith))) presets;
      references = same_word s _ _ _ _ _ _ _ _ (sym (reference_at t i 0 (omega arith) ∙ here t (i * RECORD_BYTES + 8))) (sym (reference_at t i 1 (omega arith)))
          (sym (reference_at t i 2 (omega arith))) (sym (reference_at t i 3 (omega arith))) references;
    }

-- ---- one record more

pub quick_next : (h : ℕ) (t : List ℕ) (n bad more : ℕ) → (bad ≡ 0 → each_ok modules record_ok (h * UNITS) n t ≡ true)
    → (more ≡ 0 → record_ok (record_at t (h * UNITS + n)) ≡ true) → bit_or bad more ≡ 0 → each_ok modules record_ok (h * UNITS) (n + 1) t ≡ true
unfolding all_below
quick_next h t n bad more so_far last e = let none' = or-none bad more e in rw (add-one n) (both (so_far none'.0) (last none'.1))

-- a module's light, from the word that has its level
pub word_lit : (r : Record) (w p s x : ℕ) → InWords r w p s → x ≡ pick (eqb (w / 256 % 256) 0) 0 1 → x ≡ lit_of r
word_lit r w p s x is e = e ∙ ap (λ (n : ℕ). pick (eqb n 0) 0 1) (second_byte_lem w r.kind r.level r.addressed r.groups.mask is.fields)
