-- Laws of the radio codes: the houses' table is one-to-one, and so are the b and c of the commands.
--
--     nibbles_one_to_one                      no four bits stand twice in the houses' table
--     nibble_read_back, house_read_back       four bits read back, both ways
--     nibble_below, house_of_nibble-below     four bits and houses are below 16
--     Bits, bits, in_c, digits, bit_below     a number below 16 by its bits
--     unit_told                               the unit, told by the bits of its b and c
--     bytes_one_to_one, no_shared_code        no two valid commands have the same b and c, or the same code
use mathlib.Core.Path.{◌≡◌, refl, sym, ap, ap₂, ◌∙◌}
use mathlib.Core.Bool.{true}
use Prim.Native.Nat.{ℕ, ◌+◌, ◌*◌, ◌/◌, ◌%◌, ◌≤◌, ◌<◌}
use native.Mathlib.Omega.{arith}
use borrow.Author.Tests.{eqb-true, ltb-true, ne_eqb}
use lib.Dec.{eqb, ltb, lit<}
use Rattle.ground.specs.Choice.{pick}
use Rattle.ground.proofs.Choices.{below_sixteen, both_below}
use Rattle.message.specs.Codes.{place_in}
use Rattle.message.proofs.Tables.{every_at, ReadsBack, read_back, one_to_one, entry_below}
use Rattle.radio.specs.Codes.{house_nibbles, nibble_of, house_of_nibble, house_in_b, unit_in_b, unit_in_c, unit_from, byte_b, byte_c, command_ok, sixteen}
use Rattle.radio.specs.Statements.{NibblesOneToOne, NoSharedCode}
use Rattle.radio.specs.declared.RadioCommand.{RadioCommand}
use Rattle.radio.specs.declared.RadioCommand.TheVariants.{On, Off, Bright, Dim}

-- ---- the houses' four bits

nibbles_found : ReadsBack eqb house_nibbles
unfolding house_nibbles place_in
nibbles_found = refl

pub nibbles_one_to_one : NibblesOneToOne
unfolding nibble_of house_nibbles
nibbles_one_to_one g h lg lh e = one_to_one eqb house_nibbles 0 g h nibbles_found lg lh e

pub nibble_read_back : (h : ℕ) → h < 16 → house_of_nibble (nibble_of h) ≡ h
unfolding nibble_of house_of_nibble house_nibbles
nibble_read_back h l = read_back eqb house_nibbles 0 h nibbles_found l

pub nibble_below : (h : ℕ) → nibble_of h < 16
unfolding nibble_of house_nibbles
nibble_below h = entry_below house_nibbles h 16 0 refl (lit< tt)

pub house_read_back : (n : ℕ) → n < 16 → nibble_of (house_of_nibble n) ≡ n
unfolding nibble_of house_of_nibble house_nibbles place_in sixteen
house_read_back n l = eqb-true (nibble_of (house_of_nibble n)) n (every_at (λ k x. eqb (nibble_of (house_of_nibble k)) k) sixteen 0 n refl l)

pub house_of_nibble-below : (n : ℕ) → n < 16 → house_of_nibble n < 16
unfolding house_of_nibble house_nibbles place_in sixteen
house_of_nibble-below n l = ltb-true (house_of_nibble n) 16 (every_at (λ k x. ltb (house_of_nibble k) 16) sixteen 0 n refl l)

-- ---- bits

pub bit_below : (n : ℕ) → n % 2 < 2
bit_below n = omega arith

-- n has the bits w, x, y, z
pub record Bits (n w x y z : ℕ) : Type 0 where
  pub eight : n / 8 % 2 ≡ w
  pub four : n / 4 % 2 ≡ x
  pub two : n / 2 % 2 ≡ y
  pub one : n % 2 ≡ z
  pub small : n ≤ 15

pub bits : (n w x y z : ℕ) → w < 2 → x < 2 → y < 2 → z < 2 → n ≡ w * 8 + x * 4 + y * 2 + z → Bits n w x y z
bits n w x y z hw hx hy hz is = omega arith

-- such a unit's bits in c
pub in_c : {n w x y z : ℕ} → Bits n w x y z → unit_in_c n ≡ x * 64 + y * 8 + z * 16
in_c b = omega (arith, b.four, b.two, b.one)

pub digits : (n : ℕ) → n < 16 → n / 8 % 2 * 8 + n / 4 % 2 * 4 + n / 2 % 2 * 2 + n % 2 ≡ n
unfolding sixteen
digits n l =
    eqb-true (n / 8 % 2 * 8 + n / 4 % 2 * 4 + n / 2 % 2 * 2 + n % 2) n
    (every_at (λ k x. eqb (k / 8 % 2 * 8 + k / 4 % 2 * 4 + k / 2 % 2 * 2 + k % 2) k) sixteen 0 n refl l)

-- ---- a command from its b and its c

-- the bits of an on's or off's c: q, t and o of the unit's 4, 2 and 1, and f for off
record SwitchBits (c q t o f : ℕ) : Type 0 where
  six : c / 64 % 2 ≡ q
  five : c / 32 % 2 ≡ f
  four : c / 16 % 2 ≡ o
  three : c / 8 % 2 ≡ t
  low : c < 128

switch_bits : (c q t o f : ℕ) → q < 2 → t < 2 → o < 2 → f < 2 → c ≡ q * 64 + t * 8 + o * 16 + f * 32 → SwitchBits c q t o f
switch_bits c q t o f hq ht ho hf is = omega arith

-- the bits of c, of a unit and the off bit
switch_of_unit : (u c f : ℕ) → f < 2 → c ≡ unit_in_c u + f * 32 → SwitchBits c (u / 4 % 2) (u / 2 % 2) (u % 2) f
switch_of_unit u c f hf is =
    switch_bits c (u / 4 % 2) (u / 2 % 2) (u % 2) f (bit_below (u / 4)) (bit_below (u / 2)) (bit_below u) hf (omega arith)

-- the unit, and the command, taken out of the bits
pub unit_told : (h u c f : ℕ) → u < 16 → f < 2 → c ≡ unit_in_c u + f * 32 → unit_from (house_in_b h + unit_in_b u) c ≡ u
unit_told h u c f hu hf is =
    let s = switch_of_unit u c f hf is in
    let eight : (house_in_b h + unit_in_b u) / 4 % 2 ≡ u / 8 % 2 = omega arith in
    omega (arith, eight, s.six, s.three, s.four, digits u hu)

unfoldable command_from : ℕ → ℕ → RadioCommand
command_from b c =
    pick (eqb c 136) (Bright (house_of_nibble (b / 16)))
    (pick (eqb c 152) (Dim (house_of_nibble (b / 16)))
    (pick (eqb (c / 32 % 2) 0) (On (house_of_nibble (b / 16)) (unit_from b c)) (Off (house_of_nibble (b / 16)) (unit_from b c))))

from_switch : (h u c f : ℕ) → h < 16 → u < 16 → f < 2 → c ≡ unit_in_c u + f * 32
    → command_from (house_in_b h + unit_in_b u) c ≡ pick (eqb f 0) (On h u) (Off h u)
unfolding command_from
from_switch h u c f hh hu hf is =
    let s = switch_of_unit u c f hf is in
    let low = s.low in
    let high : (house_in_b h + unit_in_b u) / 16 ≡ nibble_of h = omega arith in
    simp (
      ne_eqb c 136 (λ e. omega arith),
      ne_eqb c 152 (λ e. omega arith),
      s.five,
      high,
      nibble_read_back h hh,
      unit_told h u c f hu hf is,
    )

from_step : (h : ℕ) → h < 16 → house_of_nibble (house_in_b h / 16) ≡ h
from_step h l = let high : house_in_b h / 16 ≡ nibble_of h = omega arith in ap house_of_nibble high ∙ nibble_read_back h l

command_from_lem : (k : RadioCommand) → command_ok k ≡ true → command_from (byte_b k) (byte_c k) ≡ k
unfolding command_from
command_from_lem (On h u) t = let p = both_below h u t in from_switch h u (unit_in_c u) 0 p.0 p.1 (omega arith) (omega arith)
command_from_lem (Off h u) t = let p = both_below h u t in from_switch h u (unit_in_c u + 32) 1 p.0 p.1 (omega arith) (omega arith)
command_from_lem (Bright h) t = ap Bright (from_step h (below_sixteen h t))
command_from_lem (Dim h) t = ap Dim (from_step h (below_sixteen h t))

pub bytes_one_to_one : (j k : RadioCommand) → command_ok j ≡ true → command_ok k ≡ true → byte_b j ≡ byte_b k → byte_c j ≡ byte_c k → j ≡ k
bytes_one_to_one j k tj tk eb ec = sym (command_from_lem j tj) ∙ ap₂ command_from eb ec ∙ command_from_lem k tk

pub no_shared_code : NoSharedCode
no_shared_code j k tj tk e =
    let eb : byte_b j ≡ byte_b k = cc in
    let ec : byte_c j ≡ byte_c k = cc in
    bytes_one_to_one j k tj tk eb ec
