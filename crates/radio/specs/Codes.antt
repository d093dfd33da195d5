-- Radio commands and their four bytes (01, 'Radio bytes').
use Rattle.std.specs.Prelude.{ℕ, ◌+◌, ◌-◌, ◌*◌, ◌/◌, ◌%◌, ◌^◌, Bool, true, false, not, ◌&&◌, eqb, leb, ltb, get_or}
use mathlib.Core.List.{List, [], ◌∷◌, ◌++◌, flat_map, map}
use Rattle.message.specs.Codes.{place_in}
use Rattle.radio.specs.declared.RadioCommand.{RadioCommand}
use Rattle.radio.specs.declared.RadioCommand.TheVariants.{On, Off, Bright, Dim}

-- "High four bits of b, houses A to P"
unfoldable pub house_nibbles : List ℕ
house_nibbles = 6 ∷ 7 ∷ 4 ∷ 5 ∷ 8 ∷ 9 ∷ 10 ∷ 11 ∷ 14 ∷ 15 ∷ 12 ∷ 13 ∷ 0 ∷ 1 ∷ 2 ∷ 3 ∷ []

-- the four bits of a house, and the house that has four bits
unfoldable pub nibble_of : ℕ → ℕ
nibble_of h = get_or house_nibbles h 0

unfoldable pub house_of_nibble : ℕ → ℕ
house_of_nibble n = place_in eqb n house_nibbles

abbrev pub house_in_b : ℕ → ℕ
house_in_b h = nibble_of h * 2 ^ 4

-- n's binary digit of a weight, 0 or 1, and its bit i
abbrev pub digit : ℕ → ℕ → ℕ
digit n w = n / w % 2

abbrev pub bit_at : ℕ → ℕ → ℕ
bit_at n i = digit n (2 ^ i)

-- one of the bits of b, or of c
pub data Place : Type 0 where
  b's c's : ℕ → Place

-- one of the unit's bits, by its weight, and the place where it stands
pub data UnitBit : Type 0 where
  its : ℕ → Place → UnitBit

-- "For a unit number u (0 to 15): its 8 is b's bit 2; its 4, 2, 1 are c's bits 6, 3, 4."
abbrev pub unit_bits : List UnitBit
unit_bits =
    its 8 (b's 2)
    ∷ its 4 (c's 6)
    ∷ its 2 (c's 3)
    ∷ its 1 (c's 4)
    ∷ []

-- the sum of what each unit bit gives
abbrev pub total : (UnitBit → ℕ) → List UnitBit → ℕ
total f [] = 0
total f (x ∷ xs) = f x + total f xs

-- written: what a bit of the unit u is in b, and in c
abbrev pub bit_in_b : ℕ → UnitBit → ℕ
bit_in_b u (its w (b's i)) = digit u w * 2 ^ i
bit_in_b u (its w (c's i)) = 0

abbrev pub bit_in_c : ℕ → UnitBit → ℕ
bit_in_c u (its w (b's i)) = 0
bit_in_c u (its w (c's i)) = digit u w * 2 ^ i

abbrev pub unit_in_b : ℕ → ℕ
unit_in_b u = total (bit_in_b u) unit_bits

abbrev pub unit_in_c : ℕ → ℕ
unit_in_c u = total (bit_in_c u) unit_bits

-- read: what a bit of b, or of c, is in the unit
abbrev pub bit_in_unit : ℕ → ℕ → UnitBit → ℕ
bit_in_unit b c (its w (b's i)) = bit_at b i * w
bit_in_unit b c (its w (c's i)) = bit_at c i * w

abbrev pub unit_from : ℕ → ℕ → ℕ
unit_from b c = total (bit_in_unit b c) unit_bits

-- b: the house and the unit's part; of bright and dim "b's bit 2 clear". "All other bits are 0."
abbrev pub byte_b : RadioCommand → ℕ
byte_b (On h u) = house_in_b h + unit_in_b u
byte_b (Off h u) = house_in_b h + unit_in_b u
byte_b (Bright h) = house_in_b h
byte_b (Dim h) = house_in_b h

-- c: "Off sets c's bit 5. Bright is c = 136, dim c = 152"
abbrev pub byte_c : RadioCommand → ℕ
byte_c (On h u) = unit_in_c u
byte_c (Off h u) = unit_in_c u + 2 ^ 5
byte_c (Bright h) = 136
byte_c (Dim h) = 152

-- "Four bytes: b, 255-b, c, 255-c."
abbrev pub code_from : ℕ → ℕ → List ℕ
code_from b c = b ∷ (255 - b) ∷ c ∷ (255 - c) ∷ []

abbrev pub four_bytes : RadioCommand → List ℕ
four_bytes k = code_from (byte_b k) (byte_c k)

-- "Houses and units are numbers 0 to 15."
abbrev pub command_ok : RadioCommand → Bool
command_ok (On h u) = leb h 15 && leb u 15
command_ok (Off h u) = leb h 15 && leb u 15
command_ok (Bright h) = leb h 15
command_ok (Dim h) = leb h 15

-- the numbers of the houses, and of the units
unfoldable pub sixteen : List ℕ
sixteen = 0 ∷ 1 ∷ 2 ∷ 3 ∷ 4 ∷ 5 ∷ 6 ∷ 7 ∷ 8 ∷ 9 ∷ 10 ∷ 11 ∷ 12 ∷ 13 ∷ 14 ∷ 15 ∷ []

-- the commands of a house: on and off for each unit, bright and dim
abbrev pub switches_of : ℕ → ℕ → List RadioCommand
switches_of h u = On h u ∷ Off h u ∷ []

unfoldable pub commands_of : ℕ → List RadioCommand
commands_of h = flat_map (switches_of h) sixteen ++ (Bright h ∷ Dim h ∷ [])

-- "There are 544 codes": all commands, house after house, and their codes
unfoldable pub commands : List RadioCommand
commands = flat_map commands_of sixteen

unfoldable pub codes : List (List ℕ)
codes = map four_bytes commands

-- whether two codes are the same, byte for byte
abbrev pub same_code : List ℕ → List ℕ → Bool
same_code [] [] = true
same_code [] (y ∷ ys) = false
same_code (x ∷ xs) [] = false
same_code (x ∷ xs) (y ∷ ys) = eqb x y && same_code xs ys

-- where a code stands among the 544, counted from 0, and 544 where it is none of them; whether it is one
unfoldable pub code_place : List ℕ → ℕ
code_place code = place_in same_code code codes

abbrev pub among : List ℕ → Bool
among code = ltb (code_place code) 544

-- the command that has a code (A bright where none has: such bytes are refused)
unfoldable pub command_of : List ℕ → RadioCommand
command_of code = get_or commands (code_place code) (Bright 0)

-- whether a command is on or off, and so names a unit
abbrev pub is_switch : RadioCommand → Bool
is_switch (On h u) = true
is_switch (Off h u) = true
is_switch (Bright h) = false
is_switch (Dim h) = false

-- what the reader asks of a code: whether it is one for on or off, and whether it is one for bright or dim
abbrev pub switch_code : List ℕ → Bool
switch_code code = among code && is_switch (command_of code)

abbrev pub step_code : List ℕ → Bool
step_code code = among code && not (is_switch (command_of code))
