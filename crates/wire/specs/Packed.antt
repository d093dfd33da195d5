-- The answer of an exported routine: one number, that holds the number given back (01, 'Numbers given back') and a count.
use Rattle.std.specs.Prelude.{ℕ, ◌+◌, ◌*◌, ◌%◌, ◌^◌, Result}
use Rattle.ground.specs.Refusals.{count_of, count_report}
use Rattle.ground.specs.declared.Refusal.{Refusal}

-- count * 256 + number, in 64 bits: a count of 2 ^ 56 or more, which no memory holds, is given modulo 2 ^ 56
abbrev pub packed : Result ℕ Refusal → ℕ
packed a = count_of a % 2 ^ 56 * 256 + (count_report a).number
