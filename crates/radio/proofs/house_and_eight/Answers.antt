-- `house_and_eight` meets its contract. The house's four bits are below 16, so the byte fits.
use native.Mathlib.Omega.{arith}
use Rattle.radio.proofs.CodeLaws.{nibble_below}
use Rattle.radio.proofs.house_and_eight.Goals as goal

pub overflow_mul-result : goal.overflow_mul-result
overflow_mul-result c = omega (arith, c.nibble_of.ensures, nibble_below c.args.house)

pub overflow_add-result : goal.overflow_add-result
overflow_add-result c = omega (arith, c.nibble_of.ensures, nibble_below c.args.house)
