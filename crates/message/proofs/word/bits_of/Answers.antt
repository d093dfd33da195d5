-- `word::bits_of` meets its contract: in each arm the message is the one that the pattern names. Codes are below 16, so 29 bits fit.
use native.Mathlib.Omega.{arith}
use Rattle.message.proofs.CodeLaws.{code_below}
use Rattle.message.proofs.word.bits_of.Goals as goal

pub overflow_mul-result-in-Extended-2 : goal.overflow_mul-result-in-Extended-2
overflow_mul-result-in-Extended-2 c = omega (arith, c.line_code-u.ensures, c.nine_bits-head.ensures, c.line_code-in-Extended.ensures, code_below c.in-Extended.house, code_below c.in-Extended.unit)

pub overflow_add-result-in-Extended-2 : goal.overflow_add-result-in-Extended-2
overflow_add-result-in-Extended-2 c = omega (arith, c.line_code-u.ensures, c.nine_bits-head.ensures, c.line_code-in-Extended.ensures, code_below c.in-Extended.house, code_below c.in-Extended.unit)
