-- `codes::line_code` meets its contract: the constant table is the definition's, and past its end both give 0.
use mathlib.Core.Path.{refl, sym}
use lib.ListN.{get_or-eq_default}
use Rattle.message.specs.Codes.{code_of, line_codes}
use Rattle.message.proofs.codes.line_code.Goals as goal

pub returns-then-n-lt16 : goal.returns-then-n-lt16
unfolding code_of line_codes
returns-then-n-lt16 c = refl

pub returns-else-n-lt16 : goal.returns-else-n-lt16
unfolding code_of line_codes
returns-else-n-lt16 c = sym (get_or-eq_default line_codes 0 c.if-n-lt16.false)
