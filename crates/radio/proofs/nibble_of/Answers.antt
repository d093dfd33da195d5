-- `nibble_of` meets its contract: the constant table is the definition's, and past its end both give 0.
use mathlib.Core.Path.{refl, sym}
use lib.ListN.{get_or-eq_default}
use Rattle.radio.specs.Codes.{nibble_of, house_nibbles}
use Rattle.radio.proofs.nibble_of.Goals as goal

pub returns-then-n-lt16 : goal.returns-then-n-lt16
unfolding nibble_of house_nibbles
returns-then-n-lt16 c = refl

pub returns-else-n-lt16 : goal.returns-else-n-lt16
unfolding nibble_of house_nibbles
returns-else-n-lt16 c = sym (get_or-eq_default house_nibbles 0 c.if-n-lt16.false)
