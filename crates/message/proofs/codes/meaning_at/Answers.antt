-- `codes::meaning_at` meets its contract: the constant table is the definition's, and past its end both say unsupported.
use mathlib.Core.Path.{sym}
use lib.ListN.{get_or-eq_default}
use Rattle.message.specs.Codes.{meanings, meaning_of}
use Rattle.message.specs.declared.codes.Meaning.TheVariants.{Unsupported}
use Rattle.message.proofs.Tables.{get_d_any}
use Rattle.message.proofs.codes.meaning_at.Goals as goal

pub returns-then-n-lt16 : goal.returns-then-n-lt16
unfolding meanings meaning_of
returns-then-n-lt16 c = get_d_any meanings c.args.code _ Unsupported c.if-n-lt16.true

pub returns-else-n-lt16 : goal.returns-else-n-lt16
unfolding meanings meaning_of
returns-else-n-lt16 c = sym (get_or-eq_default meanings Unsupported c.if-n-lt16.false)
