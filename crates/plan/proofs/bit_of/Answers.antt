-- `bit_of` meets its contract: below 8 the shift divides by the power of two, and from 8 on a byte is below that power.
use borrow.Author.Rules.{rules}
use mathlib.Core.Path.{sym}
use Rattle.plan.proofs.PlanLaws.{no_bit}
use Rattle.plan.proofs.bit_of.Goals as goal

pub returns-else-k-lt8 : goal.returns-else-k-lt8
returns-else-k-lt8 c = sym (no_bit c.args.k c.args.x (search rules) c.if-k-lt8.false)
