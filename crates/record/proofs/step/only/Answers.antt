-- `step::only` meets its contract: a shift by at most 3 is the bit, and beyond there is none.
use Rattle.record.proofs.RecordLaws.{shifted}
use Rattle.record.proofs.step.only.Goals as goal

pub returns-then-g-le3 : goal.returns-then-g-le3
returns-then-g-le3 c = shifted c.args.g c.if-g-le3.true
