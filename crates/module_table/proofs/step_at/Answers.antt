-- `step_at` meets its contract: a record that is not among those that may change is stepped by leaving it.
use native.Mathlib.Omega.{arith}
use Rattle.record.specs.Layout.{record_at}
use Rattle.module_table.proofs.StillLaws.{kept}
use Rattle.module_table.proofs.step_at.Goals as goal

pub returns-else-o-t : goal.returns-else-o-t
unfolding record_at
returns-else-o-t c = kept _ _ _ c.args.i c.args.t.now c.args.o (omega arith) c.requires.0 c.requires.1 c.if-o-t.false
