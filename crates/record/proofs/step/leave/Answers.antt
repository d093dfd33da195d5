-- `step::leave` meets its contract: a group left is no membership.
use Rattle.record.specs.ModuleTable.{left}
use Rattle.record.proofs.step.leave.Goals as goal

pub returns : goal.returns
unfolding left
returns c = c.regrouped.ensures
