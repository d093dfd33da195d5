-- `step_groups` meets its contract: what is stored has the groups that the act leaves, and it leaves the level.
use native.Mathlib.Omega.{arith}
use Rattle.module_table.proofs.StillLaws.{regrouped}
use Rattle.module_table.proofs.step_groups.Goals as goal

pub returns : goal.returns
returns c own =
    regrouped _ _ _ _ _ (omega arith) c.requires.0 c.requires.1 _ c.load-before.ensures _ _ c.requires.2
    (c.groups_after-groups.ensures own) c.store.ensures
