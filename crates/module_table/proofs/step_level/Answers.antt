-- `step_level` meets its contract: the bytes stored are those that the act leaves, and it leaves the others.
use native.Mathlib.Omega.{arith}
use Rattle.module_table.proofs.StillLaws.{relevelled}
use Rattle.module_table.proofs.step_level.Goals as goal

pub returns : goal.returns
returns c =
    relevelled _ _ _ _ _ (omega arith) c.requires.0 c.requires.1 _ c.load-before.ensures _ _ _ c.requires.2
    (c.level_after-level.ensures c.args.own) c.addressed_after-addressed.ensures c.count_of.ensures
