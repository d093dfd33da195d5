use mathlib.Core.Path.{refl, ◌∙◌}
use native.Mathlib.Omega.{arith}
use Rattle.ground.specs.Records.{sum_below}
use Rattle.ground.proofs.Records.{turn_first, turn_next_lem}
use Rattle.record.specs.Layout.{modules}
use Rattle.record.specs.ModuleTable.{level_of}
use Rattle.module_table.proofs.TableLaws.{modules_laid, step_keeps, step_sound, lit_next, lit_put}
use Rattle.module_table.proofs.step_house.Goals as goal

pub loop-n-init : goal.loop-n-init
unfolding sum_below
loop-n-init c = (turn_first modules modules_laid level_of _ (step_keeps _ _) _ _ _ _, refl, omega arith)

pub loop-n-preserved : goal.loop-n-preserved
loop-n-preserved c =
    let loop = c.loop-n in
    let step = c.step_at-count.ensures in (
      turn_next_lem modules modules_laid level_of _ (step_keeps _ _) _ _ _ _ _ _ _ loop.invariant.0 _ _
          c.loop-n-test.true (omega arith) (omega arith) step,
      lit_next _ c.args.house _ _ _ (loop.invariant.1 ∙ lit_put _ _ c.args.house _ _ (step_sound _ _ _ _ _) step.table) c.lit_at-lit.ensures.0,
      omega (arith, c.lit_at-lit.ensures.1, loop.invariant.2),
    )
