use native.Mathlib.Omega.{arith}
use Rattle.ground.proofs.Records.{turn_first, turn_next_lem}
use Rattle.shutter_table.specs.ShutterTable.{shutters, opening_of}
use Rattle.shutter_table.proofs.TableLaws.{shutters_laid, step_keeps}
use Rattle.shutter_table.proofs.step_run.Goals as goal

pub loop-n-init : goal.loop-n-init
loop-n-init g c = turn_first shutters shutters_laid opening_of _ (step_keeps _) _ _ _ _

pub loop-n-preserved : goal.loop-n-preserved
loop-n-preserved g c =
    let loop = c.loop-n in
    turn_next_lem shutters shutters_laid opening_of _ (step_keeps _) _ _ _ _ _ _ _ loop.invariant _ _ c.loop-n-test.true
    (omega (arith, c.requires)) (omega (arith, c.requires)) c.step_at-count.ensures
