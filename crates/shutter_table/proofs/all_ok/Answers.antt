use mathlib.Core.Path.{refl}
use Rattle.ground.specs.Records.{all_below}
use Rattle.ground.proofs.Records.{below_next}
use Rattle.shutter.specs.Shutters.{shutter_ok}
use Rattle.shutter_table.specs.Eights.{EIGHT}
use Rattle.shutter_table.specs.ShutterTable.{shutter_at}
use Rattle.shutter_table.proofs.all_ok.Goals as goal

pub loop-e-init : goal.loop-e-init
unfolding all_below
loop-e-init c = refl

pub loop-e-preserved : goal.loop-e-preserved
loop-e-preserved c =
    let t = c.args.t.now in
    let loop = c.loop-e in
    rw (loop.invariant, c.eight_ok-ok.ensures) (below_next (λ i. shutter_ok (shutter_at t i)) loop.e EIGHT)
