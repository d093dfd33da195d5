use mathlib.Core.Path.{refl}
use native.Mathlib.Numerals.{add-one}
use Rattle.ground.specs.Records.{all_below}
use Rattle.module_table.proofs.all_heard_ok.Goals as goal

pub loop-h-init : goal.loop-h-init
unfolding all_below
loop-h-init c = refl

pub loop-h-preserved : goal.loop-h-preserved
unfolding all_below
loop-h-preserved c = simp (add-one, c.loop-h.invariant, c.heard_ok-ok.ensures)
