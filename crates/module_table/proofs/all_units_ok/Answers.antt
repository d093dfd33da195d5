use mathlib.Core.Path.{refl}
use native.Mathlib.Numerals.{add-one}
use Rattle.ground.specs.Records.{all_below}
use Rattle.module_table.proofs.all_units_ok.Goals as goal

pub loop-house-init : goal.loop-house-init
unfolding all_below
loop-house-init c = refl

pub loop-house-preserved : goal.loop-house-preserved
unfolding all_below
loop-house-preserved c = simp (add-one, c.loop-house.invariant, c.units_ok-ok.ensures)
