-- `run_motion` meets its contract: the places that a motion covers are stepped, and these are those that it reaches.
use mathlib.Core.Path.{◌∙◌}
use native.Mathlib.Omega.{arith}
use Rattle.shutter_table.proofs.TableLaws.{run_of}
use Rattle.shutter_table.proofs.run_motion.Goals as goal

pub returns-then-keeps_lifestyles : goal.returns-then-keeps_lifestyles
returns-then-keeps_lifestyles c =
    let ran = c.step_run.ensures in
    (ran.table ∙ run_of _ _ _ _ c.places_of-p.ensures _ (omega arith), ran.count)

pub returns-else-keeps_lifestyles : goal.returns-else-keeps_lifestyles
returns-else-keeps_lifestyles c =
    let ran = c.step_run-else-keeps_lifestyles.ensures in
    (ran.table ∙ run_of _ _ _ _ c.places_of-p.ensures _ (omega arith), ran.count)
