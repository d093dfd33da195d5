use mathlib.Core.Path.{refl, ap}
use mathlib.Core.Bool.{Bool, ◌&&◌}
use native.Mathlib.Numerals.{add-one}
use Rattle.ground.specs.Records.{all_below}
use Rattle.record.specs.Layout.{record_at}
use Rattle.record.specs.ModuleTable.{groups_ok}
use Rattle.module_table.proofs.TableLaws.{judged_group}
use Rattle.module_table.proofs.groups_ok.Goals as goal

pub loop-g-init : goal.loop-g-init
unfolding all_below
loop-g-init c = refl

pub loop-g-preserved : goal.loop-g-preserved
unfolding all_below
loop-g-preserved c =
    let a = c.args in
    let now = c.loop-g in
    let below = c.loop-g-test.true in
    let one = judged_group a.t.now a.i now.g below in
    rw (add-one now.g, now.invariant, c.group_valid-ok.ensures, c.bit_of.ensures)
    (ap (λ (b : Bool). groups_ok now.g (record_at a.t.now a.i) && b) one)
