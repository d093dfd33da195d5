use mathlib.Core.Path.{refl}
use native.Mathlib.Numerals.{add-one}
use Rattle.ground.specs.Records.{all_below}
use Rattle.shutter_table.proofs.TableLaws.{mark_at_lem, opening_at_lem}
use Rattle.shutter_table.proofs.styles_ok.Goals as goal

pub loop-l-init : goal.loop-l-init
unfolding all_below
loop-l-init c = refl

pub loop-l-preserved : goal.loop-l-preserved
unfolding all_below
loop-l-preserved c =
    let a = c.args in
    let now = c.loop-l in
    let below = c.loop-l-test.true in
    let mark = mark_at_lem a.t.now a.i now.l below in
    let opening = opening_at_lem a.t.now a.i now.l below in
    rw (add-one now.l, now.invariant, c.lifestyle_valid-ok.ensures, mark, opening)
