use mathlib.Core.Path.{refl, sym, ◌∙◌}
use Prim.Native.Nat.{◌+◌, ◌*◌}
use native.Mathlib.Omega.{arith}
use native.Mathlib.Numerals.{add-one}
use Rattle.ground.specs.Records.{all_below}
use Rattle.ground.proofs.Records.{below_not}
use Rattle.shutter.specs.Shutters.{shutter_ok}
use Rattle.shutter_table.specs.Eights.{EIGHT}
use Rattle.shutter_table.specs.ShutterTable.{shutter_at}
use Rattle.shutter_table.proofs.each_ok.Goals as goal

pub loop-n-init : goal.loop-n-init
unfolding all_below
loop-n-init c = refl

pub returns-then-not-shutter_ok : goal.returns-then-not-shutter_ok
returns-then-not-shutter_ok c =
    let args = c.args in
    sym (below_not (λ k. shutter_ok (shutter_at args.t.now (args.e * EIGHT + k))) EIGHT c.loop-n.n (omega arith)
    (sym c.shutter_ok.ensures ∙ c.if-not-shutter_ok.true))

pub loop-n-preserved : goal.loop-n-preserved
unfolding all_below
loop-n-preserved c = rw (add-one _, c.loop-n.invariant) (sym c.shutter_ok.ensures ∙ c.if-not-shutter_ok.false)
