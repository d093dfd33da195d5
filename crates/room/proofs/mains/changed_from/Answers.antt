use mathlib.Core.Path.{refl}
use native.Mathlib.Omega.{arith}
use Rattle.ground.specs.Records.{sum_below}
use Rattle.room.proofs.SecondBytes.{changed_next}
use Rattle.room.proofs.mains.changed_from.Goals as goal

pub loop-i-init : goal.loop-i-init
unfolding sum_below
loop-i-init c = (omega arith, λ before kept. refl)

pub loop-i-preserved : goal.loop-i-preserved
loop-i-preserved c =
    let now = c.loop-i in
    let more = c.count_of-count.ensures in
    let a = c.args in (
      omega (arith, more.1, now.invariant.0),
      λ before kept. changed_next a.size before a.t.now a.kept _ _ _ kept c.loop-i-test.true (now.invariant.1 before kept)
          more.0,
    )
