use mathlib.Core.Path.{refl}
use Prim.Native.Nat.{◌+◌, ◌*◌, ◌/◌, ◌%◌}
use native.Mathlib.Omega.{arith}
use lib.Dec.{eqb}
use Rattle.ground.specs.Records.{all_below, sum_below}
use Rattle.ground.proofs.Records.{one_at_most}
use Rattle.record.specs.Layout.{UNITS, record_at}
use Rattle.module_table.proofs.TableLaws.{lit_next}
use Rattle.module_table.proofs.QuickLaws.{in_words, quick_next, word_lit}
use Rattle.module_table.proofs.quick.quick_each.Goals as goal

pub loop-n-init : goal.loop-n-init
unfolding all_below sum_below
loop-n-init c = (omega arith, (λ e. refl), refl)

pub loop-n-preserved : goal.loop-n-preserved
loop-n-preserved c =
    let args = c.args in
    let loop = c.loop-n in
    let t = args.t.now in
    let i = args.house * UNITS + loop.n in
    let w = c.word_at-fields in
    let p = c.word_at in
    let s = c.word_at-in-loop-n in
    let is = in_words t i w.result p.result s.result w.ensures p.ensures s.ensures in (
      omega (arith, c.choose-lit.ensures, one_at_most (eqb (w.result / 256 % 256) 0), loop.invariant.0),
      quick_next args.house t loop.n loop.bad c.faults-bad.result loop.invariant.1 (c.faults-bad.ensures (record_at t i) is),
      lit_next t args.house loop.n loop.lit c.choose-lit.result loop.invariant.2
          (word_lit (record_at t i) w.result p.result s.result c.choose-lit.result is c.choose-lit.ensures),
    )
