use native.Mathlib.Omega.{arith}
use Rattle.bench_run.proofs.CallLaws.{calling_first, calling_next}
use Rattle.bench_run.proofs.run_all.Goals as goal

pub loop-j-init : goal.loop-j-init
loop-j-init c =
    let a = c.args in
    let p = c.requires in
    calling_first a.n a.slots a.draws.now a.lines.now a.marks.now p.0 p.1 p.2 p.3

pub loop-j-preserved : goal.loop-j-preserved
loop-j-preserved c =
    let now = c.loop-j in
    calling_next now.invariant (omega (arith, now.invariant.lines_long))
    c.half_cycle-turn.result c.draws_at.result
    c.half_cycle-turn.ensures.answer c.draws_at.ensures
    c.line_byte.ensures c.done_mask-mask.ensures c.counts_as-count.ensures
