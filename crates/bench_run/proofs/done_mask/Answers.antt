use mathlib.Core.Path.{◌≡◌, ap, sym}
use mathlib.Core.Bool.{false}
use Prim.Native.Nat.{◌≤◌}
use native.Mathlib.Omega.{arith}
use lib.ListN.{length, drop_of_length-le}
use borrow.Author.Rules.{rules}
use Rattle.bench_run.specs.BenchRuns.{done_mask}
use Rattle.bench_run.proofs.CallLaws.{mask_cons}
use Rattle.bench_run.proofs.done_mask.Goals as goal

pub loop-left-init : goal.loop-left-init
unfolding done_mask
loop-left-init c =
    let done = c.args.done in
    let long : length done ≡ 16 = search rules in
    let all : length done ≤ 16 = omega arith in
    (long, ap done_mask (sym (drop_of_length-le done all)))

pub loop-left-preserved : goal.loop-left-preserved
loop-left-preserved c =
    let now = c.loop-left in
    let done = c.args.done in
    let more = mask_cons done now.left now.mask c.bit_of.result false c.loop-left-test.true (omega arith) now.invariant.0 in
    (now.invariant.0, more now.invariant.1 c.bit_of.ensures.0)
