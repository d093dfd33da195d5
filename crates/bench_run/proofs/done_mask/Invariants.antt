-- `done_mask` meets its contract: the mask is that of the stations passed, from the last one down; one more bit always fits.
use mathlib.Core.Path.{◌≡◌}
use lib.ListN.{length, drop}
use Rattle.bench_run.specs.BenchRuns.{done_mask}
use Rattle.bench_run.proofs.done_mask.Given as goal

abbrev pub invariant-loop-left : goal.invariant-loop-left
invariant-loop-left l = (length l.done ≡ 16) × (l.mask ≡ done_mask (drop l.left l.done))
