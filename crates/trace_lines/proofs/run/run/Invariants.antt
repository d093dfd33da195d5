-- `run::run` meets its contract: one turn more each time, and the run went on after each before (`Before`). The measure is the number of
-- reads that can still be counted.
use mathlib.Core.Path.{◌≡◌}
use mathlib.Core.Bool.{true}
use mathlib.Core.List.{List}
use Prim.Native.Nat.{ℕ, ◌-◌, ◌<◌}
use lib.ListN.{length}
use Rattle.trace_lines.specs.Trace.{GREATEST, trace_start, progress_after}
use Rattle.trace_lines.specs.Runs.{buffer_after, Had}
use Rattle.trace_lines.specs.Runs.{all_read, all_fit, all_buffers, all_go_on}
use Rattle.trace_lines.specs.declared.Progress.{Progress}
use Rattle.trace_lines.proofs.run.run.Given as goal

-- where the run stands before a turn
pub record Before (most : ℕ) (out₀ out : List ℕ) (p : Progress) (reads : ℕ) : Type 0 where
  pub turns : List Had
  pub count : reads ≡ length turns
  pub fit : all_fit most turns ≡ true
  pub went_on : all_go_on trace_start turns ≡ true
  pub stands : p ≡ progress_after trace_start (all_read turns)
  pub buffers : out ≡ buffer_after out₀ (all_buffers trace_start turns)

abbrev pub invariant-loop-reads : goal.invariant-loop-reads
invariant-loop-reads g l =
    Before (length l.initial.input) l.initial.out l.out l.p l.reads × (l.reads < GREATEST) × (length l.input ≡ length l.initial.input)

abbrev pub decreases-loop-reads : goal.decreases-loop-reads
decreases-loop-reads g l = GREATEST - l.reads
