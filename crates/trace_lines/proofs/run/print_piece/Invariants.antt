-- `print_piece` meets its contract: from where the trace stands, the rest of the piece leads where the whole piece leads, and the buffers
-- of the rest come where those of the whole piece come. A trace that goes on has taken at least one byte, so the loop ends. What is to be
-- written fits into the buffer, as no line is longer than the room that is kept for it.
use mathlib.Core.Path.{◌≡◌}
use Prim.Native.Nat.{◌-◌, ◌≤◌}
use lib.ListN.{length, drop}
use Rattle.trace_lines.specs.Trace.{progress_after}
use Rattle.trace_lines.specs.Runs.{buffers_of, buffer_after}
use Rattle.trace_lines.proofs.run.print_piece.Given as goal

abbrev pub invariant-loop-from : goal.invariant-loop-from
invariant-loop-from g l =
    (l.from ≤ length l.input)
    × (progress_after l.q (drop l.from l.input) ≡ progress_after l.initial.q l.input)
    × (buffer_after l.out (buffers_of l.q (drop l.from l.input)) ≡ buffer_after l.initial.out (buffers_of l.initial.q l.input))

abbrev pub decreases-loop-from : goal.decreases-loop-from
decreases-loop-from g l = length l.input - l.from
