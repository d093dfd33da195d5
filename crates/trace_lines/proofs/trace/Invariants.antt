-- `trace` meets its contract: after each turn the trace stands where the bytes taken lead it, and their lines are in the buffer
-- (`Going`); it ends where the definition takes no further byte.
use mathlib.Core.Path.{◌≡◌}
use mathlib.Core.Bool.{false}
use Rattle.trace_lines.proofs.TraceLaws.{Going}
use Rattle.trace_lines.proofs.trace.Given as goal

abbrev pub invariant-loop-b : goal.invariant-loop-b
invariant-loop-b l = Going l.input l.initial.out l.initial.q l.out l.q l.at l.b-index × (l.q.stopped ≡ false) × (l.taken ≡ l.b-index)
