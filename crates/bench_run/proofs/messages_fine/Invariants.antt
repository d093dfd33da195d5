-- `messages_fine` meets its contract: at each turn the messages that are left decide. A turn judges the first of them.
use mathlib.Core.Path.{◌≡◌}
use Prim.Native.Nat.{◌-◌, ◌*◌, ◌/◌}
use lib.ListN.{length, drop}
use Rattle.bench_run.specs.BenchRuns.{all_say}
use Rattle.bench_run.proofs.messages_fine.Given as goal

abbrev pub invariant-loop-i : goal.invariant-loop-i
invariant-loop-i l = all_say (length l.messages / 5 - l.i) (drop (5 * l.i) l.messages) ≡ all_say (length l.messages / 5) l.messages
