-- `all_heard_ok` meets its contract. The loop's invariant: so far the test is that of the houses passed.
use mathlib.Core.Path.{◌≡◌}
use Rattle.ground.specs.Records.{all_below}
use Rattle.record.specs.Layout.{house_at}
use Rattle.record.specs.ModuleTable.{heard_ok}
use Rattle.module_table.proofs.all_heard_ok.Given as goal

abbrev pub invariant-loop-h : goal.invariant-loop-h
invariant-loop-h l = l.ok ≡ all_below l.h (λ g. heard_ok (house_at l.t g).heard)
