-- `all_units_ok` meets its contract. The loop's invariant: so far the test is that of the houses passed.
use mathlib.Core.Path.{◌≡◌}
use Rattle.ground.specs.Records.{all_below}
use Rattle.module_table.specs.Units.{units_ok}
use Rattle.module_table.proofs.all_units_ok.Given as goal

abbrev pub invariant-loop-house : goal.invariant-loop-house
invariant-loop-house l = l.ok ≡ all_below l.house (units_ok l.t)
