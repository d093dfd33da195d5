-- `groups_ok` meets its contract. The loop's invariant: so far the test is that of the groups passed.
use mathlib.Core.Path.{◌≡◌}
use Rattle.record.specs.Layout.{record_at}
use Rattle.record.specs.ModuleTable.{groups_ok}
use Rattle.module_table.proofs.groups_ok.Given as goal

abbrev pub invariant-loop-g : goal.invariant-loop-g
invariant-loop-g l = l.ok ≡ groups_ok l.g (record_at l.t l.i)
