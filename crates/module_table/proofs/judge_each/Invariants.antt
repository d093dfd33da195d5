-- `judge_each` meets its contract. The loop's invariant: so far the test is that of the records passed.
use mathlib.Core.Path.{◌≡◌}
use Prim.Native.Nat.{◌*◌}
use Rattle.ground.specs.Records.{each_ok}
use Rattle.record.specs.Layout.{UNITS, modules}
use Rattle.record.specs.ModuleTable.{record_ok}
use Rattle.module_table.proofs.judge_each.Given as goal

abbrev pub invariant-loop-n : goal.invariant-loop-n
invariant-loop-n l = l.ok ≡ each_ok modules record_ok (l.house * UNITS) l.n l.t
