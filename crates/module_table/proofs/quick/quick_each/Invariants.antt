-- `quick_each` meets its contract. The loop's invariant: where no bit is set the records passed keep the rules, and the number is theirs.
use mathlib.Core.Path.{◌≡◌}
use mathlib.Core.Bool.{true}
use Prim.Native.Nat.{◌*◌, ◌≤◌}
use Rattle.ground.specs.Records.{each_ok}
use Rattle.record.specs.Layout.{UNITS, modules}
use Rattle.record.specs.ModuleTable.{record_ok, lit_to}
use Rattle.module_table.proofs.quick.quick_each.Given as goal

abbrev pub invariant-loop-n : goal.invariant-loop-n
invariant-loop-n l = (l.lit ≤ l.n) × (l.bad ≡ 0 → each_ok modules record_ok (l.house * UNITS) l.n l.t ≡ true) × (l.lit ≡ lit_to l.t l.house l.n)
