-- `step_house` meets its contract. The loop's invariant: Turn, by which the records passed are stepped and the count is that of the levels
-- changed so far, and the number of lit modules among them.
use mathlib.Core.Path.{◌≡◌}
use Prim.Native.Nat.{◌*◌, ◌≤◌}
use Rattle.ground.proofs.Records.{Turn}
use Rattle.record.specs.Layout.{UNITS, RECORDS, modules}
use Rattle.record.specs.ModuleTable.{lit_to, step_record, level_of}
use Rattle.module_table.proofs.step_house.Given as goal

abbrev pub invariant-loop-n : goal.invariant-loop-n
invariant-loop-n l = Turn modules level_of (step_record l.act l.own) (l.house * UNITS) UNITS RECORDS l.initial.t l.t l.count l.n × (l.lit ≡ lit_to l.t l.house l.n) × (l.lit ≤ l.n)
