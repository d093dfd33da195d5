-- `all_ok` meets its contract. The loop's invariant: so far the test is that of the shutters of the eights passed.
use mathlib.Core.Path.{◌≡◌}
use Prim.Native.Nat.{◌*◌}
use Rattle.ground.specs.Records.{all_below}
use Rattle.shutter.specs.Shutters.{shutter_ok}
use Rattle.shutter_table.specs.Eights.{EIGHT}
use Rattle.shutter_table.specs.ShutterTable.{shutter_at}
use Rattle.shutter_table.proofs.all_ok.Given as goal

abbrev pub invariant-loop-e : goal.invariant-loop-e
invariant-loop-e l = l.ok ≡ all_below (l.e * EIGHT) (λ i. shutter_ok (shutter_at l.t i))
