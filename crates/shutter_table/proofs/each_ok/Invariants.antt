-- `each_ok` meets its contract. The loop's invariant: the shutters passed keep the rules. It ends at one that does not, or when all do.
use mathlib.Core.Path.{◌≡◌}
use mathlib.Core.Bool.{true}
use Prim.Native.Nat.{◌+◌, ◌*◌}
use Rattle.ground.specs.Records.{all_below}
use Rattle.shutter.specs.Shutters.{shutter_ok}
use Rattle.shutter_table.specs.Eights.{EIGHT}
use Rattle.shutter_table.specs.ShutterTable.{shutter_at}
use Rattle.shutter_table.proofs.each_ok.Given as goal

abbrev pub invariant-loop-n : goal.invariant-loop-n
invariant-loop-n l = all_below l.n (λ k. shutter_ok (shutter_at l.t (l.e * EIGHT + k))) ≡ true
