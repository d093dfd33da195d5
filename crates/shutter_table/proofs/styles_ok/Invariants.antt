-- `styles_ok` meets its contract. The loop's invariant: so far the test is that of the lifestyles passed.
use mathlib.Core.Path.{◌≡◌}
use Rattle.shutter.specs.Shutters.{lifestyles_ok}
use Rattle.shutter_table.specs.ShutterTable.{shutter_at}
use Rattle.shutter_table.proofs.styles_ok.Given as goal

abbrev pub invariant-loop-l : goal.invariant-loop-l
invariant-loop-l l = l.ok ≡ lifestyles_ok l.l (shutter_at l.t l.i)
