-- `no_styles` meets its contract. The loop's invariant: so far the test is that of the lifestyles passed.
use mathlib.Core.Path.{◌≡◌}
use Rattle.shutter.specs.Shutters.{no_lifestyles}
use Rattle.shutter_table.specs.ShutterTable.{shutter_at}
use Rattle.shutter_table.proofs.no_styles.Given as goal

abbrev pub invariant-loop-l : goal.invariant-loop-l
invariant-loop-l l = l.none ≡ no_lifestyles l.l (shutter_at l.t l.i)
