-- `units_fit` meets its contract. The loop's invariant: so far the units passed fit, or not.
use Rattle.std.proofs.Common.{◌≡◌, leb, get_or}
use Rattle.ground.specs.Records.{all_below}
use Rattle.lynx_net.proofs.payload.units_fit.Given as goal

abbrev pub invariant-loop-unit : goal.invariant-loop-unit
invariant-loop-unit l = l.fit ≡ all_below l.unit-index (λ i. leb (get_or l.units i 0) 15)
