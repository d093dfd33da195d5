-- `places` meets its contract: each turn takes the last digit off and counts it, and what is left has as many digits fewer. A number
-- below 10 ^ 20 has no more than twenty, so the count stays below 21.
use mathlib.Core.Path.{◌≡◌}
use Prim.Native.Nat.{◌+◌, ◌-◌, ◌^◌, ◌≤◌, ◌<◌}
use lib.ListN.{length}
use Rattle.text.specs.Texts.{digits_up_to}
use Rattle.text.proofs.places.Given as goal

abbrev pub invariant-loop-rest : goal.invariant-loop-rest
invariant-loop-rest l = (1 ≤ l.k) × (l.k ≤ 20) × (l.rest < 10 ^ (21 - l.k)) × (length (digits_up_to 20 l.number) + 1 ≡ l.k + length (digits_up_to (21 - l.k) l.rest))

abbrev pub decreases-loop-rest : goal.decreases-loop-rest
decreases-loop-rest l = l.rest
