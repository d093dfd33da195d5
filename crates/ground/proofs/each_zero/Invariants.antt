use Rattle.std.proofs.Common.{◌≡◌, eqb, get_or}
use Rattle.ground.specs.Records.{all_below}
use Rattle.ground.proofs.each_zero.Given as goal

-- so far the bytes passed are zeros, or not
abbrev pub invariant-loop-x : goal.invariant-loop-x
invariant-loop-x l = l.none ≡ all_below l.x-index (λ i. eqb (get_or l.t i 0) 0)
