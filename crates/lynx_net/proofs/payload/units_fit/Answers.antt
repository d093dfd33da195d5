use Rattle.std.proofs.Common.{◌≡◌, ℕ, leb, length, get_or, refl, ap, ◌∙◌, add-one, arith}
use Rattle.ground.specs.Records.{all_below}
use Rattle.lynx_net.proofs.payload.units_fit.Goals as goal

pub loop-unit-init : goal.loop-unit-init
unfolding all_below
loop-unit-init c = refl

pub loop-unit-preserved : goal.loop-unit-preserved
unfolding all_below
loop-unit-preserved c = simp (add-one, c.loop-unit.invariant)

pub returns : goal.returns
returns c =
    let us = c.args.units.now in
    let end : c.loop-unit.unit-index ≡ length us = omega arith in
    c.loop-unit.invariant ∙ ap (λ (n : ℕ). all_below n (λ i. leb (get_or us i 0) 15)) end
