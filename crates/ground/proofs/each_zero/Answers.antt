use Rattle.std.proofs.Common.{◌≡◌, ℕ, refl, ap, ◌∙◌, eqb, get_or, length, arith, add-one}
use Rattle.ground.specs.Records.{all_below}
use Rattle.ground.proofs.each_zero.Goals as goal

pub loop-x-init : goal.loop-x-init
unfolding all_below
loop-x-init c = refl

pub loop-x-preserved : goal.loop-x-preserved
unfolding all_below
loop-x-preserved c = simp (add-one, c.loop-x.invariant)

pub returns : goal.returns
returns c =
    let t = c.args.t.now in
    let end : c.loop-x.x-index ≡ length t = omega arith in
    c.loop-x.invariant ∙ ap (λ (n : ℕ). all_below n (λ i. eqb (get_or t i 0) 0)) end
