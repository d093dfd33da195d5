use Rattle.std.proofs.Common.{ℕ, ◌+◌, ◌-◌, ◌*◌, get_or, ap, ◌∙◌, arith}
use Rattle.lynx_net.proofs.ListLaws.{number_end, number_turn, number_fits}
use Rattle.lynx_net.proofs.payload.number_of.Goals as goal

pub loop-k-init : goal.loop-k-init
loop-k-init c = number_end c.args.units.now

pub overflow_mul-number : goal.overflow_mul-number
overflow_mul-number c =
    let now = c.loop-k in
    omega (arith, number_fits c.args.units.now now.k c.requires.0 c.requires.1 c.loop-k-test.true now.auto.k, now.invariant)

pub overflow_add-number : goal.overflow_add-number
overflow_add-number c =
    let now = c.loop-k in
    omega (arith, number_fits c.args.units.now now.k c.requires.0 c.requires.1 c.loop-k-test.true now.auto.k, now.invariant)

pub loop-k-preserved : goal.loop-k-preserved
loop-k-preserved c =
    let now = c.loop-k in
    let units = c.args.units.now in
    ap (λ (n : ℕ). n * 16 + get_or units (now.k - 1) 0) now.invariant ∙ number_turn units now.k c.loop-k-test.true now.auto.k
