use Rattle.std.proofs.Common.{sym, arith, eqb, ne_eqb, get_or, length}
use Rattle.ground.specs.Records.{all_below}
use Rattle.ground.proofs.Records.{below_not}
use Rattle.ground.proofs.zeros.Goals as goal

pub returns-then-t-eq0 : goal.returns-then-t-eq0
unfolding all_below
returns-then-t-eq0 c = simp c.if-t-eq0.true

pub returns-then-t-ne0 : goal.returns-then-t-ne0
returns-then-t-ne0 c =
    let t = c.args.t.now in
    sym (below_not (λ k. eqb (get_or t k 0) 0) (length t) 0 (omega arith) (ne_eqb _ _ c.if-t-ne0.true))
