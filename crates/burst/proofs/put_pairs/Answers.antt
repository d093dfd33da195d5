use mathlib.Core.Path.{◌≡◌, ap, ◌∙◌}
use Prim.Native.Nat.{ℕ}
use native.Mathlib.Omega.{arith}
use lib.Seq.{sets}
use Rattle.burst.specs.Frames.{bits_of, pairs_of}
use Rattle.burst.proofs.Writing.{pair_put}
use Rattle.burst.proofs.put_pairs.Goals as goal

pub loop-left-preserved : goal.loop-left-preserved
loop-left-preserved c =
    let now = c.loop-left in
    (omega arith, pair_put now.out now.next now.left c.args.word c.loop-left-test.true ∙ now.invariant.1)

pub returns : goal.returns
unfolding bits_of pairs_of
returns c =
    let now = c.loop-left in
    let none : 0 ≡ now.left = omega arith in
    ap (λ (k : ℕ). sets now.out now.next (pairs_of (bits_of k c.args.word))) none ∙ now.invariant.1
