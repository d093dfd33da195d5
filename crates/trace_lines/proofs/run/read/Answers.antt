-- `read` meets its contract: a count is no more than the buffer's length.
use Rattle.std.proofs.Common.{◌≡◌, true, ◌≤◌, ◌<◌, ◌^◌, length, ℕ, zero, suc, min, ap, ◌∙◌, ℤ, pos, arith, refl, w64}
use Rattle.std.proofs.Math.Facts.{to_z_pos}
use borrow.Author.Tests.{lt-ltb, le-leb}
use lib.Dec.{eqb-suc-zero}
use Rattle.ground.proofs.Choices.{both}
use Rattle.trace_lines.specs.Runs.{got_of, got_ok}
use Rattle.trace_lines.specs.declared.run.Got.{Got}
use Rattle.trace_lines.proofs.run.read.Goals as goal

counted : (n most : ℕ) (got : Got) → got ≡ got_of (pos n) most → n ≤ most → got_ok got most ≡ true
unfolding got_of
counted zero most got e h = rw e refl
counted (suc n) most got e h =
    rw (e, eqb-suc-zero n) (both (lt-ltb 0 (min (suc n) most) (omega arith)) (le-leb (min (suc n) most) most (omega arith)))

pub returns-in-Ok : goal.returns-in-Ok
returns-in-Ok g c =
    let h = c.in-Ok.ensures.bound in
    let small : c.in-Ok.n < 2 ^ 63 = omega arith in
    counted c.in-Ok.n _ _ (c.got_of.ensures ∙ ap (λ (z : ℤ). got_of z (length c.read.new.buf)) (to_z_pos w64 small)) h.0

pub returns-in-Err : goal.returns-in-Err
unfolding got_of
returns-in-Err g c = rw c.got_of-in-Err.ensures refl
