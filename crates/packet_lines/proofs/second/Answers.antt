-- `second` meets its contract: its test is that of both definitions, and what `keep` leaves is the byte of the two digits.
use mathlib.Core.Path.{sym, ap, ◌∙◌}
use Prim.Native.Nat.{ℕ}
use lib.Dec.{ltb}
use borrow.Author.Tests.{lt-ltb, le-ltb}
use Rattle.packet_lines.specs.Lines.{second_of, kept_by_second}
use Rattle.packet_lines.proofs.second.Goals as goal

pub returns-then-digit-lt16 : goal.returns-then-digit-lt16
unfolding second_of kept_by_second
returns-then-digit-lt16 c =
    let d = ap (λ (n : ℕ). ltb n 16) (sym c.digit_of-digit.ensures) ∙ lt-ltb _ _ c.if-digit-lt16.true in
    let p = c.place_after-place.ensures in
    let e = c.digit_of-digit.ensures in
    record { value = simp (p, d, c.keep-count.ensures.value); kept_after = simp (d, e, c.keep-count.ensures.kept_after) }

pub returns : goal.returns
unfolding second_of kept_by_second
returns c =
    let d = ap (λ (n : ℕ). ltb n 16) (sym c.digit_of-digit.ensures) ∙ le-ltb _ _ c.if-digit-lt16.false in
    record { value = simp (c.place_after-place.ensures, d); kept_after = simp d }
