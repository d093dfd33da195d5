-- `first` meets its contract: its tests are those of `first_of`.
use mathlib.Core.Path.{sym, ap, ◌∙◌}
use Prim.Native.Nat.{ℕ}
use lib.Dec.{ltb}
use borrow.Author.Tests.{lt-ltb, le-ltb}
use Rattle.packet_lines.specs.Lines.{first_of}
use Rattle.packet_lines.proofs.first.Goals as goal

pub returns-then-digit-lt16 : goal.returns-then-digit-lt16
unfolding first_of
returns-then-digit-lt16 c =
    let d = ap (λ (n : ℕ). ltb n 16) (sym c.digit_of-digit.ensures) ∙ lt-ltb _ _ c.if-digit-lt16.true in
    simp (c.place_after-place.ensures, c.digit_of-digit.ensures, d)

pub returns-then-b : goal.returns-then-b
unfolding first_of
returns-then-b c =
    let d = ap (λ (n : ℕ). ltb n 16) (sym c.digit_of-digit.ensures) ∙ le-ltb _ _ c.if-digit-lt16.false in
    simp (c.place_after-place.ensures, d, c.if-b.true)

pub returns : goal.returns
unfolding first_of
returns c =
    let d = ap (λ (n : ℕ). ltb n 16) (sym c.digit_of-digit.ensures) ∙ le-ltb _ _ c.if-digit-lt16.false in
    simp (c.place_after-place.ensures, d, c.if-b.false)
