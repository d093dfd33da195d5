-- `step` meets its contract: its tests are those of both definitions, in their order.
use borrow.Author.Tests.{lt-ltb, le-ltb, eq-eqb, ne_eqb}
use Rattle.packet_lines.specs.Lines.{line_after, kept_after}
use Rattle.packet_lines.proofs.step.Goals as goal

pub returns-then-b-eq13 : goal.returns-then-b-eq13
unfolding line_after kept_after
returns-then-b-eq13 c =
    let r = eq-eqb _ _ c.if-b-eq13.true in
    record { line = simp r; kept = simp r }

pub returns-then-line-ne0 : goal.returns-then-line-ne0
unfolding line_after kept_after
returns-then-line-ne0 c =
    let r = ne_eqb _ _ c.if-b-eq13.false in
    let b = ne_eqb _ _ c.if-line-ne0.true in
    record { line = simp (r, b, c.place_after.ensures); kept = simp (r, b) }

pub returns-then-line-lt16 : goal.returns-then-line-lt16
unfolding line_after kept_after
returns-then-line-lt16 c =
    let r = ne_eqb _ _ c.if-b-eq13.false in
    let b = eq-eqb _ _ c.if-line-ne0.false in
    let w = lt-ltb _ _ c.if-line-lt16.true in
    record { line = simp (r, b, w, c.second.ensures.value); kept = simp (r, b, w, c.second.ensures.kept_after) }

pub returns : goal.returns
unfolding line_after kept_after
returns c =
    let r = ne_eqb _ _ c.if-b-eq13.false in
    let b = eq-eqb _ _ c.if-line-ne0.false in
    let w = le-ltb _ _ c.if-line-lt16.false in
    record { line = simp (r, b, w, c.first.ensures); kept = simp (r, b, w) }
