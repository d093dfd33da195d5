-- `print_half` meets its contract: the event and the receiver are those of `step_of`, and whether the number is the greatest picks the
-- case of `half_after`.
use borrow.Author.Tests.{le-leb, eq-eqb, ne_eqb}
use Rattle.trace_lines.specs.Lines.{room_for}
use Rattle.trace_lines.specs.Trace.{half_after}
use Rattle.text.proofs.PutLaws.{put_as}
use Rattle.trace_lines.proofs.print_half.Goals as goal

pub returns-then-p-eq-GREATEST : goal.returns-then-p-eq-GREATEST
unfolding half_after room_for
returns-then-p-eq-GREATEST c =
    let a = c.args in (
      simp (c.step-heard.ensures.answer, eq-eqb _ _ c.if-p-eq-GREATEST.true),
      put_as (simp (c.step-heard.ensures.answer, le-leb _ _ c.requires)) c.put_event-place.ensures,
    )

pub returns : goal.returns
unfolding half_after room_for
returns c = (
  simp (c.step-heard.ensures.answer, ne_eqb _ _ c.if-p-eq-GREATEST.false),
  put_as (simp (c.step-heard.ensures.answer, le-leb _ _ c.requires)) c.put_event-place.ensures,
)
