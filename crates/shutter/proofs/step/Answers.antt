-- `step` meets its contract: a shutter that is present is moved and cut, and another stays.
use borrow.Author.Tests.{eq-eqb, ne_eqb}
use Rattle.shutter.specs.Shutters.{step_shutter}
use Rattle.shutter.proofs.step.Goals as goal

pub returns-then-s-eq1 : goal.returns-then-s-eq1
unfolding step_shutter
returns-then-s-eq1 c = simp (c.cut.ensures, c.moved.ensures, eq-eqb _ _ c.if-s-eq1.true)

pub returns-else-s-eq1 : goal.returns-else-s-eq1
unfolding step_shutter
returns-else-s-eq1 c = simp (ne_eqb _ _ c.if-s-eq1.false)
