-- `awaits` meets its contract: whether the half-cycle is the awaited one picks the case of `await_of`.
use mathlib.Core.Path.{sym, ◌∙◌}
use borrow.Author.Tests.{eq-eqb, ne_eqb}
use Rattle.receiver.specs.Receivers.{await_of}
use Rattle.receiver.proofs.awaits.Goals as goal

pub returns-then-half-awaited : goal.returns-then-half-awaited
unfolding await_of
returns-then-half-awaited c = simp (c.hunt.ensures, ne_eqb _ _ (λ e. c.if-half-awaited.true (e ∙ sym c.awaited.ensures)))

pub returns : goal.returns
unfolding await_of
returns c = simp (c.saying.ensures, c.shift.ensures, eq-eqb _ _ (c.if-half-awaited.false ∙ c.awaited.ensures))
