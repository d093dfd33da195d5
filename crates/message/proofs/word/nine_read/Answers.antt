-- `word::nine_read` meets its contract: the function bit, and then what the code stands for, say which case of `standard_of` holds.
use mathlib.Core.Path.{sym, ◌∙◌}
use Rattle.message.specs.Words.{standard_of}
use borrow.Author.Tests.{eq-eqb, ne_eqb}
use Rattle.message.proofs.word.nine_read.Goals as goal

pub returns-then-bits-eq0 : goal.returns-then-bits-eq0
unfolding standard_of
returns-then-bits-eq0 c = simp (c.line_number-house.ensures, c.line_number-unit.ensures, eq-eqb _ _ c.if-bits-eq0.true)

pub returns-in-Function : goal.returns-in-Function
unfolding standard_of
returns-in-Function c =
    simp (
      c.line_number-house.ensures,
      ne_eqb _ _ c.if-bits-eq0.false,
      sym
          c.meaning_at.ensures ∙ c.in-Function.is,
    )

pub returns-in-Extended : goal.returns-in-Extended
unfolding standard_of
returns-in-Extended c = simp (ne_eqb _ _ c.if-bits-eq0.false, sym c.meaning_at.ensures ∙ c.in-Extended.is)

pub returns-in-Unsupported : goal.returns-in-Unsupported
unfolding standard_of
returns-in-Unsupported c = simp (ne_eqb _ _ c.if-bits-eq0.false, sym c.meaning_at.ensures ∙ c.in-Unsupported.is)
