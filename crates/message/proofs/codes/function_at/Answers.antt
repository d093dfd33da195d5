-- `codes::function_at` meets its contract: what the code stands for is one of three, and each arm names it.
use mathlib.Core.Path.{refl, sym, ◌∙◌}
use Rattle.ground.specs.Refusals.{judged}
use Rattle.message.specs.Codes.{function_answer}
use Rattle.message.proofs.codes.function_at.Goals as goal

pub returns-in-Function : goal.returns-in-Function
unfolding function_answer judged
returns-in-Function c =
    record { answer = simp (sym c.meaning_at.ensures ∙ c.in-Function.is) (refl); number = simp (sym c.meaning_at.ensures ∙ c.in-Function.is) (refl) }

pub returns-in-Extended : goal.returns-in-Extended
unfolding function_answer judged
returns-in-Extended c =
    record { answer = simp (sym c.meaning_at.ensures ∙ c.in-Extended.is) (refl); number = simp (sym c.meaning_at.ensures ∙ c.in-Extended.is) (refl) }

pub returns-in-Unsupported : goal.returns-in-Unsupported
unfolding function_answer judged
returns-in-Unsupported c =
    record { answer = simp (sym c.meaning_at.ensures ∙ c.in-Unsupported.is) (refl); number = simp (sym c.meaning_at.ensures ∙ c.in-Unsupported.is) (refl) }
