-- `complete` meets its contract: whether the message is a repeat picks the case of `complete_of`.
use mathlib.Core.Path.{sym, ◌∙◌}
use Rattle.receiver.specs.Receivers.{complete_of}
use Rattle.receiver.proofs.complete.Goals as goal

pub returns-then-is_repeat : goal.returns-then-is_repeat
unfolding complete_of
returns-then-is_repeat c = simp (c.saying.ensures, c.hunts.ensures, sym c.is_repeat.ensures ∙ c.if-is_repeat.true)

pub returns : goal.returns
unfolding complete_of
returns c = simp (c.saying-2.ensures, sym c.is_repeat.ensures ∙ c.if-is_repeat.false)
