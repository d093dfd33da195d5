-- `pair` meets its contract: `pair_of` goes by what the bits say, and so does the match.
use mathlib.Core.Path.{sym, ◌∙◌}
use Rattle.receiver.specs.Receivers.{pair_of}
use Rattle.receiver.proofs.pair.Goals as goal

pub returns-in-Message : goal.returns-in-Message
unfolding pair_of
returns-in-Message c = simp (c.complete.ensures, sym c.reading.ensures ∙ c.in-Message.is)

pub returns-in-Longer : goal.returns-in-Longer
unfolding pair_of
returns-in-Longer c = simp (c.saying.ensures, sym c.reading.ensures ∙ c.in-Longer.is)

pub returns-in-Unsupported : goal.returns-in-Unsupported
unfolding pair_of
returns-in-Unsupported c = simp (c.saying-in-Unsupported.ensures, c.waits.ensures, sym c.reading.ensures ∙ c.in-Unsupported.is)
