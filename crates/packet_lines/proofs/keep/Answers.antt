-- `keep` meets its contract: its test is that of both definitions.
use mathlib.Core.Path.{refl}
use borrow.Author.Tests.{lt-ltb, le-ltb}
use Rattle.packet_lines.specs.Lines.{stored}
use Rattle.packet_lines.proofs.keep.Goals as goal

pub returns-then-count-lt-KEPT-clause-kept_after : goal.returns-then-count-lt-KEPT-clause-kept_after
unfolding stored
returns-then-count-lt-KEPT-clause-kept_after c = rw (lt-ltb _ _ c.if-count-lt-KEPT.true) (refl)

pub returns-clause-kept_after : goal.returns-clause-kept_after
unfolding stored
returns-clause-kept_after c = rw (le-ltb _ _ c.if-count-lt-KEPT.false) (refl)
