-- `put_event` meets its contract: at a place past the last nothing is put; at any other the event says which line.
use borrow.Author.Tests.{le-leb, lt-leb}
use Rattle.trace_lines.specs.Lines.{room_for}
use Rattle.text.proofs.PutLaws.{put_none}
use Rattle.trace_lines.proofs.put_event.Goals as goal

pub returns-then-at-gt-LAST : goal.returns-then-at-gt-LAST
unfolding room_for
returns-then-at-gt-LAST c = rw (lt-leb _ _ c.if-at-gt-LAST.true) (put_none _ _)

pub returns-in-Nothing : goal.returns-in-Nothing
unfolding room_for
returns-in-Nothing c = rw (le-leb _ _ c.if-at-gt-LAST.false, c.in-Nothing.is) (put_none _ _)

pub returns-in-Message : goal.returns-in-Message
unfolding room_for
returns-in-Message c = rw (le-leb _ _ c.if-at-gt-LAST.false, c.in-Message.is) c.put_line.ensures

pub returns-in-Repeat : goal.returns-in-Repeat
unfolding room_for
returns-in-Repeat c = rw (le-leb _ _ c.if-at-gt-LAST.false, c.in-Repeat.is) c.put_line-in-Repeat.ensures

pub returns-in-BrokenPair : goal.returns-in-BrokenPair
unfolding room_for
returns-in-BrokenPair c = rw (le-leb _ _ c.if-at-gt-LAST.false, c.in-BrokenPair.is) c.put_line-in-BrokenPair.ensures

pub returns-in-BrokenUnsupported : goal.returns-in-BrokenUnsupported
unfolding room_for
returns-in-BrokenUnsupported c = rw (le-leb _ _ c.if-at-gt-LAST.false, c.in-BrokenUnsupported.is) c.put_line-in-BrokenUnsupported.ensures

pub returns-in-Refused : goal.returns-in-Refused
unfolding room_for
returns-in-Refused c = rw (le-leb _ _ c.if-at-gt-LAST.false, c.in-Refused.is) (put_none _ _)
