-- `put_fields` meets its contract: in each arm the line is the one that the pattern names, and the bytes put are its fields.
use Rattle.ground.specs.Text.{bytes_of, bytes_from}
use Rattle.text.specs.Texts.{digits_up_to}
use Rattle.trace_lines.specs.Lines.{fields_of}
use Rattle.trace_lines.proofs.put_fields.Goals as goal

pub returns-in-Message : goal.returns-in-Message
unfolding fields_of
returns-in-Message c = rw c.in-Message.is c.put_message.ensures

pub returns-in-Repeat : goal.returns-in-Repeat
unfolding fields_of bytes_of bytes_from
returns-in-Repeat c = rw c.in-Repeat.is c.put_bytes.ensures

pub returns-in-BrokenPair : goal.returns-in-BrokenPair
unfolding fields_of digits_up_to bytes_of bytes_from
returns-in-BrokenPair c = rw c.in-BrokenPair.is c.put_bytes-in-BrokenPair.ensures

pub returns-in-BrokenUnsupported : goal.returns-in-BrokenUnsupported
unfolding fields_of digits_up_to bytes_of bytes_from
returns-in-BrokenUnsupported c = rw c.in-BrokenUnsupported.is c.put_bytes-in-BrokenUnsupported.ensures

pub returns-in-BadByte : goal.returns-in-BadByte
unfolding fields_of bytes_of bytes_from
returns-in-BadByte c = rw c.in-BadByte.is c.put_bytes-in-BadByte.ensures
