-- `address` meets its contract: the kind with the house, and then the unit.
use native.Mathlib.Omega.{arith}
use Rattle.ground.specs.Text.{bytes_of, bytes_from}
use Rattle.text.specs.Texts.{trimmed, message_text}
use Rattle.text.proofs.PutLaws.{put_then}
use Rattle.text.proofs.TextLaws.{text_put}
use Rattle.text.proofs.address.Goals as goal

pub head-t-requires : goal.head-t-requires
unfolding trimmed
head-t-requires c = omega arith

pub put_unit-requires : goal.put_unit-requires
unfolding trimmed
put_unit-requires c = omega arith

pub returns : goal.returns
unfolding message_text trimmed bytes_of bytes_from
returns c = text_put (put_then c.head-t.ensures c.put_unit.ensures)
