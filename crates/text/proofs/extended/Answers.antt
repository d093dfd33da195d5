-- `extended` meets its contract: the kind with the house, the unit and the two bytes, one after the other.
use native.Mathlib.Omega.{arith}
use Rattle.ground.specs.Text.{bytes_of, bytes_from}
use Rattle.text.specs.Texts.{trimmed, message_text}
use Rattle.text.proofs.PutLaws.{put_then}
use Rattle.text.proofs.TextLaws.{unit_at_most, text_put}
use Rattle.text.proofs.extended.Goals as goal

pub head-t-requires : goal.head-t-requires
unfolding trimmed
head-t-requires c = omega arith

pub put_unit-requires : goal.put_unit-requires
unfolding trimmed
put_unit-requires c = omega arith

pub put_data-requires : goal.put_data-requires
unfolding trimmed
put_data-requires c = omega (arith, unit_at_most c.args.unit (omega arith))

pub put_data-requires-2 : goal.put_data-requires-2
unfolding trimmed
put_data-requires-2 c = omega (arith, unit_at_most c.args.unit (omega arith))

pub returns : goal.returns
unfolding message_text trimmed bytes_of bytes_from
returns c =
    text_put
    (put_then c.head-t.ensures
    (put_then c.put_unit.ensures (put_then c.put_data.ensures c.put_data-2.ensures)))
