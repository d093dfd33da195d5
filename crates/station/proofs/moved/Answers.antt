-- `moved` meets its contract: an empty station stays, and one with a message has the numbers of its move, or is empty when done.
use mathlib.Core.Path.{sym}
use Rattle.station.proofs.TurnLaws.{Movable, turn_empty}
use Rattle.station.proofs.moved.Goals as goal

pub returns-in-None : goal.returns-in-None
returns-in-None c =
    let p = c.requires in
    let a = c.args in
    let r : Movable a.s a.sent a.heard a.draw = record {
      half = p.sent_le_heard.1;
      ok = p.s_value.0;
      drawn = p.s_value.1;
      is = p.s_value_2;
      kept = p.sent_le_heard.0;
    } in
    sym (turn_empty r c.in-None.is)
