-- `half_cycle` meets its contract: what `advance` answered tells which cause applies, and none does where the station is put back.
use Rattle.std.specs.Prelude.{Result, Ok}
use mathlib.Core.Path.{refl, ap, ◌∙◌}
use Rattle.ground.specs.declared.Refusal.{Refusal}
use Rattle.station.specs.declared.Turned.{Turned}
use Rattle.station.specs.declared.Turned.TheVariants as turn
use Rattle.station_lent.specs.StationBytes.{turned_answer, turned_after}
use Rattle.station_lent.proofs.StationLaws.{turn_length, turn_done, turn_refused}
use Rattle.station_lent.proofs.half_cycle.Goals as goal

pub put_bytes-requires : goal.put_bytes-requires
put_bytes-requires c =
    let a = c.args in
    turn_length a.state.now a.heard a.draw c.station_in.result c.station_in.ensures c.advance-turn.result
    (c.advance-turn.ensures.answer, c.advance-turn.ensures.report) _ c.in-Ok.is

pub returns-in-Going : goal.returns-in-Going
unfolding turned_answer turned_after
returns-in-Going c =
    let a = c.args in
    let took = c.in-Ok.is ∙ ap {B = Result Turned Refusal} Ok c.in-Going.is in
    let owed = turn_done a.state.now a.heard a.draw c.station_in.result c.station_in.ensures c.advance-turn.result
    (c.advance-turn.ensures.answer, c.advance-turn.ensures.report) turn.Going took c.put_bytes.ensures in
    record { answer = owed.0; report = owed.1.0; state = owed.1.1 }

pub returns-in-Done : goal.returns-in-Done
unfolding turned_answer turned_after
returns-in-Done c =
    let a = c.args in
    let took = c.in-Ok.is ∙ ap {B = Result Turned Refusal} Ok c.in-Done.is in
    let owed = turn_done a.state.now a.heard a.draw c.station_in.result c.station_in.ensures c.advance-turn.result
    (c.advance-turn.ensures.answer, c.advance-turn.ensures.report) turn.Done took c.put_bytes.ensures in
    record { answer = owed.0; report = owed.1.0; state = owed.1.1 }

pub returns-in-Err : goal.returns-in-Err
unfolding turned_answer turned_after
returns-in-Err c =
    let a = c.args in
    let owed = turn_refused a.state.now a.heard a.draw c.station_in.result c.station_in.ensures c.advance-turn.result
    (c.advance-turn.ensures.answer, c.advance-turn.ensures.report) _ c.in-Err.is refl in
    record { answer = owed.0; report = owed.1.0; state = owed.1.1 }
