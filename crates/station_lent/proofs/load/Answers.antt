-- `load` meets its contract: what `station::load` answered tells which cause applies, and none does where the station is put back.
use mathlib.Core.Path.{refl}
use Rattle.station_lent.specs.StationBytes.{loaded_answer, loaded_after}
use Rattle.station_lent.proofs.StationLaws.{load_length, load_done, load_refused}
use Rattle.station_lent.proofs.load.Goals as goal

pub put_bytes-requires : goal.put_bytes-requires
put_bytes-requires c =
    let a = c.args in
    load_length a.state.now a.m a.draw c.station_in.result c.station_in.ensures c.load-loading.result
    (c.load-loading.ensures.answer, c.load-loading.ensures.report) c.in-Ok.is

pub returns-in-Ok : goal.returns-in-Ok
unfolding loaded_answer loaded_after
returns-in-Ok c =
    let a = c.args in
    let owed = load_done a.state.now a.m a.draw c.station_in.result c.station_in.ensures c.load-loading.result
    (c.load-loading.ensures.answer, c.load-loading.ensures.report) c.in-Ok.is c.put_bytes.ensures in
    record { answer = owed.0; report = owed.1.0; state = owed.1.1 }

pub returns-in-Err : goal.returns-in-Err
unfolding loaded_answer loaded_after
returns-in-Err c =
    let a = c.args in
    let owed = load_refused a.state.now a.m a.draw c.station_in.result c.station_in.ensures c.load-loading.result
    (c.load-loading.ensures.answer, c.load-loading.ensures.report) _ c.in-Err.is refl in
    record { answer = owed.0; report = owed.1.0; state = owed.1.1 }
