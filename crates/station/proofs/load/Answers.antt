-- `load` meets its contract: the tests are those of `load_causes`, in its order.
use Rattle.std.specs.Prelude.{Ok, Err}
use mathlib.Core.Path.{ap}
use Rattle.ground.proofs.Causes.{ladder}
use Rattle.ground.specs.declared.Refusal.TheVariants as refusal
use Rattle.station.specs.Stations.{load_of}
use Rattle.station.specs.declared.Station.{Station}
use Rattle.station.specs.declared.Loading.{Loading}
use Rattle.station.proofs.SendLaws.{is_empty_lem, not_empty}
use Rattle.station.proofs.TurnLaws.{load_promise}
use Rattle.station.proofs.load.Goals as goal

pub returns-then-not-valid : goal.returns-then-not-valid
unfolding load_of
returns-then-not-valid c =
    let a = c.args in
    let told = load_promise {o = record { answer = Err refusal.Message; next = a.s }} a.s a.m a.draw (search ladder) in
    record { answer = told.0; report = told.1 }

pub returns-then-not-station_ok : goal.returns-then-not-station_ok
unfolding load_of
returns-then-not-station_ok c =
    let a = c.args in
    let told = load_promise {o = record { answer = Err refusal.State; next = a.s }} a.s a.m a.draw (search ladder) in
    record { answer = told.0; report = told.1 }

pub returns-then-not-draw_ok : goal.returns-then-not-draw_ok
unfolding load_of
returns-then-not-draw_ok c =
    let a = c.args in
    let told = load_promise {o = record { answer = Err refusal.Draw; next = a.s }} a.s a.m a.draw (search ladder depth 8) in
    record { answer = told.0; report = told.1 }

pub returns-in-None : goal.returns-in-None
unfolding load_of
returns-in-None c =
    let a = c.args in
    let next = ap {B = Loading} (λ (s : Station). record { answer = Ok tt; next = s }) c.at_start.ensures in
    let told = load_promise {o = record { answer = Ok tt; next = c.at_start.result }} a.s a.m a.draw (search (ladder, is_empty_lem) depth 8) in
    record { answer = told.0; report = told.1 }

pub returns-in-Some : goal.returns-in-Some
unfolding load_of
returns-in-Some c =
    let a = c.args in
    let told = load_promise {o = record { answer = Err refusal.Busy; next = a.s }} a.s a.m a.draw (search (ladder, not_empty) depth 8) in
    record { answer = told.0; report = told.1 }
