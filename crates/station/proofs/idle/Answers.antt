-- `idle` meets its contract: an empty station is idle in its one state, and one with a message while its count is below its wait.
use mathlib.Core.Path.{sym}
use Rattle.station.specs.Stations.{station_ok, idle_of}
use Rattle.station.proofs.StateLaws.{idle_empty, idle_holds}
use Rattle.station.proofs.idle.Goals as goal

pub returns-in-None : goal.returns-in-None
unfolding idle_of station_ok
returns-in-None c =
    let s = c.args.s in
    rw c.in-None.is (sym (idle_empty s.wait s.count s.place))

pub returns-in-Some : goal.returns-in-Some
unfolding idle_of station_ok
returns-in-Some c =
    let s = c.args.s in
    rw (c.valid.ensures, c.draw_ok.ensures, c.in-Some.is)
    (sym (idle_holds c.in-Some.m s.wait s.count s.place))
