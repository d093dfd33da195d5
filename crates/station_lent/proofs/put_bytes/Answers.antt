-- `put_bytes` meets its contract: the eight stores are the whole list anew.
use Rattle.station_lent.proofs.StationLaws.{station_placed}
use Rattle.station_lent.proofs.put_bytes.Goals as goal

pub returns : goal.returns
returns c =
    let a = c.args in
    station_placed a.s c.five_kept-five.result a.state.now c.requires c.five_kept-five.ensures
