-- `station_in` meets its contract: eight bytes, and then what the first five of them keep.
use borrow.Author.Tests.{eq-eqb, ne_eqb}
use Rattle.station_lent.specs.StationBytes.{station_in}
use Rattle.station_lent.proofs.station_in.Goals as goal

pub returns-then-state-ne-STATION_BYTES : goal.returns-then-state-ne-STATION_BYTES
unfolding station_in
returns-then-state-ne-STATION_BYTES c = simp (ne_eqb _ _ c.if-state-ne-STATION_BYTES.true) c.no_station.ensures

pub returns-in-Ok : goal.returns-in-Ok
unfolding station_in
returns-in-Ok c =
    simp (
      eq-eqb _ _ c.if-state-ne-STATION_BYTES.false,
      ← c.kept_from.ensures.answer,
      c.in-Ok.is,
    ) c.station_with.ensures

pub returns-in-Err : goal.returns-in-Err
unfolding station_in
returns-in-Err c =
    simp (
      eq-eqb _ _ c.if-state-ne-STATION_BYTES.false,
      ← c.kept_from.ensures.answer,
      c.in-Err.is,
    ) c.no_station-in-Err.ensures
