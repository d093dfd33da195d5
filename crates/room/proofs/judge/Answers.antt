-- `judge` meets its contract: its tests are the causes of a route's tables, in their order.
use Rattle.ground.proofs.Causes.{ladder}
use Rattle.room.specs.Lent.{room_verdict}
use Rattle.room.proofs.judge.Goals as goal

pub returns-then-table-ne-TABLE_BYTES : goal.returns-then-table-ne-TABLE_BYTES
unfolding room_verdict
returns-then-table-ne-TABLE_BYTES c = search ladder

pub returns-then-shutters-ne-SHUTTER_TABLE_BYTES : goal.returns-then-shutters-ne-SHUTTER_TABLE_BYTES
unfolding room_verdict
returns-then-shutters-ne-SHUTTER_TABLE_BYTES c = search ladder

pub returns-then-not-valid : goal.returns-then-not-valid
unfolding room_verdict
returns-then-not-valid c = search ladder

pub returns-then-not-valid-2 : goal.returns-then-not-valid-2
unfolding room_verdict
returns-then-not-valid-2 c = search ladder

pub returns : goal.returns
unfolding room_verdict
returns c = search ladder
