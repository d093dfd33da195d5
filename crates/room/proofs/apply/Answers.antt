-- `apply` meets its contract: the five tests are made in the order of its causes, and past them it is `apply_valid`.
use Rattle.ground.proofs.Causes.{ladder}
use Rattle.room.specs.Rooms.{room_of, apply_answer, room_after}
use Rattle.room.proofs.ApplyLaws.{apply_reported}
use Rattle.room.proofs.apply.Goals as goal

pub returns-then-table-ne-TABLE_BYTES : goal.returns-then-table-ne-TABLE_BYTES
unfolding apply_answer room_after
returns-then-table-ne-TABLE_BYTES c = record { answer = search ladder depth 9; report = search ladder depth 9; room = search ladder depth 9 }

pub returns-then-shutters-ne-SHUTTER_TABLE_BYTES : goal.returns-then-shutters-ne-SHUTTER_TABLE_BYTES
unfolding apply_answer room_after
returns-then-shutters-ne-SHUTTER_TABLE_BYTES c = record { answer = search ladder depth 9; report = search ladder depth 9; room = search ladder depth 9 }

pub returns-then-not-valid : goal.returns-then-not-valid
unfolding apply_answer room_after
returns-then-not-valid c = record { answer = search ladder depth 9; report = search ladder depth 9; room = search ladder depth 9 }

pub returns-then-not-valid-2 : goal.returns-then-not-valid-2
unfolding apply_answer room_after
returns-then-not-valid-2 c = record { answer = search ladder depth 9; report = search ladder depth 9; room = search ladder depth 9 }

pub returns-then-not-valid-3 : goal.returns-then-not-valid-3
unfolding apply_answer room_after
returns-then-not-valid-3 c = record { answer = search ladder depth 9; report = search ladder depth 9; room = search ladder depth 9 }

pub returns-clause-report : goal.returns-clause-report
returns-clause-report c =
    let a = c.args in
    apply_reported a.m (room_of a.table.now a.shutters.now) c.apply_valid.ensures.answer
