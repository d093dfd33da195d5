-- `radio_route` meets its contract: the tables are judged before the code is read, and what the reader names is a valid command.
use mathlib.Core.Path.{sym, ap, ◌∙◌}
use Rattle.ground.proofs.Passed.{passed_on}
use Rattle.radio.proofs.Theorems.{read_as}
use Rattle.room.specs.Rooms.{room_of, room_report}
use Rattle.room.proofs.ApplyLaws.{fine_valid}
use Rattle.room.proofs.RadioLaws.{not_judged, read_obeyed, not_read, radio_reported}
use Rattle.room.proofs.routes.radio_route.Goals as goal

pub obey-requires : goal.obey-requires
obey-requires c =
    let a = c.args in (
      fine_valid (room_of a.table.now a.shutters.now) c.judge.ensures c.in_ok-judge.was,
      (read_as c.in_ok-k.k a.code.now (sym c.read.ensures.answer ∙ c.in_ok-k.was)).0,
    )

pub returns-in_err-judge : goal.returns-in_err-judge
returns-in_err-judge c =
    let a = c.args in
    let owed = not_judged a.code.now (room_of a.table.now a.shutters.now) c.judge.ensures _ c.in_err-judge.was in
    let passed = passed_on _ c.from_residual.ensures.1 in
    record { answer = passed ∙ owed.0; report = ap room_report passed ∙ owed.1.0; room = owed.1.1 }

pub returns : goal.returns
returns c =
    let a = c.args in
    let room = room_of a.table.now a.shutters.now in
    let ok = fine_valid room c.judge.ensures c.in_ok-judge.was in
    let obeyed = c.obey in
    let did = read_obeyed a.code.now room ok c.read.ensures.answer c.in_ok-k.k _ obeyed.result c.in_ok-k.was
    (obeyed.ensures.counts, obeyed.ensures.room) in
    record { answer = did.0; report = radio_reported a.code.now room did.0; room = did.1 }

pub returns-in_err-k : goal.returns-in_err-k
returns-in_err-k c =
    let a = c.args in
    let room = room_of a.table.now a.shutters.now in
    let ok = fine_valid room c.judge.ensures c.in_ok-judge.was in
    let did = not_read a.code.now room ok c.read.ensures.answer _ c.in_err-k.was in
    let answer = passed_on _ c.from_residual-in_err-k.ensures.1 ∙ did.0 in
    record { answer = answer; report = radio_reported a.code.now room answer; room = did.1 }
