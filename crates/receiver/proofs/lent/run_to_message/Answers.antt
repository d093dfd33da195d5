-- `run_to_message` meets its contract: its two tests are its two causes, and `to_message` does the rest. The test of room divides, so that
-- it cannot wrap.
use mathlib.Core.Path.{sym, ◌∙◌}
use native.Mathlib.Omega.{arith}
use Rattle.ground.proofs.Causes.{ladder}
use Rattle.receiver.specs.Bytes.{stretch_of, stretch_events}
use Rattle.receiver.proofs.Stretches.{stretch_short, stretch_done}
use Rattle.receiver.proofs.lent.run_to_message.Goals as goal

pub returns-then-not-valid : goal.returns-then-not-valid
unfolding stretch_of stretch_events
returns-then-not-valid c =
    record { answer = search ladder; report = search ladder; events = search ladder }

pub returns-then-events-halves : goal.returns-then-events-halves
returns-then-events-halves c =
    let a = c.args in
    let ok = sym c.valid.ensures ∙ c.if-not-valid.false in
    let owed = stretch_short a.halves.now a.r a.from a.events.now ok (omega arith) in
    record { answer = owed.0; report = owed.1.0; events = owed.1.1 }

pub returns : goal.returns
returns c =
    let a = c.args in
    let ok = sym c.valid.ensures
    ∙ c.if-not-valid.false in
    let ran = c.to_message-ran in
    let owed = stretch_done a.halves.now a.r a.from a.events.now ok ran.result.at ran.result.next ran.result.given _ (omega arith)
    (record { place = ran.ensures.at_value.0; receiver = ran.ensures.at_value.1; message = ran.ensures.at_value.2; events = ran.ensures.events_after }) in
    record { answer = owed.0; report = owed.1.0; events = owed.1.1 }
