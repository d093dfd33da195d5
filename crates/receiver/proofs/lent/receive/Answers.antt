-- `lent::receive` meets its contract: each return is one law of `RunLaws`. The test of room divides, so that it cannot wrap.
use mathlib.Core.Path.{sym, ◌∙◌}
use native.Mathlib.Omega.{arith}
use Rattle.receiver.proofs.ReadBack.{held_length, held_valid}
use Rattle.receiver.proofs.RunLaws.{refused, short, done}
use Rattle.receiver.proofs.lent.receive.Goals as goal

pub returns-then-events-halves : goal.returns-then-events-halves
returns-then-events-halves c =
    let a = c.args in
    let owed = short a.state.now a.halves.now a.events.now c.in-Ok.r (sym
    c.receiver_in.ensures.answer ∙ c.in-Ok.is) (omega arith) in
    record { answer = owed.0; report = owed.1.0; state = owed.1.1.0; events = owed.1.1.1 }

pub run_all-next-requires : goal.run_all-next-requires
run_all-next-requires c =
    let e = sym c.receiver_in.ensures.answer ∙ c.in-Ok.is in (
      held_valid c.args.state.now
          c.in-Ok.r e,
      omega arith,
    )

pub put_bytes-requires : goal.put_bytes-requires
put_bytes-requires c =
    held_length c.args.state.now c.in-Ok.r (sym
    c.receiver_in.ensures.answer
    ∙ c.in-Ok.is)

pub returns-else-events-halves : goal.returns-else-events-halves
returns-else-events-halves c =
    let a = c.args in
    let owed = done a.state.now a.halves.now a.events.now c.in-Ok.r (sym c.receiver_in.ensures.answer ∙ c.in-Ok.is)
    c.run_all-next.result _ _ (omega arith)
    (c.run_all-next.ensures.value, c.run_all-next.ensures.events_after) c.put_bytes.ensures in
    record { answer = owed.0; report = owed.1.0; state = owed.1.1.0; events = owed.1.1.1 }

pub returns-in-Err : goal.returns-in-Err
returns-in-Err c =
    let a = c.args in
    let owed = refused a.state.now a.halves.now a.events.now _ (sym c.receiver_in.ensures.answer ∙ c.in-Err.is) in
    record { answer = owed.0; report = owed.1.0; state = owed.1.1.0; events = owed.1.1.1 }
