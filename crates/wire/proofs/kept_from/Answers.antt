-- `kept_from` meets its contract: its tests are the definition's, in the same order.
use Rattle.ground.specs.declared.Refusal.TheVariants.{State}
use Rattle.std.specs.Prelude.{Ok, Err, Some, None}
use Rattle.wire.specs.Messages.{kept_from}
use Rattle.wire.proofs.MessageLaws.{kept_reported}
use Rattle.wire.proofs.kept_from.Goals as goal

pub returns-then-kind-house : goal.returns-then-kind-house
unfolding kept_from
returns-then-kind-house c =
    let a = c.args in
    let owed = kept_reported a.kind a.house a.third a.data a.command {o = Ok None} (simp c.if-kind-house.true) in
    record { answer = owed.0; number = owed.1 }

pub returns-then-not-kind-ends : goal.returns-then-not-kind-ends
unfolding kept_from
returns-then-not-kind-ends c =
    let a = c.args in
    let owed = kept_reported a.kind a.house a.third a.data a.command {o = Err State}
    (simp (c.if-kind-house.false, c.if-not-kind-ends.true)) in
    record { answer = owed.0; number = owed.1 }

pub returns-in-Ok : goal.returns-in-Ok
unfolding kept_from
returns-in-Ok c =
    let a = c.args in
    let owed = kept_reported a.kind a.house a.third a.data a.command {o = Ok (Some c.in-Ok.m)}
    (simp (
      c.if-kind-house.false,
      c.if-not-kind-ends.false,
      ← c.message_from.ensures.answer,
      c.in-Ok.is,
    )) in
    record { answer = owed.0; number = owed.1 }

pub returns-in-Err : goal.returns-in-Err
unfolding kept_from
returns-in-Err c =
    let a = c.args in
    let owed = kept_reported a.kind a.house a.third a.data a.command {o = Err State}
    (simp (
      c.if-kind-house.false,
      c.if-not-kind-ends.false,
      ← c.message_from.ensures.answer,
      c.in-Err.is,
    )) in
    record { answer = owed.0; number = owed.1 }
