-- `message_from` meets its contract: each return is the definition's case for the kind, and for a function that of its code.
use Rattle.std.specs.Prelude.{Result, Err}
use mathlib.Core.Path.{◌≡◌, sym, ap, ◌∙◌}
use Prim.Native.Nat.{ℕ}
use borrow.Author.Tests.{eq-eqb, ne_eqb}
use Rattle.ground.specs.Refusals.{number_given}
use Rattle.wire.specs.Messages.{message_from, message_causes, message_report}
use Rattle.wire.proofs.MessageLaws.{message_number}
use Rattle.ground.specs.declared.Refusal.TheVariants as refusal
use Rattle.message.specs.declared.Message.{Message}
use Rattle.wire.proofs.message_from.Goals as goal
use Rattle.ground.specs.declared.Refusal.{Refusal}

-- the number is that of the answer
reported : (k h t d c : ℕ) (o : Result Message Refusal) → o ≡ message_from k h t d c
    → (o ≡ message_from k h t d c) × ((message_report o).number ≡ number_given (message_causes k h t d c))
reported k h t d c o e = (e, ap (λ (x : Result Message Refusal). (message_report x).number) e ∙ message_number k h t d c)

pub returns-then-kind-eq1 : goal.returns-then-kind-eq1
unfolding message_from
returns-then-kind-eq1 c =
    let a = c.args in
    let owed = reported a.kind a.house a.third a.data a.command c.taken.result (rw (eq-eqb _ _ c.if-kind-eq1.true) c.taken.ensures) in
    record { answer = owed.0; number = owed.1 }

pub returns-then-kind-eq3 : goal.returns-then-kind-eq3
unfolding message_from
returns-then-kind-eq3 c =
    let a = c.args in
    let owed = reported a.kind a.house a.third a.data a.command c.taken-then-kind-eq3.result (simp c.if-kind-eq3.true c.taken-then-kind-eq3.ensures) in
    record { answer = owed.0; number = owed.1 }

pub returns-then-kind-ne2 : goal.returns-then-kind-ne2
unfolding message_from
returns-then-kind-ne2 c =
    let a = c.args in
    let owed = reported a.kind a.house a.third a.data a.command (Err refusal.Message)
    (simp (ne_eqb _ _ c.if-kind-eq1.false, ne_eqb _ _ c.if-kind-eq3.false, ne_eqb _ _ c.if-kind-ne2.true)) in
    record { answer = owed.0; number = owed.1 }

pub returns-in-Ok : goal.returns-in-Ok
unfolding message_from
returns-in-Ok c =
    let a = c.args in
    let is = sym c.function_at.ensures.answer ∙ c.in-Ok.is in
    let owed = reported a.kind a.house a.third a.data a.command c.taken-in-Ok.result
    (simp (c.if-kind-ne2.false, is) c.taken-in-Ok.ensures) in
    record { answer = owed.0; number = owed.1 }

pub returns-in-Err : goal.returns-in-Err
unfolding message_from
returns-in-Err c =
    let a = c.args in
    let is = sym c.function_at.ensures.answer ∙ c.in-Err.is in
    let owed = reported a.kind a.house a.third a.data a.command (Err refusal.Message) (simp (c.if-kind-ne2.false, is)) in
    record { answer = owed.0; number = owed.1 }
