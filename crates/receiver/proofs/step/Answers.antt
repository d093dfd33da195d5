-- `step` meets its contract: its two tests are the causes of `step_causes`, in their order, and the law `step_number` gives the number.
use mathlib.Core.Path.{◌≡◌, sym, ap, ◌∙◌}
use Prim.Native.Nat.{ℕ}
use Rattle.ground.specs.Refusals.{refusal_number, judged}
use Rattle.ground.proofs.Causes.{ladder}
use Rattle.receiver.specs.declared.Receiver.{Receiver}
use Rattle.receiver.specs.declared.Heard.{Heard}
use Rattle.receiver.specs.Receivers.{event_number, step_causes, step_of, broken_number}
use Rattle.receiver.proofs.ReceiverLaws.{valid_parts, step_number}
use Rattle.receiver.proofs.step.Goals as goal

numbered : (r : Receiver) (h : ℕ) {o : Heard} → o ≡ step_of r h
    → (o ≡ step_of r h) × (event_number o.event ≡ judged (step_causes r h) (broken_number r h) refusal_number)
numbered r h e = (e, ap (λ (x : Heard). event_number x.event) e ∙ step_number r h)

pub returns-then-half-gt1 : goal.returns-then-half-gt1
unfolding step_of
returns-then-half-gt1 c =
    let given = c.args in
    let owed = numbered given.r given.half {o = c.saying.result} (search ladder) in
    record { answer = owed.0; number = owed.1 }

pub returns-then-not-valid : goal.returns-then-not-valid
unfolding step_of
returns-then-not-valid c =
    let given = c.args in
    let owed = numbered given.r given.half {o = c.saying-then-not-valid.result} (search ladder) in
    record { answer = owed.0; number = owed.1 }

pub takes-requires : goal.takes-requires
takes-requires c =
    let ok = sym c.valid.ensures ∙ c.if-not-valid.false in
    (c.if-half-gt1.false, (valid_parts c.args.r ok).0)

pub returns : goal.returns
unfolding step_of
returns c =
    let given = c.args in
    let owed = numbered given.r given.half {o = c.takes.result} (search ladder) in
    record { answer = owed.0; number = owed.1 }
