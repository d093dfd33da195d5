-- `receiver_in` meets its contract: thirteen bytes, and then what those of the message given before say.
use Rattle.std.specs.Prelude.{Result, Err}
use mathlib.Core.Path.{sym, ap, ◌∙◌}
use borrow.Author.Tests.{eq-eqb}
use Rattle.ground.specs.Refusals.{judged}
use Rattle.ground.proofs.Causes.{ladder}
use Rattle.ground.proofs.Passed.{passed_on}
use Rattle.ground.specs.declared.Refusal.{Refusal}
use Rattle.ground.specs.declared.Refusal.TheVariants.{State}
use Rattle.receiver.specs.Bytes.{receiver_in}
use Rattle.receiver.specs.declared.Receiver.{Receiver}
use Rattle.wire.proofs.MessageLaws.{kept_refused}
use Rattle.receiver.proofs.ReadBack.{held_number}
use Rattle.receiver.proofs.lent.receiver_in.Goals as goal

pub returns-then-state-ne13 : goal.returns-then-state-ne13
unfolding receiver_in
returns-then-state-ne13 c =
    let owed = held_number c.args.state.now {o = Err State} (search ladder) in
    record { answer = owed.0; number = owed.1 }

pub returns : goal.returns
unfolding receiver_in judged
returns c =
    let both = held_number c.args.state.now {o = c.taken.result} (simp (
      eq-eqb _ _ c.if-state-ne13.false,
      sym c.kept_from.ensures.answer ∙ c.in_ok-given.was,
      sym c.number_of-bits.ensures,
      sym c.place_from-at.ensures,
    ) c.taken.ensures) in
    record { answer = both.0; number = both.1 }

pub returns-in_err-given : goal.returns-in_err-given
unfolding receiver_in judged
returns-in_err-given c =
    let kept = sym c.kept_from.ensures.answer ∙ c.in_err-given.was in
    let passed = passed_on _ c.from_residual.ensures.1 ∙ ap {B = Result Receiver Refusal} Err (kept_refused _ _ _ _ _ kept) in
    let both = held_number c.args.state.now {o = c.from_residual.result} (simp (eq-eqb _ _ c.if-state-ne13.false, kept) passed) in
    record { answer = both.0; number = both.1 }
