-- `plan_for` meets its contract: the message is tested first, and past the test the plan is the answer unless its opening is above 25.
use mathlib.Core.Path.{refl, sym, ap, ◌∙◌}
use Rattle.ground.proofs.Causes.{ladder, judged_map}
use Rattle.ground.proofs.Passed.{passed_on}
use Rattle.plan.specs.Plans.{plan_answer, plan_report}
use Rattle.plan.proofs.PlanLaws.{asked_rest, unfit_rest}
use Rattle.plan.proofs.plan_for.Goals as goal

pub returns-then-not-valid : goal.returns-then-not-valid
unfolding plan_answer
returns-then-not-valid c =
    record { answer = search ladder; report = search ladder }

pub returns : goal.returns
unfolding plan_answer
returns c =
    let fit = sym c.fits.ensures ∙ c.if-not-fits.false in
    let rest = asked_rest c.args.m (sym c.asked.ensures ∙ c.in_ok-plan.was) fit in
    let told = ap plan_report rest ∙ judged_map plan_report _ _ _ in
    record { answer = search ladder; report = search ladder }

pub returns-then-not-fits : goal.returns-then-not-fits
unfolding plan_answer
returns-then-not-fits c =
    let unfit = sym c.fits.ensures ∙ c.if-not-fits.true in
    let rest = unfit_rest c.args.m (sym c.asked.ensures ∙ c.in_ok-plan.was) unfit in
    let told = ap plan_report rest ∙ judged_map plan_report _ _ _ in
    record { answer = search ladder; report = search ladder }

pub returns-in_err-plan : goal.returns-in_err-plan
unfolding plan_answer
returns-in_err-plan c =
    let rest = passed_on _ c.from_residual.ensures.1 ∙ asked_rest c.args.m (sym c.asked.ensures ∙ c.in_err-plan.was) refl in
    let told = ap plan_report rest ∙ judged_map plan_report _ _ _ in
    record { answer = search ladder; report = search ladder }
