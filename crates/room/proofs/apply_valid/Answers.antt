-- `apply_valid` meets its contract: the plan says what is answered and left: it runs on one of the two tables, or it does not.
use Rattle.std.specs.Prelude.{Result, Ok}
use mathlib.Core.Path.{ap, ◌∙◌}
use Rattle.ground.specs.declared.Refusal.{Refusal}
use Rattle.ground.proofs.Passed.{passed_on}
use Rattle.plan.specs.declared.Plan.{Plan}
use Rattle.room.proofs.ApplyLaws.{run_by, move_by, refused_by}
use Rattle.room.proofs.apply_valid.Goals as goal

pub returns-in-Run : goal.returns-in-Run
returns-in-Run c =
    let owed = run_by c.args.m c.args.table.now c.args.shutters.now c.plan_for.ensures.answer c.requires _
    c.house_of.ensures c.in-Run.act _ _ _ (c.in_ok-plan.was ∙ ap {B = Result Plan Refusal} Ok c.in-Run.is)
    c.run.ensures.answer c.run.ensures.table
    c.of_levels.ensures in
    record { answer = owed.0; room = owed.1 }

pub returns-in-Move : goal.returns-in-Move
returns-in-Move c =
    let owed = move_by c.args.m c.args.table.now c.args.shutters.now c.plan_for.ensures.answer c.requires _
    c.house_of-in-Move.ensures c.in-Move.motion _ _ _ (c.in_ok-plan.was ∙ ap {B = Result Plan Refusal} Ok c.in-Move.is)
    c.run-in-Move.ensures.answer c.run-in-Move.ensures.table
    c.of_openings.ensures in
    record { answer = owed.0; room = owed.1 }

pub returns-in_err-plan : goal.returns-in_err-plan
returns-in_err-plan c =
    let owed = refused_by c.args.m c.args.table.now c.args.shutters.now c.plan_for.ensures.answer c.requires _ c.in_err-plan.was in
    let passed = passed_on _ c.from_residual.ensures.1 in
    record { answer = passed ∙ owed.0; room = owed.1 }
