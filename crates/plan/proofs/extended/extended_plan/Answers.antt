-- `extended::extended_plan` meets its contract: each arm names the command, and past the arms it is none of them.
use native.Mathlib.Omega.{arith}
use borrow.Author.Tests.{ne_eqb}
use Rattle.plan.specs.Plans.{extended_plan}
use Rattle.plan.proofs.extended.extended_plan.Goals as goal

pub returns-in-48 : goal.returns-in-48
unfolding extended_plan
returns-in-48 c = simp (c.in-48.is, c.reference_in.ensures)

pub returns-in-49 : goal.returns-in-49
unfolding extended_plan
returns-in-49 c = simp c.in-49.is

pub returns-in-50 : goal.returns-in-50
unfolding extended_plan
returns-in-50 c = simp c.in-50.is

pub returns-in-51 : goal.returns-in-51
unfolding extended_plan
returns-in-51 c = simp c.in-51.is

pub returns-in-52 : goal.returns-in-52
unfolding extended_plan
returns-in-52 c = simp c.in-52.is

pub returns-in-53 : goal.returns-in-53
unfolding extended_plan
returns-in-53 c = simp (c.in-53.is, c.leave_plan.ensures)

pub returns-in-54 : goal.returns-in-54
unfolding extended_plan
returns-in-54 c = simp (c.in-54.is, c.execute_plan.ensures)

pub returns-in-60 : goal.returns-in-60
unfolding extended_plan
returns-in-60 c = simp (c.in-60.is, c.step_plan.ensures)

pub returns-in-55 : goal.returns-in-55
unfolding extended_plan
returns-in-55 c = simp (c.in-55.is, c.status_plan.ensures)

pub returns-then-command : goal.returns-then-command
unfolding extended_plan
returns-then-command c =
    simp (
      ne_eqb c.args.command 48 (omega arith),
      ne_eqb c.args.command 49 (omega arith),
      ne_eqb c.args.command 50 (omega arith),
      ne_eqb c.args.command 51 (omega arith),
      ne_eqb c.args.command 52 (omega arith),
      ne_eqb c.args.command 53 (omega arith),
      ne_eqb c.args.command 54 (omega arith),
      ne_eqb c.args.command 60 (omega arith),
      ne_eqb c.args.command 55 (omega arith),
      c.if-command.true,
    )

pub returns-else-command : goal.returns-else-command
unfolding extended_plan
returns-else-command c =
    simp (
      ne_eqb c.args.command 48 (omega arith),
      ne_eqb c.args.command 49 (omega arith),
      ne_eqb c.args.command 50 (omega arith),
      ne_eqb c.args.command 51 (omega arith),
      ne_eqb c.args.command 52 (omega arith),
      ne_eqb c.args.command 53 (omega arith),
      ne_eqb c.args.command 54 (omega arith),
      ne_eqb c.args.command 60 (omega arith),
      ne_eqb c.args.command 55 (omega arith),
      c.if-command.false,
    )
