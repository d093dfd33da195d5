-- `motions::motion_plan` meets its contract: each arm names the command, and past the arms it is none of them.
use native.Mathlib.Omega.{arith}
use borrow.Author.Tests.{ne_eqb}
use Rattle.plan.specs.Motions.{motion_plan}
use Rattle.plan.proofs.motions.motion_plan.Goals as goal

pub returns-in-1 : goal.returns-in-1
unfolding motion_plan
returns-in-1 c = simp c.in-1.is

pub returns-in-2 : goal.returns-in-2
unfolding motion_plan
returns-in-2 c = simp c.in-2.is

pub returns-in-3 : goal.returns-in-3
unfolding motion_plan
returns-in-3 c = simp c.in-3.is

pub returns-in-4 : goal.returns-in-4
unfolding motion_plan
returns-in-4 c = simp c.in-4.is

pub returns-in-5 : goal.returns-in-5
unfolding motion_plan
returns-in-5 c = simp c.in-5.is

pub returns-in-7 : goal.returns-in-7
unfolding motion_plan
returns-in-7 c = simp c.in-7.is

pub returns-in-8 : goal.returns-in-8
unfolding motion_plan
returns-in-8 c = simp c.in-8.is

pub returns-in-9 : goal.returns-in-9
unfolding motion_plan
returns-in-9 c = simp c.in-9.is

pub returns-in-10 : goal.returns-in-10
unfolding motion_plan
returns-in-10 c = simp c.in-10.is

pub returns-in-11 : goal.returns-in-11
unfolding motion_plan
returns-in-11 c = simp c.in-11.is

pub returns-in-12 : goal.returns-in-12
unfolding motion_plan
returns-in-12 c = simp c.in-12.is

pub returns-then-command : goal.returns-then-command
unfolding motion_plan
returns-then-command c =
    simp (
      ne_eqb c.args.command 1 (omega arith),
      ne_eqb c.args.command 2 (omega arith),
      ne_eqb c.args.command 3 (omega arith),
      ne_eqb c.args.command 4 (omega arith),
      ne_eqb c.args.command 5 (omega arith),
      ne_eqb c.args.command 7 (omega arith),
      ne_eqb c.args.command 8 (omega arith),
      ne_eqb c.args.command 9 (omega arith),
      ne_eqb c.args.command 10 (omega arith),
      ne_eqb c.args.command 11 (omega arith),
      ne_eqb c.args.command 12 (omega arith),
      c.if-command.true,
    )

pub returns-else-command : goal.returns-else-command
unfolding motion_plan
returns-else-command c =
    simp (
      ne_eqb c.args.command 1 (omega arith),
      ne_eqb c.args.command 2 (omega arith),
      ne_eqb c.args.command 3 (omega arith),
      ne_eqb c.args.command 4 (omega arith),
      ne_eqb c.args.command 5 (omega arith),
      ne_eqb c.args.command 7 (omega arith),
      ne_eqb c.args.command 8 (omega arith),
      ne_eqb c.args.command 9 (omega arith),
      ne_eqb c.args.command 10 (omega arith),
      ne_eqb c.args.command 11 (omega arith),
      ne_eqb c.args.command 12 (omega arith),
      c.if-command.false,
    )
