-- `command_from` meets its contract: each arm is the definition's case for its number.
use native.Mathlib.Omega.{arith}
use borrow.Author.Tests.{ne_eqb}
use Rattle.x10.specs.Commands.{command_from}
use Rattle.x10.proofs.commands.command_from.Goals as goal

pub returns-in-0 : goal.returns-in-0
unfolding command_from
returns-in-0 c = simp c.in-0.is

pub returns-in-1 : goal.returns-in-1
unfolding command_from
returns-in-1 c = simp c.in-1.is

pub returns-in-2 : goal.returns-in-2
unfolding command_from
returns-in-2 c = simp c.in-2.is

pub returns-in-3 : goal.returns-in-3
unfolding command_from
returns-in-3 c = simp c.in-3.is

pub returns-in_default : goal.returns-in_default
unfolding command_from
returns-in_default c =
    simp (
      ne_eqb c.args.command 0 (omega arith),
      ne_eqb c.args.command 1 (omega arith),
      ne_eqb c.args.command 2 (omega arith),
      ne_eqb c.args.command 3 (omega arith),
    )
