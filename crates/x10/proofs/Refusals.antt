-- What is stated of refusals: numbers that make no message or command are refused by 2, and the numbers of each list of causes rise.
use mathlib.Core.Path.{refl}
use native.Mathlib.Omega.{arith}
use borrow.Author.Tests.{ne_eqb}
use Rattle.ground.proofs.Causes.{lowest_given}
use Rattle.x10.specs.Commands.{command_from, NoCommandRefused}
use Rattle.x10.specs.Messages.{NoMessageRefused}
use Rattle.x10.specs.Radio.{code_causes, command_causes, CodeLowest, CommandLowest}

pub no_message_refused : NoMessageRefused
no_message_refused = refl

pub no_command_refused : NoCommandRefused
unfolding command_from
no_command_refused k h u above =
    simp (ne_eqb k 0 (λ e. omega arith), ne_eqb k 1 (λ e. omega arith), ne_eqb k 2 (λ e. omega arith), ne_eqb k 3 (λ e. omega arith))

pub code_lowest : CodeLowest
code_lowest k room = lowest_given (code_causes k room) refl

pub command_lowest : CommandLowest
command_lowest code room = lowest_given (command_causes code room) refl
