-- `read_code` meets its contract: the room, and then the reader's own causes.
use Rattle.std.specs.Prelude.{Ok, Err}
use mathlib.Core.Path.{refl, sym, ap, ◌∙◌}
use borrow.Author.Tests.{le-leb, lt-leb}
use lib.ListN.{length}
use Rattle.ground.specs.Refusals.{judged}
use Rattle.ground.proofs.Causes.{nothing_refused}
use Rattle.ground.proofs.Passed.{passed_on}
use Rattle.radio.specs.Codes.{command_of}
use Rattle.radio.specs.Answers.{read_causes, read_answer}
use Rattle.x10.specs.Commands.{command_bytes}
use Rattle.x10.specs.Radio.{front, command_answer, command_after}
use Rattle.x10.proofs.Fronts.{command_placed, was_read, not_read}
use Rattle.x10.proofs.read_code.Goals as goal

pub returns-then-out-lt3 : goal.returns-then-out-lt3
unfolding command_answer command_after judged
returns-then-out-lt3 c = let short = lt-leb 3 _ c.if-out-lt3.true in record { value = rw short refl; out_after = rw short refl }

pub returns : goal.returns
unfolding command_answer command_after judged read_answer
returns c =
    let code = c.args.code.now in
    let out = c.args.out.now in
    let long = c.if-out-lt3.false in
    let named = was_read (command_of code) (read_causes code) c.in_ok-k.k (sym c.read.ensures.answer ∙ c.in_ok-k.was) in
    let done = nothing_refused (Ok 3) Err (read_causes code) named.0 in
    let left = nothing_refused (front (command_bytes (command_of code)) out) (λ why. out) (read_causes code) named.0 in
    let put = c.put_command.ensures ∙ command_placed c.in_ok-k.k out long ∙ ap (λ j. front (command_bytes j) out) (sym named.1) in
    record {
      value = rw (le-leb 3 (length out) long) (sym done);
      out_after = rw (le-leb 3 (length out) long) (put ∙ sym left);
    }

pub returns-in_err-k : goal.returns-in_err-k
unfolding command_answer command_after judged read_answer
returns-in_err-k c =
    let code = c.args.code.now in
    let out = c.args.out.now in
    let read = sym c.read.ensures.answer ∙ c.in_err-k.was in
    let refused = not_read (command_of code) (Ok 3) Err (read_causes code) _ read in
    let left = not_read (command_of code) (front (command_bytes (command_of code)) out) (λ w. out) (read_causes code) _ read in
    record {
      value = rw (le-leb 3 (length out) c.if-out-lt3.false) (passed_on _ c.from_residual.ensures.1 ∙ refused);
      out_after = rw (le-leb 3 (length out) c.if-out-lt3.false) left;
    }
