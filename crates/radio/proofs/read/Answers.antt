-- `read` meets its contract: its tests are those of `read_causes`, in their order, since the b and c of four bytes whose pairs are
-- complementary make the code again. The bytes of a slice are below 256, so the complements do not go below 0.
use mathlib.Core.Path.{◌≡◌, ap, ◌∙◌}
use Rattle.ground.proofs.Causes.{ladder}
use Rattle.radio.specs.Answers.{named_answer, read_answer, read_report}
use Rattle.radio.proofs.AnswerLaws.{read_reported}
use Rattle.radio.proofs.ReaderLaws.{both_hold, one_fails, code_again}
use Rattle.radio.proofs.read.Goals as goal

pub returns-then-code-ne4 : goal.returns-then-code-ne4
unfolding read_answer
returns-then-code-ne4 c =
    record { answer = search ladder; report = search ladder }

pub returns-then-code-b : goal.returns-then-code-b
unfolding read_answer
returns-then-code-b c =
    record { answer = search (ladder, one_fails); report = search (ladder, one_fails) }

pub returns : goal.returns
unfolding read_answer
returns c =
    let code = c.args.code.now in
    let named = c.command_of.ensures ∙ ap named_answer (code_again code c.if-code-ne4.false c.if-code-b.false) in
    let answer : c.command_of.result ≡ read_answer code = search (ladder, both_hold) in
    record { answer = answer; report = ap read_report answer ∙ read_reported code }
