-- `write_code` meets its contract: what the writer refuses, then the room, then four stores.
use Rattle.std.specs.Prelude.{Result, Err}
use mathlib.Core.Path.{sym, ap, ◌∙◌}
use mathlib.Core.List.{List}
use Prim.Native.Nat.{ℕ}
use native.Mathlib.Omega.{arith}
use Rattle.ground.proofs.Causes.{ladder}
use Rattle.ground.proofs.Lists.{sets-front}
use Rattle.ground.specs.declared.Refusal.{Refusal}
use Rattle.radio.specs.Answers.{write_report}
use Rattle.x10.specs.Radio.{front, code_answer, code_after}
use Rattle.x10.proofs.Fronts.{wrote, not_written}
use Rattle.x10.proofs.write_code.Goals as goal

pub returns-then-out-lt4 : goal.returns-then-out-lt4
unfolding code_answer code_after
returns-then-out-lt4 c =
    let did = wrote c.args.k c.in-Ok.code (sym (ap write_report c.in-Ok.is) ∙ c.write.ensures.report) in
    let ok = did.0 in
    record { value = search ladder; out_after = search ladder }

pub returns-else-out-lt4 : goal.returns-else-out-lt4
unfolding code_answer code_after
returns-else-out-lt4 c =
    let out = c.args.out.now in
    let did = wrote c.args.k c.in-Ok.code (sym (ap write_report c.in-Ok.is) ∙ c.write.ensures.report) in
    let ok = did.0 in
    let four = c.put_code.ensures in
    let put = four.0 ∙ sets-front c.in-Ok.code out (omega (arith, four.1)) ∙ ap (λ (l : List ℕ). front l out) did.1 in
    record { value = search ladder; out_after = search ladder }

pub returns-in-Err : goal.returns-in-Err
unfolding code_answer code_after
returns-in-Err c =
    let none = not_written c.args.k _ (sym c.write.ensures.answer ∙ c.in-Err.is) in
    let bad-command = none.0 in
    let answer = ap {B = Result ℕ Refusal} Err none.1 in
    record { value = search ladder; out_after = search ladder }
