-- `write` meets its contract: the test is that of `write_causes`, and b and c are the command's, in the answer and in what it reports.
use Rattle.std.specs.Prelude.{Result, Ok, List, [], ◌∷◌}
use mathlib.Core.Path.{ap, ap₂}
use Prim.Native.Nat.{ℕ, ◌-◌}
use Rattle.ground.proofs.Causes.{ladder}
use Rattle.ground.specs.declared.Refusal.{Refusal}
use Rattle.radio.specs.Answers.{write_answer, write_report}
use Rattle.radio.proofs.write.Goals as goal

pub returns-then-not-valid : goal.returns-then-not-valid
unfolding write_answer
returns-then-not-valid c =
    record { answer = search ladder; report = search ladder }

pub returns : goal.returns
unfolding write_answer
returns c =
    let written = ap₂ {C = Result (List ℕ) Refusal} (λ (b c : ℕ). Ok (b ∷ (255 - b) ∷ c ∷ (255 - c) ∷ [])) c.byte_b-b.ensures c.byte_c-c.ensures in
    let reported = ap write_report written in
    record { answer = search ladder; report = search ladder }
