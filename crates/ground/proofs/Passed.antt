-- A refusal that `?` hands on is the callee's.
--
--     passed_on         what a routine answers at a `?` that its callee refused
use Rattle.std.specs.Prelude.{Result, Err}
use Rattle.std.specs.Result.{IsErrAnd}
use Rattle.std.proofs.lemmas.Result.{err_from_is_err_and}
use mathlib.Core.Path.{◌≡◌, ap, ◌∙◌}
use Rattle.ground.specs.declared.Refusal.{Refusal}

pub passed_on : {A : Type 0} (answer : Result A Refusal) {why : Refusal} → IsErrAnd answer (λ x. x ≡ why) → answer ≡ Err why
passed_on {A} answer told =
    let p = err_from_is_err_and answer told in
    p.1 ∙ ap {B = Result A Refusal} Err p.2
