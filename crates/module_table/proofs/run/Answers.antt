-- `run` meets its contract: its two tests are the causes in their order, and past them `run_act` does what is asked.
use Rattle.std.specs.Prelude.{Result, Ok}
use Prim.Native.Nat.{ℕ}
use Rattle.ground.specs.declared.Refusal.{Refusal}
use mathlib.Core.Path.{◌≡◌, sym, ap, ap₂, ◌∙◌}
use native.Mathlib.Omega.{arith}
use lib.ListN.{length}
use Rattle.ground.proofs.Causes.{ladder}
use Rattle.record.specs.Layout.{TABLE_BYTES}
use Rattle.record.specs.ModuleTable.{changed, run_act}
use Rattle.module_table.specs.ModuleRuns.{act_answer, modules_after}
use Rattle.module_table.proofs.Runs.{run_done}
use Rattle.module_table.proofs.run.Goals as goal

pub returns-in_default : goal.returns-in_default
unfolding act_answer modules_after
returns-in_default c =
    let short : length c.args.t.now ≡ TABLE_BYTES → ⊥ = c.in_default.ensures.cases in
    record { answer = search ladder; table = search ladder }

pub returns-then-house-gt15 : goal.returns-then-house-gt15
unfolding act_answer modules_after
returns-then-house-gt15 c =
    let whole : length c.args.t.now ≡ TABLE_BYTES = c.in-Some.ensures.cases.long in
    record { answer = search ladder; table = c.in-Some.ensures.cases.same ∙ search ladder }

pub returns : goal.returns
returns c =
    let whole = c.in-Some.ensures.cases in
    let did = c.run_act.ensures in
    let told = run_done c.args.act c.args.house c.args.t.now whole.long (omega arith) in
    let left = did.0 ∙ ap (run_act c.args.act c.args.house) whole.same in
    record { answer = ap {B = Result ℕ Refusal} Ok (did.1 ∙ ap₂ changed whole.same left) ∙ sym told.0; table = left ∙ sym told.1 }
