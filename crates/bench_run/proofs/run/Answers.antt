-- `run` meets its contract: the tests are those of `run_causes`, in its order, the last of them in `run_loaded`. Messages were judged before loading, so that
-- loading is refused by a draw alone.
use Rattle.std.specs.Prelude.{Result, Err}
use mathlib.Core.Path.{sym, ap, ◌∙◌}
use Prim.Native.Nat.{ℕ}
use native.Mathlib.Omega.{arith}
use borrow.Author.Tests.{le-leb, eq-eqb}
use lib.ListN.{length}
use Rattle.ground.specs.Refusals.{count_report}
use Rattle.ground.specs.declared.Refusal.{Refusal}
use Rattle.ground.specs.declared.Refusal.TheVariants as refusal
use Rattle.ground.proofs.Causes.{ladder}
use Rattle.ground.proofs.Passed.{passed_on}
use Rattle.bench_run.specs.BenchRuns.{lent, is_loaded, run_answer}
use Rattle.bench_run.proofs.RunLaws.{load_refused, first_slots, run_refused, ran, run_ran}
use Rattle.bench_run.proofs.run.Goals as goal

pub returns-then-not-messages_fine : goal.returns-then-not-messages_fine
unfolding run_answer
returns-then-not-messages_fine c =
    let a = c.args in
    let l = lent a.messages.now a.loads.now a.draws.now a.lines.now a.marks.now in
    let owed = run_refused l refusal.Message (search ladder depth 12 fits 4000) in
    record { answer = owed.0; report = owed.1.0; lines = owed.1.1.0; marks = owed.1.1.1 }

pub returns-then-n-lt1 : goal.returns-then-n-lt1
unfolding run_answer
returns-then-n-lt1 c =
    let a = c.args in
    let l = lent a.messages.now a.loads.now a.draws.now a.lines.now a.marks.now in
    let owed = run_refused l refusal.State (search ladder depth 12 fits 4000) in
    record { answer = owed.0; report = owed.1.0; lines = owed.1.1.0; marks = owed.1.1.1 }

pub returns-then-n-gt-SLOTS : goal.returns-then-n-gt-SLOTS
unfolding run_answer
returns-then-n-gt-SLOTS c =
    let a = c.args in
    let l = lent a.messages.now a.loads.now a.draws.now a.lines.now a.marks.now in
    let owed = run_refused l refusal.State (search ladder depth 12 fits 4000) in
    record { answer = owed.0; report = owed.1.0; lines = owed.1.1.0; marks = owed.1.1.1 }

pub returns-then-messages-n : goal.returns-then-messages-n
unfolding run_answer
returns-then-messages-n c =
    let a = c.args in
    let l = lent a.messages.now a.loads.now a.draws.now a.lines.now a.marks.now in
    let owed = run_refused l refusal.State (search ladder depth 12 fits 4000) in
    record { answer = owed.0; report = owed.1.0; lines = owed.1.1.0; marks = owed.1.1.1 }

pub returns-in_err-slots : goal.returns-in_err-slots
unfolding run_answer
returns-in_err-slots c =
    let a = c.args in
    let l = lent a.messages.now a.loads.now a.draws.now a.lines.now a.marks.now in
    let said = sym c.messages_fine.ensures ∙ c.if-not-messages_fine.false in
    let draw = load_refused l said c.if-messages-n.false _ (sym c.in_err-slots.ensures.refused) in
    let bad = draw.1 in
    let owed = run_refused l _ (ap {B = Result ℕ Refusal} Err draw.0 ∙ search ladder depth 12 fits 4000) in
    let passed = passed_on _ c.from_residual.ensures.1 in
    record { answer = passed ∙ owed.0; report = ap count_report passed ∙ owed.1.0; lines = owed.1.1.0; marks = owed.1.1.1 }

pub returns : goal.returns
returns c =
    let a = c.args in
    let l = lent a.messages.now a.loads.now a.draws.now a.lines.now a.marks.now in
    let loaded = c.in_ok-slots.ensures.loaded in
    let n = length l.loads in
    let calls = c.run_loaded.ensures in
    let owed = run_ran l
    (ran l _ c.run_loaded.result _ _ (first_slots l _ loaded.1) (calls.answer, (calls.lines, calls.marks)))
    (sym c.messages_fine.ensures ∙ c.if-not-messages_fine.false)
    (le-leb 1 n (omega (arith, c.if-n-lt1.false))) (le-leb n 16 (omega (arith, c.if-n-gt-SLOTS.false))) (eq-eqb _ _ c.if-messages-n.false)
    (ap is_loaded loaded.0) in
    record { answer = owed.0; report = owed.1.0; lines = owed.1.1.0; marks = owed.1.1.1 }
