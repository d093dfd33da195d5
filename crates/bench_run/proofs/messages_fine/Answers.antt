use mathlib.Core.Path.{◌≡◌, ap, ◌∙◌, sym}
use mathlib.Core.Bool.{not}
use Prim.Native.Nat.{ℕ, ◌-◌, ◌*◌, ◌/◌}
use native.Mathlib.Omega.{arith}
use lib.ListN.{length, drop}
use Rattle.wire.specs.Messages.{says_message}
use Rattle.bench_run.specs.BenchRuns.{all_say}
use Rattle.bench_run.proofs.LoadLaws.{read_says, say_cons}
use Rattle.bench_run.proofs.messages_fine.Goals as goal

pub returns-then-is_err : goal.returns-then-is_err
returns-then-is_err c =
    let now = c.loop-i in
    let bytes = c.args.messages.now in
    let next = say_cons (length bytes / 5) now.i bytes c.loop-i-test.true in
    let says = ap says_message (sym c.message_at.ensures) ∙ read_says _ ∙ ap not (sym c.is_err.ensures.value) in
    sym (sym now.invariant ∙ next ∙ rw (says ∙ ap not c.if-is_err.true))

pub loop-i-preserved : goal.loop-i-preserved
loop-i-preserved c =
    let now = c.loop-i in
    let bytes = c.args.messages.now in
    let next = say_cons (length bytes / 5) now.i bytes c.loop-i-test.true in
    let says = ap says_message (sym c.message_at.ensures) ∙ read_says _ ∙ ap not (sym c.is_err.ensures.value) in
    sym (next ∙ rw (says ∙ ap not c.if-is_err.false)) ∙ now.invariant

pub returns : goal.returns
unfolding all_say
returns c =
    let now = c.loop-i in
    let bytes = c.args.messages.now in
    let none : 0 ≡ length bytes / 5 - now.i = omega arith in
    ap (λ (k : ℕ). all_say k (drop (5 * now.i) bytes)) none ∙ now.invariant
