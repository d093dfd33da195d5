use mathlib.Core.Path.{refl, ap, ◌∙◌}
use Prim.Native.Nat.{ℕ, ◌+◌}
use lib.ListN.{drop_of_length-le}
use Rattle.trace_lines.specs.Trace.{taken_from}
use Rattle.trace_lines.proofs.TraceLaws.{going_starts, going_on, going_ends, taken_none, taken_stopped, taken_full}
use Rattle.trace_lines.proofs.trace.Goals as goal

pub returns-then-p : goal.returns-then-p
returns-then-p c =
    let a = c.args in
    let owed = going_ends (going_starts a.input.now a.out.now a.p) c.ended.ensures (taken_stopped a.p 0 a.input.now c.if-p.true) in
    record { value = owed.0; out_after = owed.1 }

pub loop-b-init : goal.loop-b-init
loop-b-init c =
    let a = c.args in
    (going_starts a.input.now a.out.now a.p, c.if-p.false, refl)

pub returns-then-at-gt-LAST : goal.returns-then-at-gt-LAST
returns-then-at-gt-LAST c =
    let l = c.loop-b in
    let owed = going_ends l.invariant.0 (rw l.invariant.2 at c.ended-then-at-gt-LAST.ensures) (taken_full l.q l.at _ l.invariant.1 c.if-at-gt-LAST.true) in
    record { value = owed.0; out_after = owed.1 }

pub returns-then-q : goal.returns-then-q
returns-then-q c =
    let l = c.loop-b in
    let put = c.print_byte-done.ensures in
    let turned = going_on l.invariant.0 c.loop-b-test.true l.invariant.1 c.if-at-gt-LAST.false put.0 put.1 in
    let owed = going_ends turned (rw l.invariant.2 at c.ended-then-q.ensures)
    (taken_stopped c.print_byte-done.result.progress _ _ c.if-q.true) in
    record { value = owed.0; out_after = owed.1 }

pub loop-b-preserved : goal.loop-b-preserved
loop-b-preserved c =
    let l = c.loop-b in
    let put = c.print_byte-done.ensures in
    let turned = going_on l.invariant.0 c.loop-b-test.true l.invariant.1 c.if-at-gt-LAST.false put.0 put.1 in
    (turned, c.if-q.false, ap (λ (n : ℕ). n + 1) l.invariant.2)

pub returns : goal.returns
returns c =
    let l = c.loop-b in
    let input = c.args.input.now in
    let owed = going_ends l.invariant.0 (rw l.invariant.2 at c.ended-2.ensures)
    (ap (taken_from l.q l.at) (drop_of_length-le input c.loop-b-test.false) ∙ taken_none l.q l.at) in
    record { value = owed.0; out_after = owed.1 }
