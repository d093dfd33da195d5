use mathlib.Core.Path.{◌≡◌, sym, subst, ◌∙◌}
use mathlib.Core.Bool.{true, ◌&&◌, and-eq-true_iff}
use mathlib.Core.List.{List}
use Prim.Native.Nat.{ℕ, ◌≤◌}
use native.Mathlib.Omega.{arith}
use native.Mathlib.Numerals.{add-one}
use borrow.Author.Tests.{leb-true, eq-eqb}
use lib.Dec.{eqb, leb}
use lib.ListN.{length, get_or, take, replicate}
use lib.Seq.{length-take-le}
use Rattle.ground.proofs.Causes.{ladder}
use Rattle.station.specs.declared.Station.{Station}
use Rattle.station.proofs.SendLaws.{sends_below}
use Rattle.station.proofs.StateLaws.{idle_told}
use Rattle.station.proofs.TurnLaws.{sends_told, refuses_told}
use Rattle.station.proofs.SlotLaws.{zeros, or_max, bench_promise}
use Rattle.station.proofs.Loops.{Looked, looked_none, looked_more, looked_idle, looked_bad, looked_fine, looked_line}
use Rattle.station.proofs.bench.half_cycle.Goals as goal
use Rattle.station.proofs.bench.half_cycle.Goals.{then-not-idle+in-Ok, else-not-idle}

-- what the first test says: at most 16, so there are n slots and a draw for each
few : (n : ℕ) → (leb 1 n && leb n 16) ≡ true → n ≤ 16
few n t = leb-true n 16 ((and-eq-true_iff (leb 1 n) (leb n 16)).0 t).1

placed : {A : Type 0} (n : ℕ) (xs : List A) → length xs ≡ 16 → (leb 1 n && leb n 16) ≡ true → eqb (length (take n xs)) n ≡ true
placed n xs sixteen t = eq-eqb (length (take n xs)) n (length-take-le n xs (omega (arith, few n t)))

-- after the loop all n have been heard
heard : (n line k : ℕ) (slots : List Station) (sent : List ℕ) → n ≤ k → Looked n slots line sent k → Looked n slots line sent n
heard n line k slots sent h r =
    let end : k ≡ n = omega (arith, r.within) in
    subst (λ (k : ℕ). Looked n slots line sent k) end r

pub loop-k-init : goal.loop-k-init
loop-k-init c =
    let a = c.args in
    let sixteen : length a.slots ≡ 16 = omega arith in
    subst (λ (k : ℕ). Looked a.n a.slots 0 (replicate k 0) 0) sixteen (looked_none a.n a.slots)

pub returns-then-not-n : goal.returns-then-not-n
returns-then-not-n c =
    let a = c.args in
    let told = bench_promise {o = c.refused.result} a.n a.slots a.draws (search ladder) in
    record { answer = told.0; report = told.1 }

pub returns-in-Err : goal.returns-in-Err
returns-in-Err c =
    let a = c.args in
    let count = c.if-not-n.false in
    let here = placed a.n a.slots (omega arith) count in
    let bad = refuses_told (get_or a.slots c.loop-k.k zeros) _ (sym c.sends.ensures.answer ∙ c.in-Err.is) in
    let wrong = looked_bad (omega (arith, few a.n count)) c.loop-k-test.true zeros c.loop-k.invariant bad in
    let told = bench_promise {o = c.refused-in-Err.result} a.n a.slots a.draws (search ladder depth 8) in
    record { answer = told.0; report = told.1 }

pub loop-k-preserved : goal.loop-k-preserved
loop-k-preserved c =
    let a = c.args in
    let l = c.loop-k in
    let s = get_or a.slots l.k zeros in
    let all : a.n ≤ length a.slots = omega (arith, few a.n c.if-not-n.false) in
    rw (add-one l.k)
    (elim c.if-not-idle.branch [
      | then-not-idle+in-Ok w ↦
          let half = w.in-Ok.half in
          let told = sends_told s half (sym w.sends.ensures.answer ∙ w.in-Ok.is) in
          let below = subst (λ (x : ℕ). x ≤ 1) told.1 (sends_below s) in
          rw (w.line-is ∙ or_max l.line half l.invariant.half below, w.sent-is)
          (looked_more all c.loop-k-test.true zeros l.invariant told.0 half told.1)
      | else-not-idle w ↦
          let told = idle_told s (sym c.idle.ensures ∙ w.if-not-idle.false) in
          rw (w.line-is, w.sent-is)
          (looked_idle all c.loop-k-test.true zeros l.invariant told.0 told.1)
    ])

pub returns-then-not-draws_fine : goal.returns-then-not-draws_fine
returns-then-not-draws_fine c =
    let a = c.args in
    let count = c.if-not-n.false in
    let all = looked_fine (heard _ _ _ _ _ c.loop-k-test.false c.loop-k.invariant) in
    let here = placed a.n a.slots (omega arith) count in
    let each = placed a.n a.draws (omega arith) count in
    let told = bench_promise {o = c.refused-then-not-draws_fine.result} a.n a.slots a.draws (search ladder depth 12) in
    record { answer = told.0; report = told.1 }

pub move_all-requires : goal.move_all-requires
move_all-requires c =
    let most = few c.args.n c.if-not-n.false in
    let all = heard _ _ _ _ _ c.loop-k-test.false c.loop-k.invariant in
    record {
      n_in_bounds = omega (arith, most);
      n_in_bounds_2 = omega (arith, most);
      slots_value = looked_fine all;
      draws_value = sym c.draws_fine.ensures ∙ c.if-not-draws_fine.false;
      line_value = (looked_line all, all.kept);
    }

pub returns : goal.returns
returns c =
    let a = c.args in
    let count = c.if-not-n.false in
    let all = looked_fine (heard _ _ _ _ _ c.loop-k-test.false c.loop-k.invariant) in
    let here = placed a.n a.slots (omega arith) count in
    let each = placed a.n a.draws (omega arith) count in
    let told = bench_promise {o = c.move_all.result} a.n a.slots a.draws (search ladder depth 12) in
    record { answer = told.0; report = told.1 }
