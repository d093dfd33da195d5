-- `run_loaded` meets its contract: the tests are those of `call_causes`, in its order; the quotient and the remainder stand for a product that could wrap.
use Prim.Native.Nat.{◌*◌}
use native.Mathlib.Omega.{arith}
use borrow.Author.Tests.{eq-eqb, ne_eqb, le-leb, lt-leb}
use lib.ListN.{length}
use Rattle.bench_run.proofs.RunLaws.{draws_match, draws_differ}
use Rattle.ground.proofs.Causes.{ladder}
use Rattle.bench_run.proofs.run_loaded.Goals as goal

pub returns-then-draws-n : goal.returns-then-draws-n
returns-then-draws-n c =
    let a = c.args in
    let differ = draws_differ a.n (length a.draws.now) (length a.lines.now) c.requires.0 in
    let wrong = ne_eqb (length a.draws.now) (a.n * length a.lines.now) (λ e. c.if-draws-n.true (differ e).0) in
    record { answer = search ladder; lines = search ladder; marks = search ladder }

pub returns-then-draws-n-ne0 : goal.returns-then-draws-n-ne0
returns-then-draws-n-ne0 c =
    let a = c.args in
    let differ = draws_differ a.n (length a.draws.now) (length a.lines.now) c.requires.0 in
    let wrong = ne_eqb (length a.draws.now) (a.n * length a.lines.now) (λ e. c.if-draws-n-ne0.true (differ e).1) in
    record { answer = search ladder; lines = search ladder; marks = search ladder }

pub returns-then-marks-calls : goal.returns-then-marks-calls
returns-then-marks-calls c =
    let a = c.args in
    let match = draws_match a.n (length a.draws.now) (length a.lines.now) c.if-draws-n.false c.if-draws-n-ne0.false in
    let whole = eq-eqb (length a.draws.now) (a.n * length a.lines.now) match in
    let short = lt-leb (2 * length a.lines.now) (length a.marks.now) (omega (arith, c.if-marks-calls.true)) in
    record { answer = search ladder; lines = search ladder; marks = search ladder }

pub returns : goal.returns
returns c =
    let a = c.args in
    let match = draws_match a.n (length a.draws.now) (length a.lines.now) c.if-draws-n.false c.if-draws-n-ne0.false in
    let whole = eq-eqb (length a.draws.now) (a.n * length a.lines.now) match in
    let room = le-leb (2 * length a.lines.now) (length a.marks.now) (omega (arith, c.if-marks-calls.false)) in
    record { answer = search ladder; lines = search ladder; marks = search ladder }
