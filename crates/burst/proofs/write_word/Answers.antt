-- `write_word` meets its contract: its one test is the room for the burst.
use Rattle.std.specs.Prelude.{Result, Ok}
use mathlib.Core.Path.{ap}
use mathlib.Core.List.{List, ◌++◌}
use Prim.Native.Nat.{ℕ, ◌+◌}
use lib.ListN.{drop}
use borrow.Author.Tests.{le-leb, lt-leb}
use Rattle.ground.specs.declared.Refusal.{Refusal}
use Rattle.ground.proofs.Causes.{ladder}
use Rattle.burst.proofs.Writing.{length-of_word, burst_copied}
use Rattle.burst.proofs.write_word.Goals as goal

pub returns-then-buf-n-clause-value : goal.returns-then-buf-n-clause-value
returns-then-buf-n-clause-value c =
    let f = c.frame_length-f in
    let w = c.args.w in λ m e. let n = length-of_word m w f.result e f.ensures in
    let short = rw n at (lt-leb _ _ c.if-buf-n.true) in search ladder

pub returns-then-buf-n-clause-buf_after : goal.returns-then-buf-n-clause-buf_after
returns-then-buf-n-clause-buf_after c =
    let f = c.frame_length-f in
    let w = c.args.w in λ m e. let n = length-of_word m w f.result e f.ensures in
    let short = rw n at (lt-leb _ _ c.if-buf-n.true) in search ladder

pub returns-clause-value : goal.returns-clause-value
returns-clause-value c =
    let f = c.frame_length-f in
    let w = c.args.w in
    let left = c.if-buf-n.false in λ m e. let n = length-of_word m w f.result e f.ensures in
    let room = rw n at (le-leb _ _ left) in
    search (ladder, ap {B = Result ℕ Refusal} Ok (ap (λ (k : ℕ). k + k) n))

pub returns-clause-buf_after : goal.returns-clause-buf_after
returns-clause-buf_after c =
    let f = c.frame_length-f in
    let w = c.args.w in
    let left = c.if-buf-n.false in λ m e. let n = length-of_word m w f.result e f.ensures in
    let room = rw n at (le-leb _ _ left) in
    let copied = burst_copied m _ _ _ _ (ap (λ (k : ℕ). k + k) n) (c.whole_burst-burst.ensures m e)
    (ap (λ (l : List ℕ). l ++ drop (f.result + f.result) c.args.buf.now) c.copy_from_slice.ensures.after) in
    search ladder
