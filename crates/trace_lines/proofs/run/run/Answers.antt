use mathlib.Core.Path.{◌≡◌, refl, sym, ap, ◌∙◌}
use mathlib.Core.Bool.{Bool, true, false, false≢true, not, ◌&&◌, ◌||◌}
use mathlib.Core.List.{List, [], ◌∷◌, ◌++◌, flat_map}
use Prim.Native.Nat.{ℕ, ◌+◌}
use native.Mathlib.Omega.{arith}
use borrow.Author.Rules.{rules}
use borrow.Author.Tests.{eqb-true, eqb-false, le-ltb}
use lib.Dec.{ltb, eqb, lit<}
use lib.ListN.{length, length-append}
use Rattle.trace_lines.specs.Trace.{GREATEST, trace_start, progress_after}
use Rattle.trace_lines.specs.Runs.{got_ok, outcome_of, goes_on_by, buffers_of, buffer_after, Had, piece_of}
use Rattle.trace_lines.specs.Runs.{outcome_after, all_read, all_fit, all_buffers, all_go_on, RunOf}
use Rattle.trace_lines.specs.declared.Progress.{Progress}
use Rattle.trace_lines.specs.declared.run.Outcome.{Outcome}
use Rattle.trace_lines.proofs.TraceLaws.{progress_append}
use Rattle.trace_lines.proofs.RunLaws.{all_read-more, all_fit_more, all_go_on-more, all_buffers-more}
use Rattle.trace_lines.proofs.run.run.Invariants.{Before}
use Rattle.trace_lines.proofs.run.run.Goals as goal

starts : (most : ℕ) (out : List ℕ) (p : Progress) → p ≡ trace_start → Before most out out p 0
unfolding all_fit all_go_on all_buffers buffer_after flat_map progress_after
starts most out p e = record { turns = []; count = refl; fit = refl; went_on = refl; stands = e; buffers = refl }

-- what the loop's test says
ends_by : (goes : Bool) (reads : ℕ) → (not goes || eqb reads GREATEST) ≡ true → (goes && ltb reads GREATEST) ≡ false
ends_by true reads e = let last = eqb-true reads GREATEST e in le-ltb reads GREATEST (omega arith)
ends_by false reads e = refl

goes_by : (goes : Bool) (reads : ℕ) → (not goes || eqb reads GREATEST) ≡ false → (goes ≡ true) × (reads ≡ GREATEST → ⊥)
goes_by true reads e = (refl, eqb-false reads GREATEST e)
goes_by false reads e = absurd (false≢true (sym e))

module _ {most : ℕ} {out₀ out : List ℕ} {p : Progress} {reads : ℕ} (b : Before most out₀ out p reads) (h : Had) (q : Progress) (why : Outcome)
    (out_after : List ℕ) (got : got_ok h.got (length h.buffer) ≡ true) (size : length h.buffer ≡ most)
    (leads : q ≡ progress_after p (piece_of h)) (fills : out_after ≡ buffer_after out (buffers_of p (piece_of h)))
    (judged : why ≡ outcome_of h.got h.written q.stopped) where
  outcome_is : why ≡ outcome_after (progress_after trace_start (all_read b.turns)) h
  outcome_is =
      judged
      ∙ ap (λ (x : Progress). outcome_of h.got h.written x.stopped) (leads ∙ ap (λ (x : Progress). progress_after x (piece_of h)) b.stands)

  progress_is : q ≡ progress_after trace_start (all_read (b.turns ++ (h ∷ [])))
  progress_is =
      leads
      ∙ ap (λ (x : Progress). progress_after x (piece_of h)) b.stands
      ∙ sym (progress_append trace_start (all_read b.turns) (piece_of h))
      ∙ ap (progress_after trace_start) (sym (all_read-more b.turns h))

  buffers_are : out_after ≡ buffer_after out₀ (all_buffers trace_start (b.turns ++ (h ∷ [])))
  buffers_are =
      fills
      ∙ ap (λ (x : Progress). buffer_after out (buffers_of x (piece_of h))) b.stands
      ∙ ap (λ (l : List ℕ). buffer_after l (buffers_of (progress_after trace_start (all_read b.turns)) (piece_of h))) b.buffers
      ∙ sym (all_buffers-more trace_start out₀ b.turns h)

  all_fit_lem : all_fit most (b.turns ++ (h ∷ [])) ≡ true
  all_fit_lem = all_fit_more most b.turns h b.fit (ap (λ (n : ℕ). got_ok h.got n) (sym size) ∙ got) size

  one_more : goes_on_by why ≡ true → Before most out₀ out_after q (reads + 1)
  one_more goes =
      record {
        turns = b.turns ++ (h ∷ []);
        count = ap (λ (n : ℕ). n + 1) b.count ∙ sym (length-append b.turns (h ∷ []));
        fit = all_fit_lem;
        went_on = all_go_on-more trace_start b.turns h b.went_on (ap goes_on_by (sym outcome_is) ∙ goes);
        stands = progress_is;
        buffers = buffers_are;
      }

  the_last : (input : List ℕ) → input ≡ h.buffer → (goes_on_by why && ltb (reads + 1) GREATEST) ≡ false
      → RunOf (record { progress = q; outcome = why; reads = reads + 1 }) input out₀ out_after
  the_last input left ends =
      record {
        before = b.turns;
        last = h;
        reads = ap (λ (n : ℕ). n + 1) b.count;
        fit = ap (λ (n : ℕ). all_fit n (b.turns ++ (h ∷ []))) (ap length left ∙ size) ∙ all_fit_lem;
        went_on = b.went_on;
        outcome = outcome_is;
        ends = ends;
        progress = progress_is;
        left = left;
        buffers = buffers_are;
      }

pub loop-reads-init : goal.loop-reads-init
loop-reads-init g c = (starts _ _ _ c.begin-p.ensures, lit< tt, refl)

pub returns-then-goes_on-reads : goal.returns-then-goes_on-reads
returns-then-goes_on-reads g c =
    let l = c.loop-reads in
    let turn = c.take_turn-had in
    let had : Had = record { got = turn.result.got; buffer = turn.new.input; written = turn.result.written } in
    let did = turn.ensures in
    the_last l.invariant.0 had turn.result.progress c.outcome_of-why.result _ did.got (search rules) did.progress did.buffer
    c.outcome_of-why.ensures _ refl
    (ap (λ (g : Bool). g && ltb (l.reads + 1) GREATEST) (sym c.goes_on.ensures) ∙ ends_by c.goes_on.result (l.reads + 1) c.if-goes_on-reads.true)

pub loop-reads-preserved : goal.loop-reads-preserved
loop-reads-preserved g c =
    let l = c.loop-reads in
    let turn = c.take_turn-had in
    let had : Had = record { got = turn.result.got; buffer = turn.new.input; written = turn.result.written } in
    let did = turn.ensures in
    let goes = goes_by c.goes_on.result (l.reads + 1) c.if-goes_on-reads.false in (
      one_more l.invariant.0 had turn.result.progress c.outcome_of-why.result _ did.got (search rules) did.progress did.buffer
          c.outcome_of-why.ensures (sym c.goes_on.ensures ∙ goes.0),
      omega (arith, goes.1),
      search rules,
    )
