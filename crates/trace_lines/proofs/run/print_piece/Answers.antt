use mathlib.Core.Path.{◌≡◌, refl, sym, ap, ◌∙◌}
use mathlib.Core.Bool.{true, false}
use mathlib.Core.List.{List}
use Prim.Native.Nat.{ℕ, ◌+◌, ◌-◌, ◌≤◌, ◌<◌}
use native.Mathlib.Omega.{arith}
use lib.ListN.{length, take, drop, length-drop, drop_of_length-le}
use lib.Seq.{take_all, drop-drop}
use Rattle.trace_lines.specs.Trace.{progress_after, traced_of, traced_buffer}
use Rattle.trace_lines.specs.Runs.{buffers_of, buffer_after}
use Rattle.trace_lines.specs.declared.Progress.{Progress}
use Rattle.trace_lines.specs.declared.Traced.{Traced}
use Rattle.trace_lines.proofs.TraceLaws.{progress_none, progress_stopped, taken_at_most, taken_some, traced_fits, piece_taken}
use Rattle.trace_lines.proofs.RunLaws.{buffer_none, buffer_stopped, first_buffer}
use Rattle.trace_lines.proofs.run.print_piece.Goals as goal

-- what one turn does
record Turn (input : List ℕ) (q : Progress) (from : ℕ) (out : List ℕ) (t : Traced) (out' : List ℕ) : Type 0 where
  within : from + t.taken ≤ length input
  some : t.progress.stopped ≡ false → 1 ≤ t.taken
  leads : progress_after t.progress (drop (from + t.taken) input) ≡ progress_after q (drop from input)
  buffers : buffer_after out' (buffers_of t.progress (drop (from + t.taken) input)) ≡ buffer_after out (buffers_of q (drop from input))

turn : (input : List ℕ) (q : Progress) (from : ℕ) (out : List ℕ) (t : Traced) (out' : List ℕ) → from < length input
    → t ≡ traced_of q (take (length input - from) (drop from input)) → out' ≡ traced_buffer q (take (length input - from) (drop from input)) out
    → Turn input q from out t out'
turn input q from out t out' h e f =
    let rest = drop from input in
    let size : length rest ≡ length input - from = length-drop from input in
    let same : take (length input - from) rest ≡ rest = take_all (length input - from) rest (omega arith) in
    let all : t ≡ traced_of q rest = e ∙ ap (traced_of q) same in
    let piece = piece_taken q rest t all in
    record {
      within = omega (arith, piece.0, taken_at_most q 0 rest);
      some = λ run. omega (arith, piece.0, taken_some q rest (piece.2 run) (omega arith));
      leads = ap (progress_after t.progress) (sym (drop-drop t.taken from input)) ∙ piece.1;
      buffers =
          ap (λ (l : List ℕ). buffer_after out' (buffers_of t.progress l)) (sym (drop-drop t.taken from input))
          ∙ ap (λ (x : Traced). buffer_after out' (buffers_of x.progress (drop x.taken rest))) all
          ∙ ap (λ (l : List ℕ). buffer_after l (buffers_of (traced_of q rest).progress (drop (traced_of q rest).taken rest)))
          (f ∙ ap (λ (l : List ℕ). traced_buffer q l out) same)
          ∙ sym (first_buffer q rest out);
    }

-- where the trace has stopped, and what is in the buffer then
stops : (input : List ℕ) (q : Progress) (from : ℕ) (out : List ℕ) (t : Traced) (out' : List ℕ) (p : Progress) (first : List ℕ)
    → Turn input q from out t out' → t.progress.stopped ≡ true → progress_after q (drop from input) ≡ progress_after p input
    → buffer_after out (buffers_of q (drop from input)) ≡ buffer_after first (buffers_of p input)
    → (t.progress ≡ progress_after p input) × (out' ≡ buffer_after first (buffers_of p input))
stops input q from out t out' p first did e at put =
    (sym (progress_stopped t.progress _ e) ∙ did.leads ∙ at, sym (buffer_stopped t.progress _ out' e) ∙ did.buffers ∙ put)

-- the same where the piece has ended
ends : (input : List ℕ) (q : Progress) (from : ℕ) (out : List ℕ) (p : Progress) (first : List ℕ) → length input ≤ from
    → progress_after q (drop from input) ≡ progress_after p input
    → buffer_after out (buffers_of q (drop from input)) ≡ buffer_after first (buffers_of p input)
    → (q ≡ progress_after p input) × (out ≡ buffer_after first (buffers_of p input))
ends input q from out p first past at put =
    let none = drop_of_length-le input past in (
      sym (progress_none q) ∙ ap (progress_after q) (sym none) ∙ at,
      sym (buffer_none q out) ∙ ap (λ (s : List ℕ). buffer_after out (buffers_of q s)) (sym none) ∙ put,
    )

pub loop-from-init : goal.loop-from-init
loop-from-init g c = (omega arith, refl, refl)

pub write-written-requires : goal.write-written-requires
write-written-requires g c = omega (arith, traced_fits _ _ _ c.trace-done.ensures.value)

pub overflow_add-from : goal.overflow_add-from
overflow_add-from g c =
    let done = c.trace-done in
    let t = turn _ _ _ _ _ _ c.loop-from-test.true done.ensures.value done.ensures.out_after in
    omega arith

pub returns-then-q : goal.returns-then-q
returns-then-q g c =
    let l = c.loop-from in
    let done = c.trace-done in
    let t = turn _ _ _ _ _ _ c.loop-from-test.true done.ensures.value done.ensures.out_after in
    let owed = stops _ _ _ _ _ _ _ _ t c.if-q.true l.invariant.1 l.invariant.2 in
    record { progress = owed.0; buffer = owed.1 }

pub loop-from-smaller : goal.loop-from-smaller
loop-from-smaller g c =
    let done = c.trace-done in
    let t = turn _ _ _ _ _ _ c.loop-from-test.true done.ensures.value done.ensures.out_after in
    omega (arith, t.some c.if-q.false)

pub loop-from-preserved : goal.loop-from-preserved
loop-from-preserved g c =
    let l = c.loop-from in
    let done = c.trace-done in
    let t = turn _ _ _ _ _ _ c.loop-from-test.true done.ensures.value done.ensures.out_after in
    (t.within, t.leads ∙ l.invariant.1, t.buffers ∙ l.invariant.2)

pub returns : goal.returns
returns g c =
    let l = c.loop-from in
    let owed = ends _ _ _ _ _ _ c.loop-from-test.false l.invariant.1 l.invariant.2 in
    record { progress = owed.0; buffer = owed.1 }
