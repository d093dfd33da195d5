-- Laws of the trace program's pieces and buffers.
--
--     stopped_prints_nothing     a trace that has stopped prints nothing more
--     up_to_enough               as many buffers as a piece has bytes are enough
--     buffers_joined             the buffers of a piece, one after the other
--     buffers_fit                each of them fits into the lent buffer
--     first_buffer               the buffer after a piece: after its first text, and then the rest of the piece
--     buffer_none, buffer_stopped     no byte left, or a trace that has stopped: the buffer stays
--     got_within                 a read gives no more than the buffer has
--     all_read-more, all_fit_more, all_go_on-more, all_buffers-more     one turn more
--     pieces_print_the_trace     all that is written is the trace of all that was read
use mathlib.Core.Path.{◌≡◌, refl, sym, ap, ap₂, ◌∙◌}
use mathlib.Core.Bool.{true, false, ◌&&◌, and-eq-true_iff}
use mathlib.Core.List.{List, [], ◌∷◌, ◌++◌, append_assoc, append-nil, flat_map}
use Prim.Native.Nat.{ℕ, zero, suc, ◌≤◌}
use native.Mathlib.Nat.{le_refl}
use native.Mathlib.Omega.{arith}
use borrow.Author.Tests.{leb-true, eq-eqb}
use lib.Dec.{leb, ltb, eqb, lit≤}
use lib.ListN.{length, get_or, drop, length-drop}
use lib.Seq.{sets}
use Rattle.trace_lines.specs.Lines.{SIZE}
use Rattle.trace_lines.specs.Trace.{trace_start, printed, trace_from, trace_of, progress_after, taken_from, piece_text, traced_of, traced_buffer}
use Rattle.trace_lines.specs.Runs.{joined, buffers_up_to, buffers_of, buffer_after, got_ok, goes_on_by, Had, piece_of, outcome_after, all_read, all_fit, all_buffers}
use Rattle.trace_lines.specs.Runs.{all_go_on, PiecesPrintTheTrace}
use Rattle.trace_lines.specs.declared.Progress.{Progress}
use Rattle.trace_lines.specs.declared.run.Got.TheVariants.{Bytes}
use Rattle.ground.proofs.Choices.{both}
use Rattle.ground.proofs.Lists.{flat_append}
use Rattle.trace_lines.proofs.TraceLaws.{by_test, trace_append, trace_by_pieces, progress_append, byte_stopped}
use Rattle.trace_lines.proofs.TraceLaws.{taken_none, taken_stopped, taken_some, piece_fits}

-- ---- the buffers of one piece

printed_stopped : (p : Progress) (b : ℕ) → p.stopped ≡ true → printed p b ≡ []
unfolding printed
printed_stopped p b s = rw s

pub stopped_prints_nothing : (p : Progress) (s : List ℕ) → p.stopped ≡ true → trace_from p s ≡ []
unfolding trace_from
stopped_prints_nothing p [] e = refl
stopped_prints_nothing p (b ∷ s) e = rw (printed_stopped p b e, byte_stopped p b e) (stopped_prints_nothing p s e)

-- what is left of a piece after one buffer is shorter
rest_shorter : (k : ℕ) (p : Progress) (b : ℕ) (bs : List ℕ) → p.stopped ≡ false → length bs ≤ k
    → length (drop (traced_of p (b ∷ bs)).taken (b ∷ bs)) ≤ k
unfolding traced_of
rest_shorter k p b bs run h = omega (arith, taken_some p (b ∷ bs) run (omega arith), length-drop (taken_from p 0 (b ∷ bs)) (b ∷ bs))

-- as many buffers as there are bytes are enough
up_to_enough : (k l : ℕ) (p : Progress) (s : List ℕ) → length s ≤ k → length s ≤ l → buffers_up_to k p s ≡ buffers_up_to l p s
unfolding buffers_up_to
up_to_enough zero zero p s h g = refl
up_to_enough zero (suc l) p [] h g = refl
up_to_enough zero (suc l) p (b ∷ bs) h g = absurd (omega arith)
up_to_enough (suc k) zero p [] h g = refl
up_to_enough (suc k) zero p (b ∷ bs) h g = absurd (omega arith)
up_to_enough (suc k) (suc l) p [] h g = refl
up_to_enough (suc k) (suc l) p (b ∷ bs) h g = by_test p.stopped (λ e. simp e) (λ e. simp e
    (ap (λ (ls : List (List ℕ)). piece_text p (b ∷ bs) ∷ ls)
    (up_to_enough k l _ _ (rest_shorter k p b bs e (omega arith)) (rest_shorter l p b bs e (omega arith)))))

joined_up_to : (k : ℕ) (p : Progress) (s : List ℕ) → length s ≤ k → joined (buffers_up_to k p s) ≡ trace_from p s
unfolding flat_map buffers_up_to trace_from piece_text traced_of
joined_up_to zero p [] h = refl
joined_up_to zero p (b ∷ bs) h = absurd (omega arith)
joined_up_to (suc k) p [] h = refl
joined_up_to (suc k) p (b ∷ bs) h = by_test p.stopped (λ e. simp e (sym (stopped_prints_nothing p (b ∷ bs) e))) (λ e. simp e
    (ap (λ (l : List ℕ). piece_text p (b ∷ bs) ++ l) (joined_up_to k _ _ (rest_shorter k p b bs e (omega arith)))
    ∙ sym (trace_by_pieces p (taken_from p 0 (b ∷ bs)) (b ∷ bs))))

pub buffers_joined : (p : Progress) (piece : List ℕ) → joined (buffers_of p piece) ≡ trace_from p piece
unfolding buffers_of
buffers_joined p piece = joined_up_to _ p piece (le_refl _)

fits_up_to : (k : ℕ) (p : Progress) (s : List ℕ) (i : ℕ) → length (get_or (buffers_up_to k p s) i []) ≤ SIZE
unfolding buffers_up_to
fits_up_to zero p s i = lit≤ tt
fits_up_to (suc k) p [] i = lit≤ tt
fits_up_to (suc k) p (b ∷ bs) zero = by_test p.stopped (λ e. simp e (lit≤ tt)) (λ e. simp e (piece_fits p (b ∷ bs)))
fits_up_to (suc k) p (b ∷ bs) (suc i) = by_test p.stopped (λ e. simp e (lit≤ tt)) (λ e. simp e (fits_up_to k _ _ i))

pub buffers_fit : (p : Progress) (piece : List ℕ) (i : ℕ) → length (get_or (buffers_of p piece) i []) ≤ SIZE
unfolding buffers_of
buffers_fit p piece i = fits_up_to (length piece) p piece i

pub buffer_none : (p : Progress) (out : List ℕ) → buffer_after out (buffers_of p []) ≡ out
unfolding buffer_after buffers_of buffers_up_to
buffer_none p out = refl

pub buffer_stopped : (p : Progress) (s out : List ℕ) → p.stopped ≡ true → buffer_after out (buffers_of p s) ≡ out
unfolding buffer_after buffers_of buffers_up_to
buffer_stopped p [] out e = refl
buffer_stopped p (b ∷ bs) out e = rw e

pub first_buffer : (p : Progress) (s out : List ℕ)
    → buffer_after out (buffers_of p s) ≡ buffer_after (traced_buffer p s out) (buffers_of (traced_of p s).progress (drop (traced_of p s).taken s))
unfolding buffer_after buffers_of buffers_up_to traced_buffer traced_of piece_text trace_from progress_after
first_buffer p [] out = simp (taken_none p 0)
first_buffer p (b ∷ bs) out = by_test p.stopped (λ e. simp (e, taken_stopped p 0 (b ∷ bs) e)) (λ e. simp e
    (ap (buffer_after (traced_buffer p (b ∷ bs) out)) (up_to_enough _ _ _ _ (rest_shorter (length bs) p b bs e (le_refl _)) (le_refl _))))

-- ---- one turn

pub got_within : (n most : ℕ) → got_ok (Bytes n) most ≡ true → n ≤ most
got_within n most e = leb-true n most ((and-eq-true_iff (ltb 0 n) (leb n most)).0 e).1

-- ---- all turns

pub all_read-more : (hs : List Had) (h : Had) → all_read (hs ++ (h ∷ [])) ≡ all_read hs ++ piece_of h
unfolding flat_map
all_read-more hs h = flat_append piece_of hs (h ∷ []) ∙ ap (λ (l : List ℕ). all_read hs ++ l) (append-nil (piece_of h))

pub all_fit_more : (most : ℕ) (hs : List Had) (h : Had) → all_fit most hs ≡ true → got_ok h.got most ≡ true → length h.buffer ≡ most
    → all_fit most (hs ++ (h ∷ [])) ≡ true
unfolding all_fit
all_fit_more most [] h all got size = rw (got, eq-eqb (length h.buffer) most size)
all_fit_more most (g ∷ hs) h all got size =
    let each = (and-eq-true_iff (got_ok g.got most && eqb (length g.buffer) most) (all_fit most hs)).0 all in
    both each.0 (all_fit_more most hs h each.1 got size)

pub all_go_on-more : (p : Progress) (hs : List Had) (h : Had) → all_go_on p hs ≡ true → goes_on_by (outcome_after (progress_after p (all_read hs)) h) ≡ true
    → all_go_on p (hs ++ (h ∷ [])) ≡ true
unfolding all_go_on flat_map progress_after
all_go_on-more p [] h all this = rw this
all_go_on-more p (g ∷ hs) h all this =
    let each = (and-eq-true_iff (goes_on_by (outcome_after p g)) (all_go_on (progress_after p (piece_of g)) hs)).0 all in
    both each.0
    (all_go_on-more (progress_after p (piece_of g)) hs h each.1
    (ap (λ (q : Progress). goes_on_by (outcome_after q h)) (sym (progress_append p (piece_of g) (all_read hs))) ∙ this))

buffer_append : (out : List ℕ) (xs ys : List (List ℕ)) → buffer_after out (xs ++ ys) ≡ buffer_after (buffer_after out xs) ys
unfolding buffer_after
buffer_append out [] ys = refl
buffer_append out (x ∷ xs) ys = buffer_append (sets out 0 x) xs ys

buffers_more : (p : Progress) (hs : List Had) (h : Had)
    → all_buffers p (hs ++ (h ∷ [])) ≡ all_buffers p hs ++ buffers_of (progress_after p (all_read hs)) (piece_of h)
unfolding all_buffers flat_map progress_after
buffers_more p [] h = append-nil (buffers_of p (piece_of h))
buffers_more p (g ∷ hs) h =
    let next = progress_after p (piece_of g) in
    ap (λ (l : List (List ℕ)). buffers_of p (piece_of g) ++ l)
    (buffers_more next hs h
    ∙ ap (λ (q : Progress). all_buffers next hs ++ buffers_of q (piece_of h)) (sym (progress_append p (piece_of g) (all_read hs))))
    ∙ sym (append_assoc (buffers_of p (piece_of g)) (all_buffers next hs) (buffers_of (progress_after p (all_read (g ∷ hs))) (piece_of h)))

pub all_buffers-more : (p : Progress) (out : List ℕ) (hs : List Had) (h : Had)
    → buffer_after out (all_buffers p (hs ++ (h ∷ [])))
    ≡ buffer_after (buffer_after out (all_buffers p hs)) (buffers_of (progress_after p (all_read hs)) (piece_of h))
all_buffers-more p out hs h =
    ap (buffer_after out) (buffers_more p hs h) ∙ buffer_append out (all_buffers p hs) (buffers_of (progress_after p (all_read hs)) (piece_of h))

all_joined : (p : Progress) (hs : List Had) → joined (all_buffers p hs) ≡ trace_from p (all_read hs)
unfolding all_buffers flat_map trace_from
all_joined p [] = refl
all_joined p (h ∷ hs) =
    let next = progress_after p (piece_of h) in
    flat_append (λ (l : List ℕ). l) (buffers_of p (piece_of h)) (all_buffers next hs)
    ∙ ap₂ (λ (a b : List ℕ). a ++ b) (buffers_joined p (piece_of h)) (all_joined next hs)
    ∙ sym (trace_append p (piece_of h) (all_read hs))

pub pieces_print_the_trace : PiecesPrintTheTrace
unfolding trace_of
pieces_print_the_trace = record { piece = buffers_joined; fits = buffers_fit; whole = all_joined trace_start }
