-- Laws of the trace of a list of bytes.
--
--     by_test                           what follows from a test, whichever way it comes out
--     half_taken, byte_skipped, byte_refused     what a byte prints, and where the trace then stands
--     trace_append, progress_append     the trace of two lists, one after the other
--     trace_by_pieces                   a piece, and then the rest from where the trace stands
--     progress_none, byte_stopped, progress_stopped     no byte; nothing moves a trace that has stopped
--     still_going                       a trace that has not stopped had not stopped before
--     taken_none, taken_stopped, taken_full, taken_more     how many bytes of a piece are taken
--     taken_at_most, taken_some         no more than there are, and at least one
--     piece_fits, traced_fits           what they print fits into the buffer
--     Going, going_starts, going_on, going_ends     the trace of a piece, byte after byte
--     piece_taken                       the rest of a piece, from where its beginning leads
use mathlib.Core.Path.{◌≡◌, refl, sym, ap, ◌∙◌}
use mathlib.Core.Bool.{Bool, true, false, false≢true, ◌&&◌, not, and-eq-true_iff}
use mathlib.Core.List.{List, [], ◌∷◌, ◌++◌, append_assoc, append-nil}
use Prim.Native.Nat.{ℕ, suc, ◌+◌, ◌-◌, ◌≤◌, ◌<◌}
use native.Mathlib.Nat.{zero-add}
use native.Mathlib.Numerals.{add-one}
use native.Mathlib.Omega.{arith}
use borrow.Author.Tests.{le-leb, lt-leb, leb-true}
use lib.Dec.{leb, lit≤}
use lib.ListN.{length, take, drop, get_or, length-append, take-append-drop}
use lib.Seq.{sets, take-suc, drop-cons}
use Rattle.ground.specs.Choice.{pick}
use Rattle.receiver.specs.Receivers.{step_of}
use Rattle.text.specs.Texts.{Put}
use Rattle.trace_lines.specs.Lines.{line_text, event_text, SIZE, LAST}
use Rattle.trace_lines.specs.Trace.{is_half, is_skipped, printed, half_after, byte_after, trace_from, progress_after}
use Rattle.trace_lines.specs.Trace.{taken_from, piece_text, traced_of, traced_buffer}
use Rattle.trace_lines.specs.declared.Line.TheVariants.{BadByte}
use Rattle.trace_lines.specs.declared.Progress.{Progress}
use Rattle.trace_lines.specs.declared.Traced.{Traced}
use Rattle.ground.proofs.Lists.{sets-append}
use Rattle.trace_lines.proofs.LineLaws.{lines_fit}

-- ---- one byte

picked_true : {A : Type 0} (t : Bool) (x y : A) → t ≡ true → pick t x y ≡ x
picked_true t x y e = rw e

picked_false : {A : Type 0} (t : Bool) (x y : A) → t ≡ false → pick t x y ≡ y
picked_false t x y e = rw e

pub by_test : {A : Type 0} (t : Bool) → (t ≡ true → A) → (t ≡ false → A) → A
by_test true f g = f refl
by_test false f g = g refl

module _ (p : Progress) (b : ℕ) (run : p.stopped ≡ false) where
  pub half_taken : is_half b ≡ true → (byte_after p b ≡ half_after p (b - 48)) × (printed p b ≡ event_text p.number (step_of p.receiver (b - 48)).event)
  unfolding byte_after printed
  half_taken h = (picked_false p.stopped _ _ run ∙ picked_true (is_half b) _ _ h, picked_false p.stopped _ _ run ∙ picked_true (is_half b) _ _ h)

  pub byte_skipped : is_half b ≡ false → is_skipped b ≡ true → (byte_after p b ≡ p) × (printed p b ≡ [])
  unfolding byte_after printed
  byte_skipped h s = (
    picked_false p.stopped _ _ run ∙ picked_false (is_half b) _ _ h ∙ picked_true (is_skipped b) _ _ s,
    picked_false p.stopped _ _ run ∙ picked_false (is_half b) _ _ h ∙ picked_true (is_skipped b) _ _ s,
  )

  pub byte_refused : is_half b ≡ false → is_skipped b ≡ false
      → (byte_after p b ≡ record { receiver = p.receiver; number = p.number; stopped = true }) × (printed p b ≡ line_text p.number BadByte)
  unfolding byte_after printed
  byte_refused h s = (
    picked_false p.stopped _ _ run ∙ picked_false (is_half b) _ _ h ∙ picked_false (is_skipped b) _ _ s,
    picked_false p.stopped _ _ run ∙ picked_false (is_half b) _ _ h ∙ picked_false (is_skipped b) _ _ s,
  )

-- ---- two lists, one after the other

pub trace_append : (p : Progress) (s t : List ℕ) → trace_from p (s ++ t) ≡ trace_from p s ++ trace_from (progress_after p s) t
unfolding trace_from progress_after
trace_append p [] t = refl
trace_append p (b ∷ s) t =
    ap (λ (l : List ℕ). printed p b ++ l) (trace_append (byte_after p b) s t)
    ∙ sym (append_assoc (printed p b) (trace_from (byte_after p b) s) (trace_from (progress_after (byte_after p b) s) t))

pub progress_append : (p : Progress) (s t : List ℕ) → progress_after p (s ++ t) ≡ progress_after (progress_after p s) t
unfolding progress_after
progress_append p [] t = refl
progress_append p (b ∷ s) t = progress_append (byte_after p b) s t

pub trace_by_pieces : (p : Progress) (k : ℕ) (input : List ℕ)
    → trace_from p input ≡ trace_from p (take k input) ++ trace_from (progress_after p (take k input)) (drop k input)
trace_by_pieces p k input = ap (trace_from p) (sym (take-append-drop k input)) ∙ trace_append p (take k input) (drop k input)

pub progress_none : (p : Progress) → progress_after p [] ≡ p
unfolding progress_after
progress_none p = refl

pub byte_stopped : (p : Progress) (b : ℕ) → p.stopped ≡ true → byte_after p b ≡ p
unfolding byte_after
byte_stopped p b s = rw s

pub progress_stopped : (p : Progress) (s : List ℕ) → p.stopped ≡ true → progress_after p s ≡ p
unfolding progress_after
progress_stopped p [] e = refl
progress_stopped p (b ∷ s) e = ap (λ (q : Progress). progress_after q s) (byte_stopped p b e) ∙ progress_stopped p s e

pub still_going : (p : Progress) (s : List ℕ) → (progress_after p s).stopped ≡ false → p.stopped ≡ false
still_going p s run =
    by_test p.stopped (λ e. absurd (false≢true (sym run ∙ ap (λ (q : Progress). q.stopped) (progress_stopped p s e) ∙ e))) (λ e. e)

-- ---- how many bytes are taken

pub taken_none : (p : Progress) (at : ℕ) → taken_from p at [] ≡ 0
unfolding taken_from
taken_none p at = refl

pub taken_stopped : (p : Progress) (at : ℕ) (s : List ℕ) → p.stopped ≡ true → taken_from p at s ≡ 0
unfolding taken_from
taken_stopped p at [] e = refl
taken_stopped p at (b ∷ s) e = rw e

pub taken_full : (p : Progress) (at : ℕ) (s : List ℕ) → p.stopped ≡ false → LAST < at → taken_from p at s ≡ 0
unfolding taken_from
taken_full p at [] e past = refl
taken_full p at (b ∷ s) e past = rw (e, lt-leb at LAST past)

pub taken_more : (p : Progress) (at b : ℕ) (s : List ℕ) → p.stopped ≡ false → at ≤ LAST
    → taken_from p at (b ∷ s) ≡ suc (taken_from (byte_after p b) (at + length (printed p b)) s)
unfolding taken_from
taken_more p at b s e room = rw (e, le-leb at LAST room)

pub taken_at_most : (p : Progress) (at : ℕ) (s : List ℕ) → taken_from p at s ≤ length s
unfolding taken_from
taken_at_most p at [] = omega arith
taken_at_most p at (b ∷ s) = go (not p.stopped && leb at LAST) (taken_at_most (byte_after p b) (at + length (printed p b)) s)
  where
    go : (t : Bool) → taken_from (byte_after p b) (at + length (printed p b)) s ≤ length s
        → pick t (suc (taken_from (byte_after p b) (at + length (printed p b)) s)) 0 ≤ suc (length s)
    go true most = omega arith
    go false most = omega arith

pub taken_some : (p : Progress) (s : List ℕ) → p.stopped ≡ false → 0 < length s → 1 ≤ taken_from p 0 s
taken_some p [] run h = omega arith
taken_some p (b ∷ s) run h = omega (arith, taken_more p 0 b s run (lit≤ tt))

-- what is printed from a place on ends within the buffer: each line begins where a line may
fits_from : (p : Progress) (at : ℕ) (s : List ℕ) → at ≤ SIZE → at + length (trace_from p (take (taken_from p at s) s)) ≤ SIZE
unfolding taken_from trace_from
fits_from p at [] h = omega arith
fits_from p at (b ∷ s) h = by_test (not p.stopped && leb at LAST)
    (λ e. let room : at ≤ LAST = leb-true at LAST ((and-eq-true_iff (not p.stopped) (leb at LAST)).0 e).1 in
    let line : at + length (printed p b) ≤ SIZE = omega (arith, lines_fit p b) in
    simp (e, length-append) (omega (arith, fits_from (byte_after p b) (at + length (printed p b)) s line)))
    (λ e. simp e (omega arith))

pub piece_fits : (p : Progress) (s : List ℕ) → length (piece_text p s) ≤ SIZE
unfolding piece_text
piece_fits p s = omega (arith, fits_from p 0 s (lit≤ tt))

pub traced_fits : (p : Progress) (s : List ℕ) (t : Traced) → t ≡ traced_of p s → t.length ≤ SIZE
unfolding traced_of
traced_fits p s t e = omega (arith, ap (λ (x : Traced). x.length) e, piece_fits p s)

-- ---- byte after byte

-- i bytes of a piece are taken: where the trace then stands, the buffer and the place in it, and how many bytes will be taken in all
pub record Going (input out₀ : List ℕ) (p : Progress) (out : List ℕ) (q : Progress) (at i : ℕ) : Type 0 where
  pub within : i ≤ length input
  pub stands : q ≡ progress_after p (take i input)
  pub place : at ≡ length (trace_from p (take i input))
  pub bytes : out ≡ sets out₀ 0 (trace_from p (take i input))
  pub count : taken_from p 0 input ≡ i + taken_from q at (drop i input)

pub going_starts : (input out : List ℕ) (p : Progress) → Going input out p out p 0 0
unfolding trace_from progress_after
going_starts input out p =
    record { within = omega arith; stands = refl; place = refl; bytes = refl; count = sym (zero-add (taken_from p 0 input)) }

-- what is printed and where the trace stands after one more byte
trace_snoc : (p : Progress) (s : List ℕ) (b : ℕ) → trace_from p (s ++ (b ∷ [])) ≡ trace_from p s ++ printed (progress_after p s) b
unfolding trace_from
trace_snoc p s b = trace_append p s (b ∷ []) ∙ ap (λ (l : List ℕ). trace_from p s ++ l) (append-nil (printed (progress_after p s) b))

progress_snoc : (p : Progress) (s : List ℕ) (b : ℕ) → progress_after p (s ++ (b ∷ [])) ≡ byte_after (progress_after p s) b
unfolding progress_after
progress_snoc p s b = progress_append p s (b ∷ [])

module _ {input out₀ : List ℕ} {p : Progress} {out : List ℕ} {q : Progress} {at i : ℕ} (g : Going input out₀ p out q at i) where
  pub going_on : {q' : Progress} {out' : List ℕ} {at' : ℕ} → i < length input → q.stopped ≡ false → at ≤ LAST
      → q' ≡ byte_after q (get_or input i 0) → Put out at (printed q (get_or input i 0)) out' at' → Going input out₀ p out' q' at' (i + 1)
  going_on {q'} {out'} {at'} h run room e put =
      let b = get_or input i 0 in
      let s = take i input in
      let more : take (i + 1) input ≡ s ++ (b ∷ []) = ap (λ (n : ℕ). take n input) (add-one i) ∙ take-suc input i 0 h in
      let says : trace_from p (take (i + 1) input) ≡ trace_from p s ++ printed q b =
      ap (trace_from p) more ∙ trace_snoc p s b ∙ ap (λ (x : Progress). trace_from p s ++ printed x b) (sym g.stands) in
      record {
        within = omega arith;
        stands = e ∙ ap (λ (x : Progress). byte_after x b) g.stands ∙ sym (progress_snoc p s b) ∙ ap (progress_after p) (sym more);
        place =
            put.place ∙ ap (λ (n : ℕ). n + length (printed q b)) g.place
            ∙ sym (length-append (trace_from p s) (printed q b)) ∙ ap length (sym says);
        bytes =
            put.bytes
            ∙ ap (λ (l : List ℕ). sets l at (printed q b)) g.bytes
            ∙ ap (λ (n : ℕ). sets (sets out₀ 0 (trace_from p s)) n (printed q b)) (g.place ∙ sym (zero-add (length (trace_from p s))))
            ∙ sym (sets-append out₀ 0 (trace_from p s) (printed q b))
            ∙ ap (λ (l : List ℕ). sets out₀ 0 l) (sym says);
        count =
            let rest : taken_from q at (drop i input) ≡ suc (taken_from q' at' (drop (i + 1) input)) =
            ap (taken_from q at) (drop-cons input i 0 h)
            ∙ taken_more q at b (drop (suc i) input) run room
            ∙ ap (λ (x : Progress). suc (taken_from x (at + length (printed q b)) (drop (suc i) input))) (sym e)
            ∙ ap (λ (n : ℕ). suc (taken_from q' n (drop (suc i) input))) (sym put.place)
            ∙ ap (λ (n : ℕ). suc (taken_from q' at' (drop n input))) (sym (add-one i)) in
            omega (arith, g.count);
      }

  -- where no further byte is taken, that is the answer
  pub going_ends : {t : Traced} → t ≡ record { progress = q; taken = i; length = at } → taken_from q at (drop i input) ≡ 0
      → (t ≡ traced_of p input) × (out ≡ traced_buffer p input out₀)
  unfolding traced_of traced_buffer piece_text
  going_ends {t} e none =
      let all : i ≡ taken_from p 0 input = omega (arith, g.count) in (
        e ∙ (λ j. record { progress = g.stands j; taken = i; length = g.place j })
            ∙ ap (λ (n : ℕ). record { progress = progress_after p (take n input); taken = n; length = length (trace_from p (take n input)) }) all,
        g.bytes ∙ ap (λ (n : ℕ). sets out₀ 0 (trace_from p (take n input))) all,
      )

-- the rest of a piece of which some bytes are taken
pub piece_taken : (p : Progress) (s : List ℕ) (t : Traced) → t ≡ traced_of p s
    → (t.taken ≡ taken_from p 0 s)
    × (progress_after t.progress (drop t.taken s) ≡ progress_after p s)
    × (t.progress.stopped ≡ false → p.stopped ≡ false)
unfolding traced_of
piece_taken p s t e =
    let k = taken_from p 0 s in (
      ap (λ (x : Traced). x.taken) e,
      ap (λ (x : Traced). progress_after x.progress (drop x.taken s)) e
          ∙ sym (progress_append p (take k s) (drop k s))
          ∙ ap (progress_after p) (take-append-drop k s),
      λ run. still_going p (take k s) (ap (λ (x : Traced). x.progress.stopped) (sym e) ∙ run),
    )
