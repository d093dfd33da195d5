-- The trace of an input (01, 'Line examples'): which bytes it prints, byte after byte.
use Rattle.std.specs.Prelude.{ℕ, zero, suc, ◌+◌, ◌-◌, ◌≤◌, Bool, true, false, ◌&&◌, ◌||◌, not, List, [], ◌∷◌, ◌++◌, leb, eqb, length, take}
use Rattle.std.proofs.lemmas.List.Edits.{sets}
use Rattle.ground.specs.Choice.{pick}
use Rattle.receiver.specs.Receivers.{fresh_receiver, step_of}
use Rattle.trace_lines.specs.Lines.{line_text, event_text, LONGEST, LAST}
use Rattle.trace_lines.specs.declared.Line.TheVariants.{BadByte}
use Rattle.trace_lines.specs.declared.Progress.{Progress}
use Rattle.trace_lines.specs.declared.Traced.{Traced}

-- before any byte: a fresh receiver, "half-cycles numbered from 1"
abbrev pub trace_start : Progress
trace_start = record { receiver = fresh_receiver; number = 1; stopped = false }

-- the greatest number that a half-cycle has, and that reads are counted to; the trace ends after it
abbrev pub GREATEST : ℕ
GREATEST = 18446744073709551615

-- "reads 0 and 1 from standard input"
abbrev pub is_half : ℕ → Bool
is_half b = eqb b 48 || eqb b 49

-- "skips bytes 10 and 13"
abbrev pub is_skipped : ℕ → Bool
is_skipped b = eqb b 10 || eqb b 13

-- what a byte prints: the line of its event, nothing, or, for another byte, "a line of the number its half-cycle would have had, tab, BADBYTE"
unfoldable pub printed : Progress → ℕ → List ℕ
printed p b =
    pick p.stopped []
    (pick (is_half b) (event_text p.number (step_of p.receiver (b - 48)).event)
    (pick (is_skipped b) [] (line_text p.number BadByte)))

-- where the trace stands after a half-cycle
unfoldable pub half_after : Progress → ℕ → Progress
half_after p h =
    pick (eqb p.number GREATEST)
    (record { receiver = (step_of p.receiver h).next; number = p.number; stopped = true })
    (record { receiver = (step_of p.receiver h).next; number = p.number + 1; stopped = false })

-- where the trace stands after a byte: it "stops at another byte", and nothing moves it then
unfoldable pub byte_after : Progress → ℕ → Progress
byte_after p b =
    pick p.stopped p
    (pick (is_half b) (half_after p (b - 48))
    (pick (is_skipped b) p (record { receiver = p.receiver; number = p.number; stopped = true })))

-- what a list of bytes prints, and where the trace stands after it
unfoldable pub trace_from : Progress → List ℕ → List ℕ
trace_from p [] = []
trace_from p (b ∷ bs) = printed p b ++ trace_from (byte_after p b) bs

unfoldable pub progress_after : Progress → List ℕ → Progress
progress_after p [] = p
progress_after p (b ∷ bs) = progress_after (byte_after p b) bs

-- the whole trace of an input
unfoldable pub trace_of : List ℕ → List ℕ
trace_of input = trace_from trace_start input

-- ---- one piece of the input, into one buffer

-- how many bytes are taken: until the trace stops, or a line may no longer begin at the place reached
unfoldable pub taken_from : Progress → ℕ → List ℕ → ℕ
taken_from p at [] = zero
taken_from p at (b ∷ bs) = pick (not p.stopped && leb at LAST) (suc (taken_from (byte_after p b) (at + length (printed p b)) bs)) zero

-- what those bytes print
unfoldable pub piece_text : Progress → List ℕ → List ℕ
piece_text p input = trace_from p (take (taken_from p 0 input) input)

-- the answer, and the buffer: the text at its front
unfoldable pub traced_of : Progress → List ℕ → Traced
traced_of p input =
    record {
      progress = progress_after p (take (taken_from p 0 input) input);
      taken = taken_from p 0 input;
      length = length (piece_text p input);
    }

unfoldable pub traced_buffer : Progress → List ℕ → List ℕ → List ℕ
traced_buffer p input out = sets out 0 (piece_text p input)

-- ---- what holds of them: proofs/LineLaws.antt

-- no line is longer than 64 bytes: one that begins no later than at the last place ends within the buffer
abbrev pub LinesFit : Type 0
LinesFit = (p : Progress) (b : ℕ) → length (printed p b) ≤ LONGEST
