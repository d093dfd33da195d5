-- The trace program (01, 'Line examples': "reads 0 and 1 from standard input .. and stops at another byte"): the pieces that it reads,
-- the buffers that it writes, and when it goes on. What a call reads or writes no contract can name: a run's promise speaks of some
-- list of turns, one for each read.
use Rattle.std.specs.Prelude.{ℕ, zero, suc, ◌+◌, ◌≤◌, min, ◌≡◌, Bool, true, false, ◌&&◌, leb, ltb, eqb, ℤ, pos, negsuc, length, get_or, take, drop}
use mathlib.Core.List.{List, [], ◌∷◌, ◌++◌, flat_map}
use Rattle.std.proofs.lemmas.List.Edits.{sets}
use Rattle.ground.specs.Choice.{pick}
use Rattle.trace_lines.specs.Lines.{SIZE}
use Rattle.trace_lines.specs.Trace.{GREATEST, trace_start, progress_after, trace_from, trace_of, piece_text, traced_of}
use Rattle.trace_lines.specs.declared.Progress.{Progress}
use Rattle.trace_lines.specs.declared.run.Got.{Got}
use Rattle.trace_lines.specs.declared.run.Got.TheVariants.{Bytes, Ended, Failed}
use Rattle.trace_lines.specs.declared.run.Outcome.{Outcome}
use Rattle.trace_lines.specs.declared.run.Outcome.TheVariants.{GoesOn, InputEnded, Stopped, NotRead, NotWritten}
use Rattle.trace_lines.specs.declared.run.Ran.{Ran}

-- lists one after the other
abbrev pub joined : List (List ℕ) → List ℕ
joined ls = flat_map (λ (l : List ℕ). l) ls

-- ---- the buffers of one piece

-- the texts that are written, one after the other, at most so many: what is taken into one buffer, and then the rest of the piece from where
-- that leads; none where no byte is left or the trace has stopped
unfoldable pub buffers_up_to : ℕ → Progress → List ℕ → List (List ℕ)
buffers_up_to zero p piece = []
buffers_up_to (suc k) p [] = []
buffers_up_to (suc k) p (b ∷ bs) =
    pick p.stopped []
    (piece_text p (b ∷ bs) ∷ buffers_up_to k (traced_of p (b ∷ bs)).progress (drop (traced_of p (b ∷ bs)).taken (b ∷ bs)))

-- each of them takes a byte: there are no more than the piece has bytes
unfoldable pub buffers_of : Progress → List ℕ → List (List ℕ)
buffers_of p piece = buffers_up_to (length piece) p piece

-- the lent buffer after them: each text at its front, over the one before
unfoldable pub buffer_after : List ℕ → List (List ℕ) → List ℕ
buffer_after out [] = out
buffer_after out (text ∷ texts) = buffer_after (sets out 0 text) texts

-- ---- one turn: a read, its lines written, and whether the run goes on

-- what a read's answer says, of a buffer of so many bytes: a negative number that it failed, 0 that the input has ended
unfoldable pub got_of : ℤ → ℕ → Got
got_of (pos n) most = pick (eqb n 0) Ended (Bytes (min n most))
got_of (negsuc n) most = Failed

-- how many bytes a read gave, and which of the buffer
abbrev pub count_got : Got → ℕ
count_got (Bytes n) = n
count_got Ended = 0
count_got Failed = 0

abbrev pub bytes_got : Got → List ℕ → List ℕ
bytes_got got buffer = take (count_got got) buffer

-- a read that gives bytes gives at least one, and no more than the buffer has
abbrev pub got_ok : Got → ℕ → Bool
got_ok (Bytes n) most = ltb 0 n && leb n most
got_ok Ended most = true
got_ok Failed most = true

-- it ends where the input does, where a read or a write fails, and where the trace has stopped
abbrev pub outcome_of : Got → Bool → Bool → Outcome
outcome_of (Bytes n) written stopped = pick written (pick stopped Stopped GoesOn) NotWritten
outcome_of Ended written stopped = InputEnded
outcome_of Failed written stopped = NotRead

abbrev pub goes_on_by : Outcome → Bool
goes_on_by GoesOn = true
goes_on_by InputEnded = false
goes_on_by Stopped = false
goes_on_by NotRead = false
goes_on_by NotWritten = false

-- what one turn had: what the read gave, the buffer after it, and whether all that it made was written
pub record Had : Type 0 where
  pub got : Got
  pub buffer : List ℕ
  pub written : Bool

abbrev pub piece_of : Had → List ℕ
piece_of h = bytes_got h.got h.buffer

-- why a turn ends the run, or that it goes on, from where the trace stood before it
abbrev pub outcome_after : Progress → Had → Outcome
outcome_after p h = outcome_of h.got h.written (progress_after p (piece_of h)).stopped

-- ---- all turns, the earliest first

-- what was read
abbrev pub all_read : List Had → List ℕ
all_read hs = flat_map piece_of hs

-- the texts of all buffers
unfoldable pub all_buffers : Progress → List Had → List (List ℕ)
all_buffers p [] = []
all_buffers p (h ∷ hs) = buffers_of p (piece_of h) ++ all_buffers (progress_after p (piece_of h)) hs

-- each read was into a buffer of so many bytes
unfoldable pub all_fit : ℕ → List Had → Bool
all_fit most [] = true
all_fit most (h ∷ hs) = (got_ok h.got most && eqb (length h.buffer) most) && all_fit most hs

-- the run went on after each of them
unfoldable pub all_go_on : Progress → List Had → Bool
all_go_on p [] = true
all_go_on p (h ∷ hs) = goes_on_by (outcome_after p h) && all_go_on (progress_after p (piece_of h)) hs

-- a run, the input buffer that it leaves, and the buffer of lines before and after it: one turn for each read; it goes on after every
-- one but the last, and ends after the last, or after as many reads as a number counts; the buffers of all turns were filled in turn
pub record RunOf (r : Ran) (input out out_after : List ℕ) : Type 0 where
  pub before : List Had
  pub last : Had
  pub reads : r.reads ≡ length before + 1
  pub fit : all_fit (length input) (before ++ (last ∷ [])) ≡ true
  pub went_on : all_go_on trace_start before ≡ true
  pub outcome : r.outcome ≡ outcome_after (progress_after trace_start (all_read before)) last
  pub ends : (goes_on_by r.outcome && ltb r.reads GREATEST) ≡ false
  pub progress : r.progress ≡ progress_after trace_start (all_read (before ++ (last ∷ [])))
  pub left : input ≡ last.buffer
  pub buffers : out_after ≡ buffer_after out (all_buffers trace_start (before ++ (last ∷ [])))

-- ---- what holds of them: proofs/RunLaws.antt

-- what is put into the buffers, buffer after buffer and piece after piece, is the trace of all that was read, whatever the pieces; no text
-- is longer than its buffer
pub record PiecesPrintTheTrace : Type 0 where
  pub piece : (p : Progress) (piece : List ℕ) → joined (buffers_of p piece) ≡ trace_from p piece
  pub fits : (p : Progress) (piece : List ℕ) (i : ℕ) → length (get_or (buffers_of p piece) i []) ≤ SIZE
  pub whole : (turns : List Had) → joined (all_buffers trace_start turns) ≡ trace_of (all_read turns)
