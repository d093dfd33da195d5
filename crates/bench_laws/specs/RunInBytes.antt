-- Demand 3 in the terms of the exported run: its lines and its marks at exit. A refused call has its number, which is above 1, in place of a half-cycle:
-- `taken` leaves the half-cycles answered. The theorem: proofs/RunInBytes.antt.
use Rattle.std.specs.Prelude.{ℕ, zero, suc, ◌+◌, ◌*◌, ◌/◌, ◌%◌, ◌^◌, ◌≤◌, ◌<◌, ◌≡◌, ◌⊎◌, ◌↔◌, false, List, ◌++◌, length, get_or, take, drop, Ok}
use Rattle.ground.specs.Refusals.{number_given}
use Rattle.message.specs.declared.Message.{Message}
use Rattle.burst.specs.Frames.{burst_of}
use Rattle.receiver.specs.Receivers.{fresh_receiver}
use Rattle.receiver.specs.Hearing.{events_of, taken}
use Rattle.receiver.specs.declared.Event.{Event}
use Rattle.receiver_laws.specs.Whole.{burst_events}
use Rattle.wire.specs.Messages.{message_in}
use Rattle.station.specs.Benches.{draws_ok}
use Rattle.bench_run.specs.BenchRuns.{draws_of, RunSlices, run_causes, run_answer, lines_after, marks_after}
use Rattle.bench_laws.specs.Demand3.{calls_each}

-- 1 where call j marks station i DONE: bit i of its two bytes, the higher first
abbrev pub mark_at : List ℕ → ℕ → ℕ → ℕ
mark_at marks j i = (get_or marks (2 * j) 0 * 256 + get_or marks (2 * j + 1) 0) / 2 ^ i % 2

-- how often the first k calls mark it
abbrev pub times_marked : List ℕ → ℕ → ℕ → ℕ
times_marked marks i zero = 0
times_marked marks i (suc k) = mark_at marks k i + times_marked marks i k

pub record RunInBytes (n : ℕ) (l : RunSlices) : Type 0 where
  -- station i's message is what its five bytes say
  pub message : ℕ → Message
  pub says : (i : ℕ) → i < n → message_in (drop (5 * i) l.messages) ≡ Ok (message i)
  -- a byte for each call: the line's half-cycle, or 7, exactly where one of its n draws is not 8 to 10
  pub bytes : length (lines_after l) ≡ length l.lines
  pub each : (j : ℕ) → j < length l.lines → (get_or (lines_after l) j 0 ≤ 1) ⊎ (get_or (lines_after l) j 0 ≡ 7)
  pub refused : (j : ℕ) → j < length l.lines → (get_or (lines_after l) j 0 ≡ 7) ↔ (draws_ok (draws_of n l.draws j) ≡ false)
  -- the answer counts the half-cycles
  pub answer : run_answer l ≡ Ok (length (taken (lines_after l)))
  -- once 134 n calls were not refused every station is marked exactly once,
  pub within : calls_each * n ≤ length (taken (lines_after l)) → (i : ℕ) → i < n → times_marked (marks_after l) i (length l.lines) ≡ 1
  -- and none ever twice
  pub once : (i : ℕ) → i < n → times_marked (marks_after l) i (length l.lines) ≤ 1
  -- where call j marks station i, the half-cycles answered so far end in its message's burst
  pub sent : (i j : ℕ) → i < n → j < length l.lines → mark_at (marks_after l) j i ≡ 1
      → (before : List ℕ) × (before ++ burst_of (message i) ≡ taken (take (suc j) (lines_after l)))
  -- and a receiver that was fresh and is given these half-cycles has heard it: MESSAGE at the frame's end, REPEAT at the burst's, nothing else
  pub heard : (i j : ℕ) → i < n → j < length l.lines → mark_at (marks_after l) j i ≡ 1
      → (before : List Event) × (before ++ burst_events (message i) ≡ events_of fresh_receiver (taken (take (suc j) (lines_after l))))
  -- a refused call marks nobody, and none marks another than the n
  pub unmarked : (i j : ℕ) → j < length l.lines → get_or (lines_after l) j 0 ≡ 7 → mark_at (marks_after l) j i ≡ 0
  pub others : (i j : ℕ) → n ≤ i → j < length l.lines → mark_at (marks_after l) j i ≡ 0

-- whatever is lent that the run does not refuse
abbrev pub EveryPressIsMarked : Type 0
EveryPressIsMarked = (l : RunSlices) → number_given (run_causes l) ≡ 0 → RunInBytes (length l.loads) l
