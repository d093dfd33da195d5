-- The run that is exported (crate bench_run) makes the calls that demand 3 speaks of: what it loads is as `Start` says, and what it answers and
-- leaves is read off that very list of calls. The theorem: proofs/ExportedRun.antt.
use Rattle.std.specs.Prelude.{ℕ, ◌*◌, ◌<◌, ◌≡◌, length, get_or, drop, Ok}
use mathlib.Core.List.{◌++◌, flat_map}
use Rattle.ground.specs.Refusals.{number_given}
use Rattle.message.specs.declared.Message.{Message}
use Rattle.station.specs.Benches.{most_stations}
use Rattle.wire.specs.Messages.{message_in}
use Rattle.bench_run.specs.Calls.{at_start, run}
use Rattle.bench_run.specs.BenchRuns.{calls_of, line_bytes, mark_bytes, RunSlices, run_causes, stations_in, moment_in, turns_in, run_answer, lines_after, marks_after}
use Rattle.bench_laws.specs.Demand3.{Start, Claim}

-- of lent bytes, with n draws to load with
pub record Exported (n : ℕ) (l : RunSlices) : Type 0 where
  -- station i's message is what its five bytes say
  pub message : ℕ → Message
  pub says : (i : ℕ) → i < n → message_in (drop (5 * i) l.messages) ≡ Ok (message i)
  -- "At its start the bench's n stations have just been loaded from empty", each with its own draw
  pub start : Start most_stations n message (λ i. get_or l.loads i 0) (stations_in l)
  -- there is a draw for each station and call
  pub drawn : length l.draws ≡ n * length l.lines
  -- the calls are a list as demand 3 takes it, one for each byte of lines,
  pub leads : moment_in l ≡ run most_stations n (at_start (stations_in l)) (calls_of n l.draws (length l.lines))
  -- and so all of demand 3 holds of where they lead
  pub claim : Claim most_stations n message (moment_in l)
  -- the answer counts those that were not refused
  pub answer : run_answer l ≡ Ok (length (moment_in l).past)
  -- lines and marks have the bytes of each call, oldest first
  pub lines : lines_after l ≡ line_bytes (turns_in l)
  pub marks : marks_after l ≡ flat_map mark_bytes (turns_in l) ++ drop (2 * length l.lines) l.marks

-- whatever is lent that the run does not refuse
abbrev pub ExportedRun : Type 0
ExportedRun = (l : RunSlices) → number_given (run_causes l) ≡ 0 → Exported (length l.loads) l
