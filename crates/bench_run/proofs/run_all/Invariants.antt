-- `run_all` meets its contract. The loop's invariant (`Calling`): after j calls lines and marks hold what those calls gave, and the stations and the
-- count are where they lead. A turn makes one call more.
use lib.ListN.{take, drop}
use Rattle.bench_run.proofs.CallLaws.{Calling}
use Rattle.bench_run.proofs.run_all.Given as goal

abbrev pub invariant-loop-j : goal.invariant-loop-j
invariant-loop-j l = Calling l.n (take l.n l.initial.turn.slots) (drop l.n l.initial.turn.slots) l.draws l.initial.lines l.initial.marks l.lines l.marks l.turn.slots l.count l.at l.j
