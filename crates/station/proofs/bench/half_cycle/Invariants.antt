-- `half_cycle` meets its contract. The loop's invariant (`Looked`): the stations passed are in their states, the line is what they send,
-- and what each of them sent is kept. The tests are those of `bench_causes`, in its order, and what is left is the move of all.
use Rattle.station.proofs.Loops.{Looked}
use Rattle.station.proofs.bench.half_cycle.Given as goal

abbrev pub invariant-loop-k : goal.invariant-loop-k
invariant-loop-k l = Looked l.n l.slots l.line l.sent l.k
