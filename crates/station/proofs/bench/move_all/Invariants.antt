-- `move_all` meets its contract. The loop's invariant (`Moving`): the stations passed are as the line's half-cycle makes them and marked
-- where they are DONE, and those to come are as they were. A judged station that is empty stays; any other has the numbers of its move.
use Rattle.station.proofs.Loops.{Moving}
use Rattle.station.proofs.bench.move_all.Given as goal

abbrev pub invariant-loop-i : goal.invariant-loop-i
invariant-loop-i l = Moving l.n l.line l.initial.after l.draws l.after l.done l.i
