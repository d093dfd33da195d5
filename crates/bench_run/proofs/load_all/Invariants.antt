-- `load_all` meets its contract: at each turn, loading the stations that are left would answer, and fill the slots, as loading all of them does. A turn
-- loads the first of them, and ends where that is refused.
use mathlib.Core.Path.{◌≡◌}
use Prim.Native.Nat.{◌*◌}
use lib.ListN.{length, drop}
use lib.Seq.{sets}
use Rattle.bench_run.specs.BenchRuns.{loadings, loads_answer, stations_from}
use Rattle.bench_run.proofs.load_all.Given as goal

abbrev pub invariant-loop-i : goal.invariant-loop-i
invariant-loop-i l =
    (length l.slots ≡ 16)
    × (loads_answer (loadings (drop (5 * l.i) l.messages) (drop l.i l.loads)) ≡ loads_answer (loadings l.messages l.loads))
    × (sets l.slots l.i (stations_from (loadings (drop (5 * l.i) l.messages) (drop l.i l.loads))) ≡ sets l.initial.slots 0 (stations_from (loadings l.messages l.loads)))
