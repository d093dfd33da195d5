-- The bound of demand 3 is reached: there are n stations and calls of which one fewer was not refused, and a station that has yet to say DONE.
-- The theorem, of two stations: proofs/BoundReached.antt.
use Rattle.std.specs.Prelude.{ℕ, ◌+◌, ◌*◌, ◌<◌, ◌≡◌, List, length}
use Rattle.message.specs.declared.Message.{Message}
use Rattle.station.specs.declared.Station.{Station}
use Rattle.bench_run.specs.Calls.{at_start, run}
use Rattle.bench_laws.specs.Demand3.{calls_each, Start, times_done}

pub record BoundIsReached (n : ℕ) : Type 0 where
  pub most : ℕ
  pub message : ℕ → Message
  pub draw : ℕ → ℕ
  pub stations : List Station
  pub start : Start most n message draw stations
  pub calls : List (List ℕ)
  pub fewer : length (run most n (at_start stations) calls).past + 1 ≡ calls_each * n
  pub station : ℕ
  pub below : station < n
  pub waits : times_done station (run most n (at_start stations) calls).past ≡ 0

-- two stations have to share the line
abbrev pub TwoReachTheBound : Type 0
TwoReachTheBound = BoundIsReached 2
