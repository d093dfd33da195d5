-- The number given is the lowest that applies: the numbers of each list of causes rise.
use mathlib.Core.Path.{refl}
use Rattle.ground.proofs.Causes.{lowest_given}
use Rattle.station.specs.Stations.{load_causes, send_causes, turn_causes}
use Rattle.station.specs.Benches.{bench_causes}
use Rattle.station.specs.StationLowest.{StationLowest}

pub lowest_numbers : StationLowest
lowest_numbers = record {
  load = λ s m draw. lowest_given (load_causes s m draw) refl;
  sends = λ s. lowest_given (send_causes s) refl;
  advance = λ s heard draw. lowest_given (turn_causes s heard draw) refl;
  half_cycle = λ most n stations draws. lowest_given (bench_causes most n stations draws) refl;
}
