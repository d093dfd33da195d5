-- "Within one routine the lowest number that applies is given." (01, 'Numbers given back'): of each routine of the station and the bench.
-- The theorem: proofs/Lowest.antt.
use Rattle.std.specs.Prelude.{ℕ, ◌≡◌, List}
use Rattle.ground.specs.Refusals.{lowest, number_given}
use Rattle.message.specs.declared.Message.{Message}
use Rattle.station.specs.Stations.{load_causes, send_causes, turn_causes}
use Rattle.station.specs.Benches.{bench_causes}
use Rattle.station.specs.declared.Station.{Station}

pub record StationLowest : Type 0 where
  pub load : (s : Station) (m : Message) (draw : ℕ) → lowest (load_causes s m draw) ≡ number_given (load_causes s m draw)
  pub sends : (s : Station) → lowest (send_causes s) ≡ number_given (send_causes s)
  pub advance : (s : Station) (heard draw : ℕ) → lowest (turn_causes s heard draw) ≡ number_given (turn_causes s heard draw)
  pub half_cycle : (most n : ℕ) (stations : List Station) (draws : List ℕ)
      → lowest (bench_causes most n stations draws) ≡ number_given (bench_causes most n stations draws)
