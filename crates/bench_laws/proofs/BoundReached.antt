-- The bound is reached by two stations that draw the longest wait each time and send the longest bursts, whose last half-cycle is 1: after 267
-- calls the one with the smaller frame has yet to say DONE. Computed, call by call.
use Rattle.std.specs.Prelude.{Ok}
use mathlib.Core.Path.{◌≡◌, refl}
use mathlib.Core.List.{List, [], ◌∷◌, zip_with}
use Prim.Native.Nat.{ℕ, zero, suc, ◌<◌}
use native.Mathlib.Omega.{arith}
use lib.ListN.{get_or, replicate}
use Rattle.message.specs.Codes.{code_of, line_codes}
use Rattle.message.specs.declared.Message.{Message}
use Rattle.message.specs.declared.Message.TheVariants.{Extended}
use Rattle.burst.specs.Frames.{bits_of, pairs_of, frame_of, burst_of}
use Rattle.station.specs.Stations.{empty_station, station_ok, load_of, loaded, sends_of, turn_of}
use Rattle.station.specs.declared.Station.{Station}
use Rattle.station.specs.Benches.{line_of, move_all, done_all, stations_ok, draws_ok, turn_all, bench_on}
use Rattle.ground.specs.Refusals.{judged}
use Rattle.bench_run.specs.Calls.{call, run}
use Rattle.bench_laws.specs.Bound.{TwoReachTheBound}

abbrev message : ℕ → Message
message i = Extended i 0 0 0

abbrev stations : List Station
stations = loaded (message 0) 10 ∷ loaded (message 1) 10 ∷ []

abbrev calls : ℕ → List (List ℕ)
calls k = replicate k (10 ∷ 10 ∷ [])

accepted : (i : ℕ) → i < 2 → (load_of empty_station (message i) 10).answer ≡ Ok tt
unfolding load_of station_ok judged
accepted zero l = refl
accepted (suc zero) l = refl
accepted (suc (suc i)) l = absurd (omega arith)

just_loaded : (i : ℕ) → i < 2 → get_or stations i empty_station ≡ (load_of empty_station (message i) 10).next
unfolding load_of station_ok judged
just_loaded zero l = refl
just_loaded (suc zero) l = refl
just_loaded (suc (suc i)) l = absurd (omega arith)

pub two_reach_the_bound : TwoReachTheBound
unfolding code_of line_codes bits_of pairs_of frame_of burst_of station_ok sends_of turn_of line_of zip_with move_all done_all stations_ok draws_ok turn_all bench_on judged
    call run
two_reach_the_bound = record {
  most = 16;
  message = message;
  draw = λ i. 10;
  stations = stations;
  start = record {
    some = omega arith;
    allowed = omega arith;
    many = refl;
    accepted = accepted;
    loaded = just_loaded;
  };
  calls = calls 267;
  fewer = refl;
  station = 0;
  below = omega arith;
  waits = refl;
}
