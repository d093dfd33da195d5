-- Demand 3 for 01's bench of sixteen slots: "Each bench call, a refused one too, gets the same n and, in their slots, all n stations as the call
-- before it returned or left them." What stands in the other slots, and which draws there are past the n-th, is anybody's at each call.
-- The theorem: proofs/Slots.antt.
use Rattle.std.specs.Prelude.{ℕ, ◌≡◌, false, List, [], ◌∷◌, ◌++◌, length, take, drop, replicate}
use Rattle.ground.specs.Choice.{pick}
use Rattle.message.specs.declared.Message.{Message}
use Rattle.station.specs.Benches.{most_stations, bench_of, bench_report}
use Rattle.station.specs.declared.Station.{Station}
use Rattle.station.specs.declared.bench.BenchTurn.{BenchTurn}
use Rattle.bench_run.specs.Calls.{Moment, at_start, next_moment}
use Rattle.bench_laws.specs.Demand3.{Start, drawn_for, Claim}

-- what a call is given beside its n stations: the slots past the last of them, and the draws
pub record Supplied : Type 0 where
  pub beyond : List Station
  pub draws : List ℕ

abbrev pub slot_turn : ℕ → Moment → Supplied → BenchTurn
slot_turn n now x = bench_of n (now.stations ++ x.beyond) x.draws

-- the n stations and their marks
abbrev pub first_of : ℕ → BenchTurn → BenchTurn
first_of n o = record { answer = o.answer; done = take n o.done; slots = take n o.slots }

unfoldable pub slot_call : ℕ → Moment → Supplied → Moment
slot_call n now x = next_moment now (first_of n (slot_turn n now x)) (slot_turn n now x).answer

-- the calls of a list, newest first
unfoldable pub slot_run : ℕ → Moment → List Supplied → Moment
slot_run n now [] = now
slot_run n now (x ∷ earlier) = slot_call n (slot_run n now earlier) x

pub record ClaimInSlots (n : ℕ) (message : ℕ → Message) (now : Moment) : Type 0 where
  -- all of demand 3
  pub claim : Claim most_stations n message now
  -- the next call is refused exactly by its first n draws, with 7,
  pub refused : (x : Supplied) → (bench_report (slot_turn n now x).answer).number ≡ pick (drawn_for n (take n x.draws)) 0 7
  -- and then changes nothing,
  pub unchanged : (x : Supplied) → drawn_for n (take n x.draws) ≡ false → slot_call n now x ≡ now
  -- and "slots and draws past its last station are neither judged nor changed", nor is one of them DONE
  pub beyond : (x : Supplied) → drop n (slot_turn n now x).slots ≡ x.beyond
  pub unmarked : (x : Supplied) → drop n (slot_turn n now x).done ≡ replicate (length x.beyond) false

abbrev pub Demand3InSlots : Type 0
Demand3InSlots =
    (n : ℕ) (message : ℕ → Message) (draw : ℕ → ℕ) (stations : List Station) → Start most_stations n message draw stations
    → (calls : List Supplied) → ClaimInSlots n message (slot_run n (at_start stations) calls)
