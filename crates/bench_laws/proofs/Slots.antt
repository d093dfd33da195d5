-- Demand 3 in slots: a call reads its n stations and their draws alone, so that the calls in slots lead where the calls of the stations do.
--
--     slot_turn_lem           a call in slots, by the call of its stations
--     same_moments        they lead to the same moments
--     demand_3_in_slots   the theorem of specs/Slots.antt
use mathlib.Core.Path.{◌≡◌, refl, sym, ap, ap₂, subst, ◌∙◌}
use mathlib.Core.Bool.{Bool, false}
use mathlib.Core.List.{List, [], ◌∷◌}
use Prim.Native.Nat.{ℕ}
use lib.ListN.{length, take, drop, replicate}
use lib.Seq.{take_at, drop_at}
use Rattle.station.specs.Benches.{most_stations, bench_on, bench_report, beside}
use Rattle.station.specs.declared.Station.{Station}
use Rattle.station.specs.declared.bench.BenchTurn.{BenchTurn}
use Rattle.station.proofs.BenchCases.{length-kept, marks_kept, reads_the_first}
use Rattle.bench_run.specs.Calls.{Moment, at_start, next_moment, call, run}
use Rattle.bench_run.proofs.CallLaws.{as_many}
use Rattle.bench_laws.specs.Demand3.{Claim}
use Rattle.bench_laws.specs.Slots.{Supplied, slot_turn, first_of, slot_call, slot_run, Demand3InSlots}
use Rattle.bench_laws.proofs.WholeList.{demand_3}

module _ (n : ℕ) (now : Moment) (x : Supplied) (many : length now.stations ≡ n) where
  abbrev core : BenchTurn
  core = bench_on most_stations n now.stations (take n x.draws)

  slot_turn_lem : slot_turn n now x ≡ beside x.beyond core
  slot_turn_lem = reads_the_first n now.stations x.beyond x.draws many

  long : length core.slots ≡ n
  long = length-kept most_stations n now.stations (take n x.draws) many

  marks : length core.done ≡ n
  marks = marks_kept most_stations n now.stations (take n x.draws) many

  first_of_lem : first_of n (slot_turn n now x) ≡ core
  first_of_lem =
      ap (first_of n) slot_turn_lem
      ∙ ap₂ {C = BenchTurn} (λ (d : List Bool) (s : List Station). record { answer = core.answer; done = d; slots = s })
      (take_at core.done (replicate (length x.beyond) false) n marks) (take_at core.slots x.beyond n long)

  same_call : slot_call n now x ≡ call most_stations n now (take n x.draws)
  unfolding slot_call call
  same_call = ap (λ (o : BenchTurn). next_moment now o o.answer) first_of_lem

  stays_beyond : drop n (slot_turn n now x).slots ≡ x.beyond
  stays_beyond = ap (λ (o : BenchTurn). drop n o.slots) slot_turn_lem ∙ drop_at core.slots x.beyond n long

  stays_unmarked : drop n (slot_turn n now x).done ≡ replicate (length x.beyond) false
  stays_unmarked = ap (λ (o : BenchTurn). drop n o.done) slot_turn_lem ∙ drop_at core.done (replicate (length x.beyond) false) n marks

-- the draws that the stations' calls are given
abbrev first_draws : ℕ → List Supplied → List (List ℕ)
first_draws n [] = []
first_draws n (x ∷ xs) = take n x.draws ∷ first_draws n xs

same_moments : (n : ℕ) (now : Moment) → length now.stations ≡ n → (xs : List Supplied) → slot_run n now xs ≡ run most_stations n now (first_draws n xs)
unfolding slot_run run
same_moments n now many [] = refl
same_moments n now many (x ∷ xs) =
    ap (λ (m : Moment). slot_call n m x) (same_moments n now many xs)
    ∙ same_call n (run most_stations n now (first_draws n xs)) x (as_many most_stations n now (first_draws n xs) many)

pub demand_3_in_slots : Demand3InSlots
demand_3_in_slots n message draw stations S xs =
    let now = slot_run n (at_start stations) xs in
    let there = same_moments n (at_start stations) S.many xs in
    let claim = subst (Claim most_stations n message) (sym there) (demand_3 most_stations n message draw stations S (first_draws n xs)) in
    let many : length now.stations ≡ n =
    ap (λ (m : Moment). length m.stations) there ∙ as_many most_stations n (at_start stations) (first_draws n xs) S.many in
    record {
      claim = claim;
      refused = λ x. ap (λ (o : BenchTurn). (bench_report o.answer).number) (slot_turn_lem n now x many) ∙ claim.refused (take n x.draws);
      unchanged = λ x e. same_call n now x many ∙ claim.unchanged (take n x.draws) e;
      beyond = λ x. stays_beyond n now x many;
      unmarked = λ x. stays_unmarked n now x many;
    }
