-- Laws of a bench's call.
--
--     Judged, bench_judged        it is refused with all as it was, or its tests passed and all stations are turned
--     length-kept, marks_kept     it leaves as many stations, and a mark for each
--     reads_the_first             ReadsTheFirst
use mathlib.Core.Path.{◌≡◌, refl, sym, ap₂, ◌∙◌}
use mathlib.Core.Bool.{Bool, true, false, ◌&&◌}
use mathlib.Core.List.{List}
use Prim.Native.Nat.{ℕ}
use borrow.Author.Tests.{eqb-true}
use lib.Dec.{eqb, leb}
use lib.ListN.{length, take, length-replicate}
use lib.Seq.{take_at, drop_at}
use Rattle.ground.specs.Choice.{pick}
use Rattle.ground.specs.Refusals.{judged}
use Rattle.ground.specs.declared.Refusal.{Refusal}
use Rattle.ground.specs.declared.Refusal.TheVariants as refusal
use Rattle.station.specs.Benches.{line_of, stations_ok, draws_ok, turn_all, bench_refused, bench_on, most_stations, beside, bench_of, ReadsTheFirst}
use Rattle.station.specs.declared.Station.{Station}
use Rattle.station.specs.declared.bench.BenchTurn.{BenchTurn}
use Rattle.station.proofs.SlotLaws.{length_moved, length-done}

module _ (most n : ℕ) (stations : List Station) (draws : List ℕ) where
  pub data Judged : BenchTurn → Type 0 where
    refuses : (why : Refusal) → Judged (bench_refused stations why)
    turns : (leb 1 n && leb n most) ≡ true → length stations ≡ n → stations_ok stations ≡ true → length draws ≡ n → draws_ok draws ≡ true
        → Judged (turn_all stations draws)

  pub bench_judged : Judged (bench_on most n stations draws)
  unfolding bench_on judged
  bench_judged =
      go (leb 1 n && leb n most) refl (eqb (length stations) n) refl (stations_ok stations) refl (eqb (length draws) n) refl (draws_ok draws) refl
    where
      bad : Refusal → BenchTurn
      bad = bench_refused stations

      go : (a : Bool) → (leb 1 n && leb n most) ≡ a → (m : Bool) → eqb (length stations) n ≡ m → (b : Bool) → stations_ok stations ≡ b
          → (c : Bool) → eqb (length draws) n ≡ c → (d : Bool) → draws_ok draws ≡ d
          → Judged
          (pick a
          (pick m (pick b (pick c (pick d (turn_all stations draws) (bad refusal.Draw)) (bad refusal.Draw)) (bad refusal.State)) (bad refusal.State))
          (bad refusal.State))
      go true p true e true q true r true t = turns p (eqb-true (length stations) n e) q (eqb-true (length draws) n r) t
      go true p true e true q true r false t = refuses refusal.Draw
      go true p true e true q false r d t = refuses refusal.Draw
      go true p true e false q c r d t = refuses refusal.State
      go true p false e b q c r d t = refuses refusal.State
      go false p m e b q c r d t = refuses refusal.State

  module _ (many : length stations ≡ n) where
    pub length-kept : length (bench_on most n stations draws).slots ≡ n
    unfolding turn_all
    length-kept = go bench_judged
      where
        go : {o : BenchTurn} → Judged o → length o.slots ≡ n
        go (refuses why) = many
        go (turns p e q r t) = length_moved (line_of stations) stations draws (r ∙ sym many) ∙ many

    pub marks_kept : length (bench_on most n stations draws).done ≡ n
    unfolding turn_all
    marks_kept = go bench_judged
      where
        go : {o : BenchTurn} → Judged o → length o.done ≡ n
        go (refuses why) = length-replicate (length stations) false ∙ many
        go (turns p e q r t) = length-done (line_of stations) stations draws (r ∙ sym many) ∙ many

pub reads_the_first : ReadsTheFirst
unfolding bench_of
reads_the_first n stations beyond draws many =
    ap₂ (λ (b ss : List Station). beside b (bench_on most_stations n ss (take n draws)))
    (drop_at stations beyond n many) (take_at stations beyond n many)
