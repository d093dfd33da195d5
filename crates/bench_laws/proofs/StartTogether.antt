-- Stations that start together: what holds of each when they start is kept, answer by answer, as long as the burst takes. The line has the greatest
-- half-cycle sent, and a station that has sent the same as w so far, with no greater frame, sends no greater one next.
--
--     Taken, later                      what holds at a moment and is kept by each answer holds k answers later
--     said, both, finish                equal messages: a station says DONE where it is newly empty, and they are so together
--     Ahead, ahead_next, ahead          the greatest frame: the line has carried its burst so far
--     finishes                          at its end, and not before, its station is empty
--     greatest_wins, greatest_finishes, equals_finish     theorems of specs/Together.antt
use Rattle.std.specs.Prelude.{Ok, Option}
use mathlib.Core.Path.{◌≡◌, refl, sym, ap, subst, ◌∙◌}
use mathlib.Core.Logic.{◌⊎◌, inl, inr}
use mathlib.Core.Bool.{true}
use mathlib.Core.List.{List, [], ◌∷◌}
use Prim.Native.Nat.{ℕ, suc, ◌+◌, ◌≤◌, ◌<◌}
use native.Mathlib.Decide.{ℕ_discrete}
use native.Mathlib.Omega.{arith}
use borrow.Author.Tests.{eq-eqb, ne_eqb}
use lib.ListN.{length, get_or, take}
use Rattle.message.specs.Messages.{message_ok}
use Rattle.message.specs.declared.Message.{Message}
use Rattle.burst.specs.Frames.{burst_of, burst_length}
use Rattle.station.specs.Stations.{empty_station, is_empty, sends_of}
use Rattle.station.specs.declared.Station.{Station}
use Rattle.station.specs.declared.bench.BenchTurn.{BenchTurn}
use Rattle.station.proofs.StateLaws.{fine_station}
use Rattle.station.proofs.TurnLaws.{Movable}
use Rattle.bench_run.specs.Calls.{Moment, lines_of, next_moment, call, run}
use Rattle.bench_run.proofs.CallLaws.{as_many}
use Rattle.bench_laws.specs.Demand3.{times_done}
use Rattle.bench_laws.specs.Together.{station_at, Valid, Starts, Quiet, Greatest, Later, DoneAtTheEnd, GreatestWins, GreatestFinishes}
use Rattle.bench_laws.specs.Together.{EqualsFinishTogether}
use Rattle.bench_laws.proofs.BurstLaws.{burst_some}
use Rattle.bench_laws.proofs.StationStates.{mark, vacant, empties}
use Rattle.bench_laws.proofs.BenchLaws.{Turns, turn_at, Called, refused, taken, called, movable}
use Rattle.bench_laws.proofs.Tracks.{Carried, carried_more, Along, along_start, along_half, along_turn, along_ends, Both}
use Rattle.bench_laws.proofs.Tracks.{along, both_turn, both_vacant, Beside, beside_start, beside_sends, beside_turn}

-- a call that is not refused
record Taken (n : ℕ) (x : Moment) : Type 0 where
  draws : List ℕ
  line : ℕ
  turn : BenchTurn
  turns : Turns n x.stations draws line turn

module _ {n : ℕ} (x : Moment) (a : Taken n x) where
  abbrev after : Moment
  after = next_moment x a.turn (Ok a.line)

  module _ (i : ℕ) (l : i < n) where
    moving : Movable (station_at x i) (sends_of (station_at x i)) a.line (get_or a.draws i 0)
    moving = movable a.turns i l

    moved : station_at after i ≡ (turn_at a.line x.stations a.draws i).next
    moved = a.turns.next i l

module _ (most n : ℕ) (now : Moment) (A : Valid n now) where
  -- what holds now, and is kept by each answer, holds k answers later
  later : (P : ℕ → Moment → Type 0) → P 0 now → ((k : ℕ) (x : Moment) (a : Taken n x) → P k x → P (suc k) (after x a))
      → (calls : List (List ℕ)) (k : ℕ) → length (run most n now calls).past ≡ length now.past + k → P k (run most n now calls)
  unfolding run
  later P base step calls k e =
      let q = go calls in
      let same : q.0 ≡ k = omega (arith, q.1) in
      subst (λ (k : ℕ). P k (run most n now calls)) same q.2
    where
      Later-by : Moment → Type 0
      Later-by x = (k : ℕ) × (length x.past ≡ length now.past + k) × P k x

      one : (x : Moment) → Later-by x → (draws : List ℕ) → Called most n x draws → Later-by (call most n x draws)
      one x p draws (refused e) = subst Later-by (sym e) p
      one x (k, q, p) draws (taken h t T e) =
          subst Later-by (sym e) (suc k, omega arith, step k x (record { draws = draws; line = h; turn = t; turns = T }) p)

      go : (calls : List (List ℕ)) → Later-by (run most n now calls)
      go [] = (0, omega arith, base)
      go (draws ∷ calls) = one (run most n now calls) (go calls) draws (called most n (run most n now calls) draws (as_many most n now calls A.many))

  module _ (calls : List (List ℕ)) (k : ℕ) (counts : length (run most n now calls).past ≡ length now.past + k) where
    abbrev reached : Moment
    reached = run most n now calls

    -- ---- equal messages

    -- since now, a station has said DONE as often as it became empty
    said : (i : ℕ) → i < n → vacant (station_at reached i) ≡ times_done i (take k reached.past) + vacant (station_at now i)
    said i l = later P (omega arith) next calls k counts
      where
        P : ℕ → Moment → Type 0
        P k x = vacant (station_at x i) ≡ times_done i (take k x.past) + vacant (station_at now i)

        next : (k : ℕ) (x : Moment) (a : Taken n x) → P k x → P (suc k) (after x a)
        next k x a p = omega (arith, p, ap vacant (moved x a i l), empties (moving x a i l), ap mark (a.turns.says i l))

    module _ (i j : ℕ) (li : i < n) (lj : j < n) (m : Message) (si : Starts m (station_at now i)) (sj : Starts m (station_at now j)) where
      both : k ≤ burst_length m → Both m k (station_at reached i) (station_at reached j)
      both = later P (λ u. along (along_start (A.valid i li) si) (along_start (A.valid j lj) sj)) next calls k counts
        where
          P : ℕ → Moment → Type 0
          P k x = k ≤ burst_length m → Both m k (station_at x i) (station_at x j)

          next : (k : ℕ) (x : Moment) (a : Taken n x) → P k x → P (suc k) (after x a)
          next k x a p u =
              subst (λ (s : Station). Both m (suc k) s (station_at (after x a) j)) (sym (moved x a i li))
              (subst (Both m (suc k) _) (sym (moved x a j lj)) (both_turn (moving x a i li) (moving x a j lj) m k u (p (omega arith))))

      finish : k ≤ burst_length m → times_done i (take k reached.past) ≡ times_done j (take k reached.past)
      finish short =
          let held-i : vacant (station_at now i) ≡ 0 = ap (λ (x : Option Message). mark (is_empty x)) si.holds in
          let held-j : vacant (station_at now j) ≡ 0 = ap (λ (x : Option Message). mark (is_empty x)) sj.holds in
          omega (arith, said i li, said j lj, both_vacant (both short))

  -- ---- the greatest frame

  module _ (Q : Quiet n now) (w : ℕ) (m : Message) (G : Greatest n now w m) where
    -- k answers later the line has carried the burst of w so far, and the others are beside it
    record Ahead (k : ℕ) (x : Moment) : Type 0 where
      carried : Carried m k (lines_of x.past)
      leads : k < burst_length m → Along m k (station_at x w)
      ended : k ≡ burst_length m → station_at x w ≡ empty_station
      others : (i : ℕ) → i < n → Beside m k (station_at now i) (station_at x i)

    ahead_now : Ahead 0 now
    ahead_now = record {
      carried = refl;
      leads = λ l. along_start (A.valid w G.below) G.starts;
      ended = λ e. absurd (omega (arith, burst_some m));
      others = λ i l. beside_start m (station_at now i) (A.valid i l) (Q i l);
    }

    module _ (k : ℕ) (x : Moment) (a : Taken n x) (R : Ahead k x) (short : k < burst_length m) where
      abbrev half : ℕ
      half = get_or (burst_of m) k 0

      valid : message_ok m ≡ true
      valid = (fine_station m (station_at now w) G.starts.holds (A.valid w G.below)).valid

      none_ahead : (i : ℕ) → i < n → sends_of (station_at x i) ≤ half
      none_ahead i l = beside_sends (moving x a i l) m k short valid (λ g st. G.greatest i l g st) (R.others i l)

      -- the line carries what w sends
      line_is : half ≡ a.line
      line_is = go a.turns.some
        where
          at_most : half ≤ a.line
          at_most = omega (arith, along_half (moving x a w G.below) m k (R.leads short), a.turns.above w G.below)

          go : (a.line ≡ 0) ⊎ ((i : ℕ) × (i < n) × (sends_of (station_at x i) ≡ a.line)) → half ≡ a.line
          go (inl e) = omega (arith, at_most)
          go (inr (i, l, e)) = omega (arith, at_most, none_ahead i l)

      ahead_next : Ahead (suc k) (after x a)
      ahead_next = record {
        carried = carried_more m k a.line (lines_of x.past) short line_is R.carried;
        leads = λ l.
            subst (Along m (suc k)) (sym (moved x a w G.below))
            (along_turn (moving x a w G.below) m k (R.leads short) line_is (λ e. omega arith));
        ended = λ e. moved x a w G.below ∙ along_ends (moving x a w G.below) m k (R.leads short) line_is (omega arith);
        others = λ i l.
            subst (Beside m (suc k) (station_at now i)) (sym (moved x a i l)) (beside_turn (moving x a i l) m k short line_is (R.others i l));
      }

    module _ (calls : List (List ℕ)) (k : ℕ) (counts : length (run most n now calls).past ≡ length now.past + k) (short : k ≤ burst_length m) where
      ahead : Ahead k (run most n now calls)
      ahead =
          later (λ (k : ℕ) (x : Moment). k ≤ burst_length m → Ahead k x) (λ u. ahead_now) (λ k x a p u. ahead_next k x a (p (omega arith)) u) calls k counts
          short

      -- its station is empty at the end, and has said DONE
      finishes : DoneAtTheEnd w m k (run most n now calls)
      finishes = go (ℕ_discrete k (burst_length m))
        where
          held : vacant (station_at now w) ≡ 0
          held = ap (λ (x : Option Message). mark (is_empty x)) G.starts.holds

          go : Dec (k ≡ burst_length m) → DoneAtTheEnd w m k (run most n now calls)
          go (yes e) =
              omega (arith, said calls k counts w G.below, held, ap vacant (ahead.ended e), ap mark (eq-eqb k (burst_length m) e))
          go (no e) =
              omega (arith, said calls k counts w G.below, held, ap vacant (ahead.leads (omega arith)).is, ap mark (ne_eqb k (burst_length m) e))

-- ---- the theorems

-- the calls that lead there give k answers
answered : {most n : ℕ} {now then : Moment} {k : ℕ} (L : Later most n now then k) → length (run most n now L.calls).past ≡ length now.past + k
answered L = ap (λ (x : Moment). length x.past) L.leads ∙ L.answers

pub greatest_wins : GreatestWins
greatest_wins most n now then k w m A Q L G short =
    subst (λ (x : Moment). Carried m k (lines_of x.past)) L.leads (ahead most n now A Q w m G L.calls k (answered L) short).carried

pub greatest_finishes : GreatestFinishes
greatest_finishes most n now then k w m A Q L G short =
    subst (DoneAtTheEnd w m k) L.leads (finishes most n now A Q w m G L.calls k (answered L) short)

pub equals_finish : EqualsFinishTogether
equals_finish most n now then k i j m A L li lj si sj short =
    subst (λ (x : Moment). times_done i (take k x.past) ≡ times_done j (take k x.past)) L.leads
    (finish most n now A L.calls k (answered L) i j li lj m si sj short)
