-- Demand 3 for every list of calls: what holds at the start is kept by each call, and says what is claimed.
--
--     Reached, at_start_lem, reached     what holds at the start and after any list of calls
--     ok                             the stations are valid then
--     midway, otherwise              how often MESSAGE was given, by what is on the line
--     demand_3                       the theorem of specs/Demand3.antt
use mathlib.Core.Path.{◌≡◌, refl, sym, ap, subst, ◌∙◌}
use mathlib.Core.Bool.{true, false}
use mathlib.Core.List.{List, [], ◌∷◌}
use Prim.Native.Nat.{ℕ, ◌+◌, ◌*◌, ◌≤◌, ◌<◌}
use native.Mathlib.Decide.{ℕ_discrete, dec_le}
use native.Mathlib.Omega.{arith}
use lib.ListN.{length, get_or}
use Rattle.message.specs.declared.Message.{Message}
use Rattle.burst.specs.Frames.{frame_length}
use Rattle.station.specs.Stations.{empty_station, is_empty, station_ok}
use Rattle.station.specs.declared.Station.{Station}
use Rattle.station.specs.declared.bench.BenchTurn.{BenchTurn}
use Rattle.receiver_laws.proofs.Rests.{rests_fresh}
use Rattle.bench_run.specs.Calls.{Moment, at_start, next_moment, call, run}
use Rattle.bench_run.proofs.CallLaws.{at_most_one}
use Rattle.bench_laws.specs.Demand3.{calls_each, Start, times_done, times_given, times_repeated, SentFrame, FrameOver, drawn_for, Claim, Demand3}
use Rattle.bench_laws.specs.Together.{station_at}
use Rattle.bench_laws.proofs.BurstLaws.{burst_most}
use Rattle.bench_laws.proofs.Turns.{drawn, Accepted, accepted}
use Rattle.bench_laws.proofs.StationStates.{Sending, Stands, gone, waiting, sends, vacant}
use Rattle.bench_laws.proofs.BenchLaws.{Called, refused, taken, called, bench_number, bench_refuses}
use Rattle.bench_laws.proofs.Tally.{total, total_short}
use Rattle.bench_laws.proofs.TimesGiven.{frame_some}
use Rattle.bench_laws.proofs.Moments.{Bench, Kept, State, quiet, busy, alike, all_ok}
use Rattle.bench_laws.proofs.BurstCalls.{next_state}

module _ (most n : ℕ) (message : ℕ → Message) (draw : ℕ → ℕ) (stations : List Station) (S : Start most n message draw stations) where
  loading : (i : ℕ) → i < n → Accepted (message i) (draw i)
  loading i l = accepted (message i) (draw i) (S.accepted i l)

  bench : Bench n message
  bench = record { valid = λ i l. (loading i l).valid }

  at_first : (i : ℕ) → i < n → Stands (message i) [] 0 (get_or stations i empty_station)
  at_first i l =
      let a = loading i l in
      waiting (draw i) a.wait (omega (arith, drawn (draw i) a.wait)) (S.loaded i l ∙ a.fresh)

  pub record Reached (now : Moment) : Type 0 where
    pub kept : Kept n message now
    pub state : State n message now

  pub at_start_lem : Reached (at_start stations)
  at_start_lem = record {
    kept = record { many = S.many; tally = λ i l. sym (ap vacant (S.loaded i l ∙ (loading i l).fresh)); right = tt };
    state = quiet 0 (record { heard = 0; rests = rests_fresh; near = omega arith; stations = at_first; bound = λ i l v. omega arith; equal = refl });
  }

  one_more : (now : Moment) (draws : List ℕ) → Reached now → Called most n now draws → Reached (call most n now draws)
  one_more now draws H (refused e) = subst Reached (sym e) H
  one_more now draws H (taken h t T e) =
      let x = next_state n message bench now draws t H.kept H.state h T in
      subst Reached (sym e) (record { kept = x.0; state = x.1 })

  pub reached : (now : Moment) → Reached now → (calls : List (List ℕ)) → Reached (run most n now calls)
  unfolding run
  reached now H [] = H
  reached now H (draws ∷ calls) =
      let G = reached now H calls in
      one_more (run most n now calls) draws G (called most n (run most n now calls) draws G.kept.many)

  -- ---- what is claimed

  module _ (now : Moment) (H : Reached now) where
    once : (i : ℕ) → i < n → times_done i now.past ≤ 1
    once i l = omega (arith, H.kept.tally i l, at_most_one (is_empty (station_at now i).held))

    -- a count that a station waits or begins at is at most its wait
    count_low : (c i : ℕ) → vacant (station_at now i) ≡ 0 → Stands (message i) [] c (station_at now i) → c ≤ 10
    count_low c i v (gone e) = absurd (omega (arith, ap vacant e))
    count_low c i v (waiting w d l e) = omega (arith, drawn w d)
    count_low c i v (sends x) = omega (arith, x.begun refl, drawn x.wait x.drawn_wait)

    -- while one station is not done, the calls are fewer
    not_yet : (i : ℕ) → i < n → vacant (station_at now i) ≡ 0 → State n message now → length now.past < calls_each * n
    not_yet i l v s = go s (total_short n now.past once i l (H.kept.tally i l ∙ v))
      where
        go : State n message now → total n now.past < n → length now.past < calls_each * n
        go (quiet c Q) k = omega (arith, Q.bound i l v, count_low c i v (Q.stations i l))
        go (busy z r sent R F) k = omega (arith, R.bound, F.sends.follows.more, burst_most (message F.who))

    all_done : calls_each * n ≤ length now.past → (i : ℕ) → i < n → times_done i now.past ≡ 1
    all_done many i l = go (ℕ_discrete (vacant (station_at now i)) 0)
      where
        go : Dec (vacant (station_at now i) ≡ 0) → times_done i now.past ≡ 1
        go (yes v) = absurd (omega (arith, not_yet i l v H.state))
        go (no v) = omega (arith, H.kept.tally i l, once i l)

    pub ok : (i : ℕ) → i < n → station_ok (station_at now i) ≡ true
    ok = all_ok n message bench now (alike n message now H.state)

    -- a call that its draws refuse changes nothing
    stays : (draws : List ℕ) → drawn_for n draws ≡ false → call most n now draws ≡ now
    unfolding call
    stays draws e =
        ap (λ (t : BenchTurn). next_moment now t t.answer)
        (bench_refuses most n now.stations draws S.some S.allowed H.kept.many ok e)

    -- a station that has sent its first frame sends still, as much as is on the line
    far : {sent : List ℕ} {z : ℕ} (i : ℕ) → SentFrame (message i) (station_at now i) → Stands (message i) sent z (station_at now i)
        → Sending (message i) sent z (station_at now i)
    far i u (gone e) = absurd (omega (arith, frame_some (message i), ap (λ (s : Station). s.place) e))
    far i u (waiting w d l e) = absurd (omega (arith, frame_some (message i), ap (λ (s : Station). s.place) e))
    far i u (sends x) = x

    midway : State n message now → FrameOver n message now → times_given now.past ≡ times_repeated now.past + 1
    midway (quiet c Q) (i, l, u) =
        let x = far i u (Q.stations i l) in
        absurd (omega (arith, frame_some (message i), ap (λ (s : Station). s.place) x.is))
    midway (busy z r sent R F) (i, l, u) =
        let x = far i u (R.stations i l) in
        (R.given i l x.follows).late (omega (arith, ap (λ (s : Station). s.place) x.is))

    otherwise : State n message now → (FrameOver n message now → ⊥) → times_given now.past ≡ times_repeated now.past
    otherwise (quiet c Q) none = Q.equal
    otherwise (busy z r sent R F) none = go (dec_le (frame_length (message F.who)) (length sent))
      where
        at : (station_at now F.who).place ≡ length sent
        at = ap (λ (s : Station). s.place) F.sends.is

        go : Dec (frame_length (message F.who) ≤ length sent) → times_given now.past ≡ times_repeated now.past
        go (yes u) = absurd (none (F.who, F.below, omega (arith, at)))
        go (no u) = (R.given F.who F.below F.sends.follows).early (omega arith)

    pub claim : Claim most n message now
    claim = record {
      refused = λ draws. bench_number most n now.stations draws S.some S.allowed H.kept.many ok;
      unchanged = stays;
      within = λ many i l. omega (arith, all_done many i l);
      once = λ i l. omega (arith, once i l);
      midway = midway H.state;
      otherwise = otherwise H.state;
      answers = H.kept.right;
    }

pub demand_3 : Demand3
demand_3 most n message draw stations S calls =
    claim most n message draw stations S (run most n (at_start stations) calls)
    (reached most n message draw stations S (at_start stations) (at_start_lem most n message draw stations S) calls)
