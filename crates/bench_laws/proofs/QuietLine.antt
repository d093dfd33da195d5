-- A station starts only where no burst is on the line, in demand 3's lists of calls: once a burst has begun, a station is empty, or has not counted its
-- wait, or has sent as much as is on the line.
--
--     unsent          before a burst's first half-cycle no station has sent any
--     none_starts     after it none starts
--     quiet_line, greatest_from_start     theorems of specs/Together.antt
use Rattle.std.specs.Prelude.{Option}
use mathlib.Core.Path.{◌≡◌, ap}
use mathlib.Core.List.{List, [], ◌∷◌}
use Prim.Native.Nat.{ℕ, ◌<◌}
use native.Mathlib.Omega.{arith}
use lib.ListN.{length}
use Rattle.message.specs.declared.Message.{Message}
use Rattle.station.specs.Stations.{is_empty}
use Rattle.station.specs.declared.Station.{Station}
use Rattle.bench_run.specs.Calls.{Moment, at_start, run}
use Rattle.bench_laws.specs.Together.{station_at, Valid, Starts, Quiet, StartsOnAQuietLine, GreatestWinsFromStart}
use Rattle.bench_laws.proofs.StationStates.{Stands, gone, waiting, sends, mark, vacant}
use Rattle.bench_laws.proofs.Moments.{Alike, alike}
use Rattle.bench_laws.proofs.WholeList.{at_start_lem, reached, ok}
use Rattle.bench_laws.proofs.StartTogether.{greatest_wins, greatest_finishes}

-- the place of a station that is known
placed : {s s' : Station} → s ≡ s' → s.place ≡ s'.place
placed e = ap (λ (s : Station). s.place) e

module _ {m : Message} {z : ℕ} {s : Station} where
  unsent : Stands m [] z s → s.place ≡ 0
  unsent (gone e) = placed e
  unsent (waiting w d l e) = placed e
  unsent (sends x) = placed x.is

  none_starts : {sent : List ℕ} {g : Message} → 0 < length sent → Stands m sent z s → Starts g s → ⊥
  none_starts some (gone e) st = omega (arith, ap vacant e, ap (λ (x : Option Message). mark (is_empty x)) st.holds)
  none_starts some (waiting w d l e) st =
      omega (arith, st.counted, ap (λ (s : Station). s.count) e, ap (λ (s : Station). s.wait) e)
  none_starts some (sends x) st = omega (arith, st.unsent, placed x.is)

all_quiet : (n : ℕ) (message : ℕ → Message) (now : Moment) → Alike n message now → (i : ℕ) → i < n → (m : Message) → Starts m (station_at now i) → Quiet n now
all_quiet n message now A i l m st = go A.sent A.stands
  where
    go : (sent : List ℕ) → ((j : ℕ) → j < n → Stands (message j) sent A.count (station_at now j)) → Quiet n now
    go [] stands j k = unsent (stands j k)
    go (h ∷ sent) stands j k = absurd (none_starts (omega arith) (stands i l) st)

-- ---- the theorems

pub quiet_line : StartsOnAQuietLine
quiet_line most n message draw stations S calls =
    let now : Moment = run most n (at_start stations) calls in
    let H = reached most n message draw stations S (at_start stations) (at_start_lem most n message draw stations S) calls in
    all_quiet n message now (alike n message now H.state)

pub greatest_from_start : GreatestWinsFromStart
greatest_from_start most n message draw stations S calls then k w m L G short =
    let now : Moment = run most n (at_start stations) calls in
    let H = reached most n message draw stations S (at_start stations) (at_start_lem most n message draw stations S) calls in
    let A : Valid n now = record { many = H.kept.many; valid = ok most n message draw stations S now H } in
    let Q = quiet_line most n message draw stations S calls w G.below m G.starts in
    (greatest_wins most n now then k w m A Q L G short, greatest_finishes most n now then k w m A Q L G short)
