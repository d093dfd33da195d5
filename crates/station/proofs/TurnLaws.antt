-- Laws of a station whose state is one of 01's.
--
--     sends_told, refuses_told, ok_told          what the answer of `sends` says of the state
--     Movable, turn_empty                        a judged station that has sent and heard; an empty one stays
--     turn_aborts, turn_counts, turn_goes, turn_ends     what one half-cycle makes of one with a message, by the tests of `moves`
--     by_done, by_going                          the turn that a move's numbers stand for
--     held_goes                                  a half-cycle that is not refused goes on or says DONE
--     send_promise, load_promise, turn_promise   what each answer reports, by its causes
--     stays_station                              StaysStation
use Rattle.std.specs.Prelude.{Result, Ok, Err, Option, Some, None, is_ok}
use mathlib.Core.Path.{◌≡◌, refl, sym, ap, ◌∙◌}
use mathlib.Core.Bool.{Bool, true, false, or-false, or-true}
use mathlib.Core.List.{[], ◌∷◌}
use Prim.Native.Nat.{ℕ, ◌+◌, ◌≤◌, ◌<◌}
use native.Mathlib.Omega.{arith}
use native.Mathlib.Decide.{dec_lt, ℕ_discrete}
use borrow.Author.Tests.{eqb-true, eq-eqb, ne_eqb, le-leb, lt-leb}
use lib.Dec.{eqb}
use lib.ListN.{get_or}
use Rattle.ground.specs.Choice.{pick}
use Rattle.ground.specs.Refusals.{Report, reports, refuses, judged}
use Rattle.ground.specs.declared.Refusal.{Refusal}
use Rattle.ground.specs.declared.Refusal.TheVariants as refusal
use Rattle.ground.proofs.Choices.{pick_both}
use Rattle.ground.proofs.Causes.{judged_map, judged_holds, none_stops}
use Rattle.message.specs.Messages.{message_ok}
use Rattle.message.specs.declared.Message.{Message}
use Rattle.burst.specs.Frames.{burst_of, burst_length}
use Rattle.burst.proofs.Writing.{frame_of-bits}
use Rattle.station.specs.Stations.{empty_station, loaded, draw_ok, station_ok, load_of, load_causes, load_report, held_sends, sends_of, send_of}
use Rattle.station.specs.Stations.{send_causes, send_report, sends_on, held_moves, turn_causes, turn_of, is_done, turn_report, turn_by, StaysStation}
use Rattle.station.specs.declared.Loading.{Loading}
use Rattle.station.specs.declared.Move.{Move}
use Rattle.station.specs.declared.Station.{Station}
use Rattle.station.specs.declared.Turn.{Turn}
use Rattle.station.specs.declared.Turned.TheVariants as turn
use Rattle.station.proofs.SendLaws.{no_fault}
use Rattle.station.proofs.StateLaws.{Fine, fine_station, station_fine}

-- ---- what `sends` tells

module _ (s : Station) where
  pub sends_told : (h : ℕ) → send_of s ≡ Ok h → (station_ok s ≡ true) × (sends_of s ≡ h)
  unfolding send_of judged
  sends_told h e = go (station_ok s) e
    where
      go : (ok : Bool) → pick ok (Ok (sends_of s)) (Err refusal.State) ≡ Ok h → (ok ≡ true) × (sends_of s ≡ h)
      go true e = (refl, cc)
      go false e = (cc, cc)

  pub refuses_told : (why : Refusal) → send_of s ≡ Err why → station_ok s ≡ false
  unfolding send_of judged
  refuses_told why e = go (station_ok s) e
    where
      go : (ok : Bool) → pick ok (Ok (sends_of s)) (Err refusal.State) ≡ Err why → ok ≡ false
      go true e = cc
      go false e = refl

  pub ok_told : is_ok (send_of s) ≡ station_ok s
  unfolding send_of judged
  ok_told = go (station_ok s)
    where
      go : (ok : Bool) → is_ok {T = ℕ} (pick ok (Ok (sends_of s)) (Err refusal.State)) ≡ ok
      go true = refl
      go false = refl

-- ---- one half-cycle of a judged station

-- what is known of a judged station that has sent its half-cycle and heard the line's
pub record Movable (s : Station) (sent heard draw : ℕ) : Type 0 where
  pub half : heard ≤ 1
  pub ok : station_ok s ≡ true
  pub drawn : draw_ok draw ≡ true
  pub is : sends_of s ≡ sent
  pub kept : sent ≤ heard

-- one with a message that goes on
abbrev going : Station → Turn
going s = record { answer = Ok turn.Going; next = s }

module _ {s : Station} {sent heard draw : ℕ} (r : Movable s sent heard draw) where
  turn_moves : turn_of s heard draw ≡ held_moves s.held s heard draw
  unfolding turn_of judged
  turn_moves = rw (le-leb heard 1 r.half, r.ok, r.drawn, r.is, no_fault sent heard r.kept)

  pub turn_empty : s.held ≡ None → turn_of s heard draw ≡ going s
  turn_empty e = turn_moves ∙ ap (λ (h : Option Message). held_moves h s heard draw) e

  module _ {m : Message} (e : s.held ≡ Some m) where
    turn_holds : turn_of s heard draw ≡ held_moves (Some m) s heard draw
    turn_holds = turn_moves ∙ ap (λ (h : Option Message). held_moves h s heard draw) e

    found : Fine m s
    found = fine_station m s e r.ok

    held_sends_lem : held_sends (Some m) s.wait s.count s.place ≡ sent
    unfolding sends_of
    held_sends_lem = ap (λ (h : Option Message). held_sends h s.wait s.count s.place) (sym e) ∙ r.is

    -- one that waits sends 0
    waits_clear : s.count < s.wait → sent ≡ 0
    waits_clear l =
        sym held_sends_lem ∙ ap (λ (b : Bool). pick b (get_or (burst_of m) s.place 0) 0) (ne_eqb s.count s.wait (λ q. omega arith))

    -- one that no longer waits has its count at its wait, and sends its burst
    level : s.wait ≤ s.count → eqb s.count s.wait ≡ true
    level l = eq-eqb s.count s.wait (omega (arith, found.counts))

    -- one that waits has sent nothing
    unsent : s.count < s.wait → s.place ≡ 0
    unsent l = eqb-true s.place 0 (sym (or-false (eqb s.place 0)) ∙ (rw (lt-leb s.wait s.count l) at found.early))

    sends_burst : s.wait ≤ s.count → get_or (burst_of m) s.place 0 ≡ sent
    sends_burst l = sym (ap (λ (b : Bool). pick b (get_or (burst_of m) s.place 0) 0) (level l)) ∙ held_sends_lem

    pub turn_aborts : (sent ≡ heard → ⊥) → turn_of s heard draw ≡ going (loaded m draw)
    turn_aborts n = turn_holds ∙ go (dec_lt s.count s.wait)
      where
        go : Dec (s.count < s.wait) → held_moves (Some m) s heard draw ≡ going (loaded m draw)
        go (yes l) =
            let one : heard ≡ 1 = omega (arith, r.half, r.kept) in
            rw (ne_eqb s.count s.wait (λ q. omega arith), eq-eqb heard 1 one)
        go (no l) =
            let burst = sends_burst (omega arith) in
            rw (level (omega arith), ne_eqb (get_or (burst_of m) s.place 0) heard (λ q. n (sym burst ∙ q)))

    module _ (same : sent ≡ heard) where
      pub turn_counts : s.count < s.wait
          → turn_of s heard draw ≡ going (record { held = Some m; wait = s.wait; count = s.count + 1; place = s.place })
      turn_counts l =
          let clear = waits_clear l in
          turn_holds
          ∙ rw (ne_eqb s.count s.wait (λ q. omega arith), ne_eqb heard 1 (λ q. omega arith))
          (ap (λ (p : ℕ). going (record { held = Some m; wait = s.wait; count = s.count + 1; place = p })) (sym (unsent l)))

      pub turn_goes : s.wait ≤ s.count → s.place + 1 < burst_length m
          → turn_of s heard draw ≡ going (record { held = Some m; wait = s.wait; count = s.count; place = s.place + 1 })
      turn_goes l k =
          turn_holds
          ∙ rw (level l, eq-eqb (get_or (burst_of m) s.place 0) heard (sends_burst l ∙ same), ne_eqb (s.place + 1) (burst_length m) (λ q. omega arith))

      pub turn_ends : s.wait ≤ s.count → burst_length m ≤ s.place + 1 → turn_of s heard draw ≡ record { answer = Ok turn.Done; next = empty_station }
      turn_ends l k =
          let last : s.place + 1 ≡ burst_length m = omega (arith, found.within) in
          turn_holds
          ∙ rw (level l, eq-eqb (get_or (burst_of m) s.place 0) heard (sends_burst l ∙ same), eq-eqb (s.place + 1) (burst_length m) last)

-- ---- the turn that a move's numbers stand for

module _ {t : Turn} (h : Option Message) {moved : Option Move} (by : t ≡ turn_by h moved) where
  pub by_done : moved ≡ None → t ≡ record { answer = Ok turn.Done; next = empty_station }
  by_done e = by ∙ rw e

  pub by_going : (v : Move) → moved ≡ Some v → t ≡ going (record { held = h; wait = v.wait; count = v.count; place = v.place })
  by_going v e = by ∙ rw e

-- ---- the promises of each routine, from its answer

pub send_promise : {o : Result ℕ Refusal} (s : Station) → o ≡ send_of s
    → (o ≡ send_of s) × (send_report o ≡ judged (send_causes s) (reports (sends_of s ∷ [])) refuses)
unfolding send_of
send_promise s e = (e, ap send_report e ∙ judged_map send_report _ _ (send_causes s))

pub load_promise : {o : Loading} (s : Station) (m : Message) (draw : ℕ) → o ≡ load_of s m draw
    → (o ≡ load_of s m draw) × (load_report o.answer ≡ judged (load_causes s m draw) (reports []) refuses)
unfolding load_of
load_promise s m draw e =
    let report : Loading → Report ℕ = λ o. load_report o.answer in
    (e, ap report e ∙ judged_map report _ _ (load_causes s m draw))

-- a station that moves refuses nothing
abbrev Moved : Turn → Type 0
Moved o = turn_report o.answer ≡ reports (is_done o.answer ∷ [])

-- a half-cycle that is not refused goes on or says DONE
module _ (P : Turn → Type 0) (going : (next : Station) → P (record { answer = Ok turn.Going; next = next }))
    (done : (next : Station) → P (record { answer = Ok turn.Done; next = next })) where
  pub held_goes : (h : Option Message) (s : Station) (heard draw : ℕ) → P (held_moves h s heard draw)
  held_goes None s heard draw = going s
  held_goes (Some m) s heard draw =
      pick_both P (eqb s.count s.wait) _ _
      (pick_both P (eqb (get_or (burst_of m) s.place 0) heard) _ _
      (pick_both P (eqb (s.place + 1) (burst_length m)) _ _ (done _) (going _))
      (going _))
      (going _)

held_reports : (h : Option Message) (s : Station) (heard draw : ℕ) → Moved (held_moves h s heard draw)
held_reports = held_goes Moved (λ next. refl) (λ next. refl)

pub turn_promise : {o : Turn} (s : Station) (heard draw : ℕ) → o ≡ turn_of s heard draw
    → (o ≡ turn_of s heard draw)
    × (turn_report o.answer ≡ judged (turn_causes s heard draw) (reports (is_done (held_moves s.held s heard draw).answer ∷ [])) refuses)
unfolding turn_of
turn_promise s heard draw e =
    let report : Turn → Report Bool = λ o. turn_report o.answer in (
      e,
      ap report e
          ∙ judged_map report _ _ (turn_causes s heard draw)
          ∙ ap (λ (x : Report Bool). judged (turn_causes s heard draw) x refuses) (held_reports s.held s heard draw),
    )

-- ---- a station stays in a state that there is

-- newly loaded
loaded_ok : (m : Message) (draw : ℕ) → message_ok m ≡ true → draw_ok draw ≡ true → station_ok (loaded m draw) ≡ true
loaded_ok m draw valid drawn =
    station_fine m (loaded m draw) refl
    (record { valid = valid; drawn_wait = drawn; counts = omega arith; within = omega (arith, frame_of-bits m); early = refl })

module _ (m : Message) (s : Station) (f : Fine m s) (heard draw : ℕ) (drawn : draw_ok draw ≡ true) where
  abbrev With : ℕ → ℕ → Station
  With count place = record { held = Some m; wait = s.wait; count = count; place = place }

  fresh : station_ok (loaded m draw) ≡ true
  fresh = loaded_ok m draw f.valid drawn

  sends_on_lem : s.count ≡ s.wait → station_ok (sends_on m s.wait s.count s.place).next ≡ true
  unfolding station_ok
  sends_on_lem level = go (ℕ_discrete (s.place + 1) (burst_length m))
    where
      go : Dec (s.place + 1 ≡ burst_length m) → station_ok (sends_on m s.wait s.count s.place).next ≡ true
      go (yes e) = rw (eq-eqb (s.place + 1) (burst_length m) e)
      go (no n) =
          rw (ne_eqb (s.place + 1) (burst_length m) n)
          (station_fine m (With s.count (s.place + 1)) refl
          (record {
            valid = f.valid;
            drawn_wait = f.drawn_wait;
            counts = f.counts;
            within = omega (arith, f.within);
            early = rw (le-leb s.wait s.count (omega arith)) (or-true (eqb (s.place + 1) 0));
          }))

  holds_stays : station_ok (held_moves (Some m) s heard draw).next ≡ true
  holds_stays = go (ℕ_discrete s.count s.wait)
    where
      P : Turn → Type 0
      P t = station_ok t.next ≡ true

      go : Dec (s.count ≡ s.wait) → P (held_moves (Some m) s heard draw)
      go (yes e) =
          rw (eq-eqb s.count s.wait e)
          (pick_both P (eqb (get_or (burst_of m) s.place 0) heard) _ _ (sends_on_lem e) fresh)
      go (no n) =
          rw (ne_eqb s.count s.wait n)
          (pick_both (λ (x : Station). station_ok x ≡ true) (eqb heard 1) _ _ fresh
          (station_fine m (With (s.count + 1) 0) refl
          (record {
            valid = f.valid;
            drawn_wait = f.drawn_wait;
            counts = omega (arith, f.counts);
            within = omega (arith, f.within);
            early = refl;
          })))

pub stays_station : StaysStation
unfolding station_ok load_of turn_of
stays_station = record { empty = refl; load = loads; turn = turns }
  where
    loads : (s : Station) (m : Message) (draw : ℕ) → station_ok s ≡ true → station_ok (load_of s m draw).next ≡ true
    loads s m draw ok =
        judged_holds (λ (o : Loading). station_ok o.next ≡ true) _ _ (load_causes s m draw)
        (λ none. let a = none_stops _ _ _ none in let b = none_stops _ _ _ a.1 in loaded_ok m draw a.0 (none_stops _ _ _ b.1).0)
        (λ why. ok)

    turns : (s : Station) (heard draw : ℕ) → station_ok s ≡ true → station_ok (turn_of s heard draw).next ≡ true
    turns s heard draw ok =
        judged_holds (λ (o : Turn). station_ok o.next ≡ true) _ _ (turn_causes s heard draw)
        (λ none. let a = none_stops _ _ _ none in let b = none_stops _ _ _ a.1 in go s.held refl (none_stops _ _ _ b.1).0)
        (λ why. ok)
      where
        go : (h : Option Message) → s.held ≡ h → draw_ok draw ≡ true → station_ok (held_moves h s heard draw).next ≡ true
        go None e drawn = ok
        go (Some m) e drawn = holds_stays m s (fine_station m s e ok) heard draw drawn
