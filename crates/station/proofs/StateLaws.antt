-- How a station's state is judged in one look: it is idle, or it is about to send.
--
--     Fine, fine_station, station_fine     what a station with a message has in one of the states, and no other
--     idle_empty, idle_holds     which stations are idle
--     empty_busy, holds_busy     which of the others are in one of the states
--     idle_told                  an idle station is in one of the states, and sends 0
--     sends_half, last_two       what one sends whose count is at its wait; what its tests say
use Rattle.std.specs.Prelude.{Option, Some, None}
use mathlib.Core.Path.{◌≡◌, refl, sym, ap, subst, ◌∙◌}
use mathlib.Core.Bool.{Bool, true, false, ◌&&◌, ◌||◌, and-true, and-false, or-true, and_comm, and_assoc, and-eq-true_iff}
use Prim.Native.Nat.{ℕ, zero, suc, ◌≤◌, ◌<◌}
use native.Mathlib.Omega.{arith}
use native.Mathlib.Decide.{dec_lt}
use borrow.Author.Tests.{eq-eqb, ne_eqb, lt-ltb, le-ltb, le-leb, lt-leb, leb-true, ltb-true}
use lib.Dec.{eqb, leb, ltb, eqb-suc-zero}
use lib.ListN.{get_or}
use Rattle.ground.specs.Choice.{pick}
use Rattle.message.specs.Messages.{message_ok}
use Rattle.message.specs.declared.Message.{Message}
use Rattle.burst.specs.Frames.{burst_of, burst_length}
use Rattle.station.specs.Stations.{draw_ok, held_ok, station_ok, held_sends, sends_of, is_quiet, idle_of}
use Rattle.station.specs.declared.Station.{Station}
use Rattle.burst.proofs.Writing.{frame_of-bits}

-- ---- a station with a message, in one of the states

pub record Fine (m : Message) (s : Station) : Type 0 where
  pub valid : message_ok m ≡ true
  pub drawn_wait : draw_ok s.wait ≡ true
  pub counts : s.count ≤ s.wait
  pub within : s.place < burst_length m
  pub early : (eqb s.place 0 || leb s.wait s.count) ≡ true

pub fine_station : (m : Message) (s : Station) → s.held ≡ Some m → station_ok s ≡ true → Fine m s
unfolding station_ok
fine_station m s e ok =
    let all = (and-eq-true_iff (draw_ok s.wait) _).0 (subst (λ (x : Option Message). held_ok x s.wait s.count s.place ≡ true) e ok) in
    let counting = (and-eq-true_iff (leb s.count s.wait) _).0 all.1 in
    let placing = (and-eq-true_iff (ltb s.place (burst_length m)) _).0 counting.1 in
    let rest = (and-eq-true_iff (eqb s.place 0 || leb s.wait s.count) (message_ok m)).0 placing.1 in
    record {
      valid = rest.1;
      drawn_wait = all.0;
      counts = leb-true s.count s.wait counting.0;
      within = ltb-true s.place (burst_length m) placing.0;
      early = rest.0;
    }

pub station_fine : (m : Message) (s : Station) → s.held ≡ Some m → Fine m s → station_ok s ≡ true
unfolding station_ok
station_fine m s e f =
    ap (λ (x : Option Message). held_ok x s.wait s.count s.place) e
    ∙ simp (f.drawn_wait, le-leb s.count s.wait f.counts, lt-ltb s.place (burst_length m) f.within, f.early, f.valid)

-- ---- idle

pub idle_empty : (wait count place : ℕ) → (held_ok None wait count place && is_quiet None wait count) ≡ held_ok None wait count place
idle_empty wait count place = and-true (held_ok None wait count place)

module _ (m : Message) (wait count : ℕ) where
  -- the first place is within every burst, and one that waits has no other
  at_first : (place : ℕ) → count < wait → held_ok (Some m) wait count place ≡ (draw_ok wait && (eqb place 0 && message_ok m))
  at_first zero l =
      rw (le-leb count wait (omega arith), lt-ltb 0 (burst_length m) (omega (arith, frame_of-bits m)))
  at_first (suc place) l =
      rw (le-leb count wait (omega arith), lt-leb wait count l, eqb-suc-zero place)
      (ap (λ (b : Bool). draw_ok wait && b) (and-false (ltb (suc place) (burst_length m))))

  pub idle_holds : (place : ℕ)
      → (held_ok (Some m) wait count place && is_quiet (Some m) wait count) ≡ (draw_ok wait && (ltb count wait && (eqb place 0 && message_ok m)))
  idle_holds place = go (dec_lt count wait)
    where
      go : Dec (count < wait)
          → (held_ok (Some m) wait count place && ltb count wait) ≡ (draw_ok wait && (ltb count wait && (eqb place 0 && message_ok m)))
      go (yes l) = rw (lt-ltb count wait l) (and-true (held_ok (Some m) wait count place) ∙ at_first place l)
      go (no l) =
          rw (le-ltb count wait (omega arith))
          (and-false (held_ok (Some m) wait count place) ∙ sym (and-false (draw_ok wait)))

  -- ---- not idle

  -- what is tested of one that does not wait
  abbrev busy_ok : ℕ → Bool
  busy_ok place = (draw_ok wait && message_ok m) && (eqb count wait && ltb place (burst_length m))

  -- the count has come to the wait
  at_wait : (place : ℕ) → count ≡ wait → held_ok (Some m) wait count place ≡ busy_ok place
  at_wait place e =
      rw (le-leb count wait (omega arith), le-leb wait count (omega arith), eq-eqb count wait e, or-true (eqb place 0))
      (turned (draw_ok wait) (ltb place (burst_length m)) (message_ok m))
    where
      turned : (a b c : Bool) → (a && (b && c)) ≡ ((a && c) && b)
      turned a b c = ap (λ (x : Bool). a && x) (and_comm b c) ∙ sym (and_assoc a c b)

  -- the count is past the wait
  past_wait : (place : ℕ) → wait < count → held_ok (Some m) wait count place ≡ busy_ok place
  past_wait place l =
      rw (lt-leb count wait l, ne_eqb count wait (λ e. omega arith))
      (and-false (draw_ok wait) ∙ sym (and-false (draw_ok wait && message_ok m)))

  held_busy : (place : ℕ) → (held_ok (Some m) wait count place && is_quiet (Some m) wait count) ≡ false
      → held_ok (Some m) wait count place ≡ busy_ok place
  held_busy place busy = go (dec_lt count wait) (dec_lt wait count)
    where
      go : Dec (count < wait) → Dec (wait < count) → held_ok (Some m) wait count place ≡ busy_ok place
      go (yes l) d =
          rw (ne_eqb count wait (λ e. omega arith))
          (sym (and-true (held_ok (Some m) wait count place)) ∙ (rw (lt-ltb count wait l) at busy) ∙ sym (and-false (draw_ok wait && message_ok m)))
      go (no l) (yes k) = past_wait place k
      go (no l) (no k) = at_wait place (omega arith)

-- ---- the same of a station

module _ (s : Station) (busy : idle_of s ≡ false) where
  pub empty_busy : s.held ≡ None → station_ok s ≡ false
  unfolding idle_of station_ok
  empty_busy e =
      let whole = ap (λ (h : Option Message). held_ok h s.wait s.count s.place && is_quiet h s.wait s.count) e in
      ap (λ (h : Option Message). held_ok h s.wait s.count s.place) e ∙ sym (idle_empty s.wait s.count s.place) ∙ sym whole ∙ busy

  pub holds_busy : (m : Message) → s.held ≡ Some m
      → station_ok s ≡ ((draw_ok s.wait && message_ok m) && (eqb s.count s.wait && ltb s.place (burst_length m)))
  unfolding idle_of station_ok
  holds_busy m e =
      let whole = ap (λ (h : Option Message). held_ok h s.wait s.count s.place && is_quiet h s.wait s.count) e in
      ap (λ (h : Option Message). held_ok h s.wait s.count s.place) e ∙ held_busy m s.wait s.count s.place (sym whole ∙ busy)

-- ---- an idle station

held_told : (h : Option Message) (wait count place : ℕ) → (held_ok h wait count place && is_quiet h wait count) ≡ true → held_sends h wait count place ≡ 0
held_told None wait count place t = refl
held_told (Some m) wait count place t =
    let l = ltb-true count wait ((and-eq-true_iff (held_ok (Some m) wait count place) (ltb count wait)).0 t).1 in
    rw (ne_eqb count wait (λ e. omega arith))

pub idle_told : (s : Station) → idle_of s ≡ true → (station_ok s ≡ true) × (sends_of s ≡ 0)
unfolding idle_of station_ok sends_of
idle_told s t =
    (((and-eq-true_iff (station_ok s) (is_quiet s.held s.wait s.count)).0 t).0, held_told s.held s.wait s.count s.place t)

-- ---- a station that sends

pub sends_half : (s : Station) (m : Message) → s.held ≡ Some m → eqb s.count s.wait ≡ true → sends_of s ≡ get_or (burst_of m) s.place 0
unfolding sends_of
sends_half s m e t =
    ap (λ (h : Option Message). held_sends h s.wait s.count s.place) e
    ∙ ap (λ (level : Bool). pick level (get_or (burst_of m) s.place 0) 0) t

-- the last two of three tests
pub last_two : (a b c : Bool) → (a && (b && c)) ≡ true → (b ≡ true) × (c ≡ true)
last_two a b c t = (and-eq-true_iff b c).0 ((and-eq-true_iff a (b && c)).0 t).1
