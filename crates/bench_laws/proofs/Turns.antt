-- One half-cycle of a station, for each way a station stands: empty, waiting, sending.
--
--     holding                       a station that holds a message
--     accepted-message, accepted-draw, accepted-station     what loading has accepted, and left
--     empty-ok, waiting_ok_lem, sending_ok          such a station is in a state of 01
--     empty-sends, waiting_sends, sending_sends     what it sends
--     empty_turn, waiting_turn      what a half-cycle makes of it
--     ends_turn, sends_turn, yields_turn        and of one that sends, by what is heard
--     Moves, moves                  what it makes of any station that holds a message
use Rattle.std.specs.Prelude.{Option, Some, Result, Ok, ⊤}
use mathlib.Core.Path.{◌≡◌, refl, sym, ap, subst, ◌∙◌}
use mathlib.Core.Bool.{Bool, true, false, and-eq-true_iff, or-true}
use Prim.Native.Nat.{ℕ, ◌+◌, ◌≤◌, ◌<◌}
use native.Mathlib.Nat.{le_of_eq}
use native.Mathlib.Omega.{arith}
use borrow.Author.Tests.{le-leb, lt-ltb, eq-eqb, ne_eqb, leb-true, eqb-true}
use lib.Dec.{eqb, leb}
use lib.ListN.{get_or}
use Rattle.ground.specs.Choice.{pick}
use Rattle.message.specs.Messages.{message_ok}
use Rattle.message.specs.declared.Message.{Message}
use Rattle.burst.specs.Frames.{burst_of, burst_length}
use Rattle.ground.specs.Refusals.{judged}
use Rattle.ground.specs.declared.Refusal.{Refusal}
use Rattle.station.proofs.SendLaws.{no_fault}
use Rattle.station.specs.declared.Station.{Station}
use Rattle.station.specs.declared.Turned.TheVariants.{Going, Done}
use Rattle.station.specs.declared.Turn.{Turn}
use Rattle.station.specs.Stations.{empty_station, load_report, draw_ok, station_ok, loaded, load_of, sends_of, waits, sends_on, sending, held_moves, turn_of, is_done}
use Rattle.bench_laws.proofs.BurstLaws.{burst_some}

abbrev pub holding : Message → ℕ → ℕ → ℕ → Station
holding m w c p = record { held = Some m; wait = w; count = c; place = p }

abbrev pub goes : Station → Turn
goes s = record { answer = Ok Going; next = s }

-- what equal turns leave and mark
pub next_of : {t t' : Turn} → t ≡ t' → t.next ≡ t'.next
next_of e = ap (λ (t : Turn). t.next) e

pub done_of : {t t' : Turn} → t ≡ t' → is_done t.answer ≡ is_done t'.answer
done_of e = ap (λ (t : Turn). is_done t.answer) e

pub drawn : (d : ℕ) → draw_ok d ≡ true → (8 ≤ d) × (d ≤ 10)
drawn d e =
    let t = (and-eq-true_iff (leb 8 d) (leb d 10)).0 e in
    (leb-true 8 d t.0, leb-true d 10 t.1)

-- ---- loading

pub record Accepted (m : Message) (d : ℕ) : Type 0 where
  pub valid : message_ok m ≡ true
  pub wait : draw_ok d ≡ true
  pub fresh : (load_of empty_station m d).next ≡ loaded m d

pub accepted : (m : Message) (d : ℕ) → (load_of empty_station m d).answer ≡ Ok tt → Accepted m d
unfolding load_of station_ok judged
accepted m d e = go (message_ok m) (draw_ok d) refl refl
  where
    go : (s t : Bool) → message_ok m ≡ s → draw_ok d ≡ t → Accepted m d
    go true true p q = record { valid = p; wait = q; fresh = simp (p, q) }
    go true false p q = absurd (omega (arith, simp (p, q) at (ap (λ (a : Result ⊤ Refusal). (load_report a).number) e)))
    go false t p q = absurd (omega (arith, simp p at (ap (λ (a : Result ⊤ Refusal). (load_report a).number) e)))

-- ---- one half-cycle

pub empty_turn : (h d : ℕ) → h ≤ 1 → draw_ok d ≡ true → turn_of empty_station h d ≡ goes empty_station
unfolding turn_of station_ok sends_of judged
empty_turn h d low draw = simp (le-leb h 1 low, draw)

module _ (m : Message) (w : ℕ) (valid : message_ok m ≡ true) (wait : draw_ok w ≡ true) where
  pub waiting_ok_lem : (c : ℕ) → c ≤ w → station_ok (holding m w c 0) ≡ true
  unfolding station_ok
  waiting_ok_lem c l = simp (wait, le-leb c w l, lt-ltb 0 (burst_length m) (omega (arith, burst_some m)), valid)

  pub sending_ok : (k : ℕ) → k < burst_length m → station_ok (holding m w w k) ≡ true
  unfolding station_ok
  sending_ok k l = simp (wait, le-leb w w (omega arith), lt-ltb k (burst_length m) l, or-true (eqb k 0), valid)

  pub waiting_sends : (c : ℕ) → c < w → sends_of (holding m w c 0) ≡ 0
  unfolding sends_of
  waiting_sends c l = simp (ne_eqb c w (λ e. omega arith))

  pub sending_sends : (k : ℕ) → sends_of (holding m w w k) ≡ get_or (burst_of m) k 0
  unfolding sends_of
  sending_sends k = simp (eq-eqb w w refl)

  module _ (h d : ℕ) (low : h ≤ 1) (draw : draw_ok d ≡ true) where
    pub waiting_turn : (c : ℕ) → c < w → turn_of (holding m w c 0) h d ≡ goes (waits m w c h d)
    unfolding turn_of judged
    waiting_turn c l =
        simp (le-leb h 1 low, waiting_ok_lem c (omega arith), draw, waiting_sends c l, ne_eqb c w (λ e. omega arith))

    -- a station that sends the half-cycle at place k
    module _ (k : ℕ) (short : k < burst_length m) where
      abbrev half : ℕ
      half = get_or (burst_of m) k 0

      sending_turn : half ≤ h → turn_of (holding m w w k) h d ≡ sending m w w k h d
      unfolding turn_of judged
      sending_turn u = simp (le-leb h 1 low, sending_ok k short, draw, sending_sends k, no_fault half h u, eq-eqb w w refl)

      pub ends_turn : half ≡ h → k + 1 ≡ burst_length m → turn_of (holding m w w k) h d ≡ record { answer = Ok Done; next = empty_station }
      ends_turn e l = sending_turn (le_of_eq e) ∙ simp (eq-eqb half h e, eq-eqb (k + 1) (burst_length m) l)

      pub sends_turn : half ≡ h → (k + 1 ≡ burst_length m → ⊥) → turn_of (holding m w w k) h d ≡ goes (holding m w w (k + 1))
      sends_turn e n = sending_turn (le_of_eq e) ∙ simp (eq-eqb half h e, ne_eqb (k + 1) (burst_length m) n)

      -- it sends 0 and hears 1
      pub yields_turn : half < h → turn_of (holding m w w k) h d ≡ goes (holding m d 0 0)
      yields_turn l = sending_turn (omega arith) ∙ simp (ne_eqb half h (λ e. omega arith))

-- ---- any station that holds a message

-- it is done where its burst is over, and else holds the message at a place at most one further
pub data Moves (m : Message) (s : Station) (t : Turn) : Type 0 where
  ends : s.place + 1 ≡ burst_length m → t ≡ record { answer = Ok Done; next = empty_station } → Moves m s t
  holds : t.next.held ≡ Some m → t.next.place ≤ s.place + 1 → Moves m s t

module _ (m : Message) (s : Station) (h d : ℕ) where
  moves_waiting : (b : Bool) → Moves m s (goes (pick b (loaded m d) (holding m s.wait (s.count + 1) 0)))
  moves_waiting true = holds refl (omega arith)
  moves_waiting false = holds refl (omega arith)

  moves_on : (b : Bool) → eqb (s.place + 1) (burst_length m) ≡ b
      → Moves m s (pick b (record { answer = Ok Done; next = empty_station }) (goes (holding m s.wait s.count (s.place + 1))))
  moves_on true e = ends (eqb-true (s.place + 1) (burst_length m) e) refl
  moves_on false e = holds refl (omega arith)

  moves_sending : (b : Bool) → Moves m s (pick b (sends_on m s.wait s.count s.place) (goes (loaded m d)))
  moves_sending true = moves_on (eqb (s.place + 1) (burst_length m)) refl
  moves_sending false = holds refl (omega arith)

  moves_held : (b : Bool) → Moves m s (pick b (sending m s.wait s.count s.place h d) (goes (waits m s.wait s.count h d)))
  moves_held true = moves_sending (eqb (get_or (burst_of m) s.place 0) h)
  moves_held false = moves_waiting (eqb h 1)

  pub moves : s.held ≡ Some m → station_ok s ≡ true → h ≤ 1 → draw_ok d ≡ true → sends_of s ≤ h → Moves m s (turn_of s h d)
  unfolding turn_of judged
  moves e ok low draw u =
      simp (le-leb h 1 low, ok, draw, no_fault (sends_of s) h u)
      (subst (λ (x : Option Message). Moves m s (held_moves x s h d)) (sym e) (moves_held (eqb s.count s.wait)))
