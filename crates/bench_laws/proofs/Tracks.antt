-- One station after another half-cycle of the line. One that sends is as far as the half-cycles since it started, or it gave way and is behind; one
-- that waits while a burst is on the line meets too few clear half-cycles in a row to begin.
--
--     Carried, carried_more                          the line has carried the first half-cycles of a burst
--     Along, along_start, along_half, along_turn, along_ends     a station that sends
--     Both, both_turn, both_vacant                   two that started together with one message
--     Beside, beside_start, beside_sends, beside_turn     any station beside the one whose burst the line carries
use Rattle.std.specs.Prelude.{Option, Some, None}
use mathlib.Core.Path.{◌≡◌, refl, sym, ap, ap₂, subst, ◌∙◌}
use mathlib.Core.Bool.{Bool, true, false, and-eq-true_iff}
use mathlib.Core.List.{List, [], ◌∷◌, ◌++◌, reverse, reverse-append}
use Prim.Native.Nat.{ℕ, zero, suc, ◌+◌, ◌≤◌, ◌<◌}
use native.Mathlib.Numerals.{add-one}
use native.Mathlib.Decide.{ℕ_discrete}
use native.Mathlib.Omega.{arith}
use borrow.Author.Tests.{eqb-true, eqb-false}
use lib.Dec.{eqb}
use lib.ListN.{length, get_or, take}
use lib.Seq.{take-suc, length-take-le}
use Rattle.ground.specs.Choice.{pick}
use Rattle.message.specs.Messages.{message_ok}
use Rattle.message.specs.declared.Message.{Message}
use Rattle.burst.specs.Frames.{frame_of, burst_of, burst_length}
use Rattle.burst.proofs.FrameLaws.{burst_length_lem}
use Rattle.station.specs.Stations.{empty_station, draw_ok, held_ok, station_ok, is_empty, sends_of, turn_of}
use Rattle.station.specs.declared.Station.{Station}
use Rattle.station.specs.declared.Turn.{Turn}
use Rattle.station.proofs.StateLaws.{Fine, fine_station}
use Rattle.station.proofs.TurnLaws.{Movable}
use Rattle.bench_laws.specs.Together.{Starts, not_greater}
use Rattle.bench_laws.proofs.BurstLaws.{burst_first, counted, counted_by, counted_append, clear_briefly}
use Rattle.bench_laws.proofs.Turns.{holding, next_of, drawn, empty_turn, waiting_sends, sending_sends, waiting_turn, ends_turn, sends_turn}
use Rattle.bench_laws.proofs.Turns.{yields_turn, Moves, ends, holds, moves}
use Rattle.bench_laws.proofs.StationStates.{mark, vacant}
use Rattle.bench_laws.proofs.Compare.{not_ahead}

-- ---- the line and a burst

-- the last k half-cycles of the line, newest first, are the burst's first
abbrev pub Carried : Message → ℕ → List ℕ → Type 0
Carried m k lines = take k lines ≡ reverse (take k (burst_of m))

-- one half-cycle more of a burst
take_more : (m : Message) (k : ℕ) → k < burst_length m → take (suc k) (burst_of m) ≡ take k (burst_of m) ++ (get_or (burst_of m) k 0 ∷ [])
take_more m k short = take-suc (burst_of m) k 0 (omega (arith, burst_length_lem m))

pub carried_more : (m : Message) (k h : ℕ) (lines : List ℕ) → k < burst_length m → get_or (burst_of m) k 0 ≡ h → Carried m k lines → Carried m (suc k) (h ∷ lines)
carried_more m k h lines short e c =
    ap₂ ◌∷◌ (sym e) c ∙ sym (ap reverse (take_more m k short) ∙ reverse-append (take k (burst_of m)) (get_or (burst_of m) k 0 ∷ []))

-- ---- a valid station with a message

-- it sends, at place k
pub record Along (m : Message) (k : ℕ) (s : Station) : Type 0 where
  pub wait : ℕ
  pub drawn_wait : draw_ok wait ≡ true
  pub is : s ≡ holding m wait wait k

-- a station by its fields
by_fields : {x : Option Message} {w c p : ℕ} (s : Station) → s.held ≡ x → s.wait ≡ w → s.count ≡ c → s.place ≡ p
    → s ≡ record { held = x; wait = w; count = c; place = p }
by_fields {x} {w} {c} {p} s eh ew ec ep =
    ap₂ (λ (x : Option Message) (w : ℕ). record { held = x; wait = w; count = s.count; place = s.place }) eh ew
    ∙ ap₂ (λ (c p : ℕ). record { held = x; wait = w; count = c; place = p }) ec ep

pub along_start : {m : Message} {s : Station} → station_ok s ≡ true → Starts m s → Along m 0 s
along_start {m} {s} ok st = record {
  wait = s.wait;
  drawn_wait = (fine_station m s st.holds ok).drawn_wait;
  is = by_fields s st.holds refl st.counted st.unsent;
}

-- it holds the message, and has sent less than k half-cycles
abbrev pub Behind : Message → ℕ → Station → Type 0
Behind m k s = (s.held ≡ Some m) × (s.place < k)

-- ---- one half-cycle of a station that has heard the line's

module _ {s : Station} {h d : ℕ} (r : Movable s (sends_of s) h d) where
  turned : {s' : Station} {t : Turn} → s ≡ s' → turn_of s' h d ≡ t → (turn_of s h d).next ≡ t.next
  turned e p = ap (λ (s : Station). (turn_of s h d).next) e ∙ next_of p

  -- ---- a station that sends

  module _ (m : Message) (k : ℕ) (a : Along m k s) where
    found : Fine m s
    found = fine_station m s (ap (λ (s : Station). s.held) a.is) r.ok

    abbrev half : ℕ
    half = get_or (burst_of m) k 0

    pub along_half : sends_of s ≡ half
    along_half = ap sends_of a.is ∙ sending_sends m a.wait found.valid a.drawn_wait k

    along_within : k < burst_length m
    along_within = omega (arith, found.within, ap (λ (s : Station). s.place) a.is)

    -- it hears what it sends, before its burst's end and there; or it hears another
    pub along_turn : half ≡ h → (k + 1 ≡ burst_length m → ⊥) → Along m (suc k) (turn_of s h d).next
    along_turn e n = record {
      wait = a.wait;
      drawn_wait = a.drawn_wait;
      is =
          turned a.is (sends_turn m a.wait found.valid a.drawn_wait h d r.half r.drawn k along_within e n)
          ∙ ap (λ (k : ℕ). holding m a.wait a.wait k) (add-one k);
    }

    pub along_ends : half ≡ h → k + 1 ≡ burst_length m → (turn_of s h d).next ≡ empty_station
    along_ends e x = turned a.is (ends_turn m a.wait found.valid a.drawn_wait h d r.half r.drawn k along_within e x)

    along_yields : (half ≡ h → ⊥) → (turn_of s h d).next ≡ holding m d 0 0
    along_yields n =
        turned a.is (yields_turn m a.wait found.valid a.drawn_wait h d r.half r.drawn k along_within
        (omega (arith, along_half, r.kept)))

  behind_turn : (m : Message) (k : ℕ) → k < burst_length m → Behind m k s → Behind m (suc k) (turn_of s h d).next
  behind_turn m k short b = go (moves m s h d b.0 r.ok r.half r.drawn r.kept)
    where
      go : Moves m s (turn_of s h d) → Behind m (suc k) (turn_of s h d).next
      go (ends e x) = absurd (omega (arith, b.1))
      go (holds x l) = (x, omega (arith, b.1))

-- ---- two stations that started together with one message

-- k half-cycles ago
pub data Both (m : Message) (k : ℕ) (s t : Station) : Type 0 where
  along : Along m k s → Along m k t → Both m k s t
  over : k ≡ burst_length m → s ≡ empty_station → t ≡ empty_station → Both m k s t
  behind : Behind m k s → Behind m k t → Both m k s t

module _ {s t : Station} {h d e : ℕ} (r : Movable s (sends_of s) h d) (q : Movable t (sends_of t) h e) (m : Message) (k : ℕ) (short : k < burst_length m) where
  pub both_turn : Both m k s t → Both m (suc k) (turn_of s h d).next (turn_of t h e).next
  both_turn (over l x y) = absurd (omega arith)
  both_turn (behind a b) = behind (behind_turn r m k short a) (behind_turn q m k short b)
  both_turn (along a b) = go (ℕ_discrete (get_or (burst_of m) k 0) h) (ℕ_discrete (k + 1) (burst_length m))
    where
      fresh : {s : Station} (d : ℕ) → s ≡ holding m d 0 0 → Behind m (suc k) s
      fresh d x = (ap (λ (s : Station). s.held) x, omega (arith, ap (λ (s : Station). s.place) x))

      go : Dec (get_or (burst_of m) k 0 ≡ h) → Dec (k + 1 ≡ burst_length m) → Both m (suc k) (turn_of s h d).next (turn_of t h e).next
      go (yes x) (yes y) = over (omega arith) (along_ends r m k a x y) (along_ends q m k b x y)
      go (yes x) (no y) = along (along_turn r m k a x y) (along_turn q m k b x y)
      go (no x) y = behind (fresh d (along_yields r m k a x)) (fresh e (along_yields q m k b x))

pub both_vacant : {m : Message} {k : ℕ} {s t : Station} → Both m k s t → vacant s ≡ vacant t
both_vacant (along a b) = ap vacant a.is ∙ sym (ap vacant b.is)
both_vacant (over l x y) = ap vacant (x ∙ sym y)
both_vacant (behind a b) = ap (λ (x : Option Message). mark (is_empty x)) (a.0 ∙ sym b.0)

-- ---- any station beside the one whose burst the line carries

-- how many clear half-cycles in a row end the first k of a burst
abbrev clear_at : Message → ℕ → ℕ
clear_at m k = counted_by 0 (take k (burst_of m))

clear_more : (m : Message) (k : ℕ) → k < burst_length m → clear_at m (suc k) ≡ counted (clear_at m k) (get_or (burst_of m) k 0)
clear_more m k short = ap (counted_by 0) (take_more m k short) ∙ counted_append 0 (take k (burst_of m)) (get_or (burst_of m) k 0 ∷ [])

-- a burst begins with 1
clear_later : (m : Message) (k : ℕ) → get_or (burst_of m) k 0 ≡ 0 → 0 < k
clear_later m zero e = absurd (omega (arith, e, burst_first m))
clear_later m (suc k) e = omega arith

-- Since the burst of m began, k half-cycles ago, a station that was `at` then is empty; or waits, and has counted no more than those; or started with
-- it, and has sent the same.
pub data Beside (m : Message) (k : ℕ) (at s : Station) : Type 0 where
  empty : s ≡ empty_station → Beside m k at s
  idle : (g : Message) (w c : ℕ) → draw_ok w ≡ true → c < w → (0 < k → c ≤ clear_at m k) → s ≡ holding g w c 0 → Beside m k at s
  level : (g : Message) → Starts g at → Along g k s → take k (burst_of g) ≡ take k (burst_of m) → Beside m k at s

pub beside_start : (m : Message) (s : Station) → station_ok s ≡ true → s.place ≡ 0 → Beside m 0 s s
unfolding station_ok
beside_start m s ok unsent = go s.held refl
  where
    go : (x : Option Message) → s.held ≡ x → Beside m 0 s s
    go None e =
        let all = (and-eq-true_iff (eqb s.wait 8) _).0 (subst (λ (x : Option Message). held_ok x s.wait s.count s.place ≡ true) e ok) in
        let rest = (and-eq-true_iff (eqb s.count 0) (eqb s.place 0)).0 all.1 in
        empty (by_fields s e (eqb-true s.wait 8 all.0) (eqb-true s.count 0 rest.0) unsent)
    go (Some g) e = counting (ℕ_discrete s.count s.wait)
      where
        f : Fine g s
        f = fine_station g s e ok

        counting : Dec (s.count ≡ s.wait) → Beside m 0 s s
        counting (yes c) =
            let st : Starts g s = record { holds = e; counted = c; unsent = unsent } in
            level g st (along_start ok st) refl
        counting (no c) =
            idle g s.wait s.count f.drawn_wait (omega (arith, f.counts)) (λ u. absurd (omega arith)) (by_fields s e refl refl unsent)

module _ {s at : Station} {h d : ℕ} (r : Movable s (sends_of s) h d) (m : Message) (k : ℕ) (short : k < burst_length m) where
  -- it sends no more than that burst has
  pub beside_sends : message_ok m ≡ true → ((g : Message) → Starts g at → not_greater (frame_of g) (frame_of m) ≡ true) → Beside m k at s
      → sends_of s ≤ get_or (burst_of m) k 0
  unfolding sends_of
  beside_sends valid lower (empty p) = omega (arith, ap sends_of p)
  beside_sends valid lower (idle g w c hw l few p) =
      omega (arith, ap sends_of p, waiting_sends g w (fine_station g s (ap (λ (s : Station). s.held) p) r.ok).valid hw c l)
  beside_sends valid lower (level g st a same) =
      let sent : List ℕ = take k (burst_of m) in
      let long : length sent ≡ k = length-take-le k (burst_of m) (omega (arith, burst_length_lem m)) in
      let theirs = (found r g k a).valid in
      let first =
      not_ahead g m theirs valid sent (ap (λ (j : ℕ). take j (burst_of g)) long ∙ same)
      (ap (λ (j : ℕ). take j (burst_of m)) long) (lower g st) in
      omega (
        arith,
        along_half r g k a,
        first,
        ap (λ (j : ℕ). get_or (burst_of g) j 0) long,
        ap (λ (j : ℕ). get_or (burst_of m) j 0) long,
      )

  module _ (carries : get_or (burst_of m) k 0 ≡ h) where
    -- a station that has heard a 1 counts from 0
    restarts : (g : Message) → (turn_of s h d).next ≡ holding g d 0 0 → Beside m (suc k) at (turn_of s h d).next
    restarts g p = idle g d 0 r.drawn (omega (arith, drawn d r.drawn)) (λ u. omega arith) p

    pub beside_turn : Beside m k at s → Beside m (suc k) at (turn_of s h d).next
    beside_turn (empty p) = empty (turned r p (empty_turn h d r.half r.drawn))
    beside_turn (idle g w c hw l few p) =
        go (eqb h 1) refl
        (turned r p (waiting_turn g w (fine_station g s (ap (λ (s : Station). s.held) p) r.ok).valid hw h d r.half r.drawn c l))
      where
        go : (b : Bool) → eqb h 1 ≡ b → (turn_of s h d).next ≡ pick b (holding g d 0 0) (holding g w (c + 1) 0)
            → Beside m (suc k) at (turn_of s h d).next
        go true e q = restarts g q
        go false e q =
            let clear : get_or (burst_of m) k 0 ≡ 0 = omega (arith, carries, r.half, eqb-false h 1 e) in
            let begun = clear_later m k clear in
            let next : clear_at m (suc k) ≡ clear_at m k + 1 = clear_more m k short ∙ ap (counted (clear_at m k)) clear in
            idle g w (c + 1) hw (omega (arith, few begun, clear_briefly m 0 k short clear, drawn w hw)) (λ u. omega (arith, few begun, next)) q
    beside_turn (level g st a same) = go (ℕ_discrete (get_or (burst_of g) k 0) h) (ℕ_discrete (k + 1) (burst_length g))
      where
        go : Dec (get_or (burst_of g) k 0 ≡ h) → Dec (k + 1 ≡ burst_length g) → Beside m (suc k) at (turn_of s h d).next
        go (yes e) (yes x) = empty (along_ends r g k a e x)
        go (yes e) (no x) =
            level g st (along_turn r g k a e x)
            (take_more g k (along_within r g k a) ∙ ap₂ (λ (l : List ℕ) (x : ℕ). l ++ (x ∷ [])) same (e ∙ sym carries) ∙ sym (take_more m k short))
        go (no e) x = restarts g (along_yields r g k a e)
