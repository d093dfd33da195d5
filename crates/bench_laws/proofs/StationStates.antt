-- How a station of the bench stands while a burst is on the line, and what a half-cycle makes of it. All that wait have counted alike, and
-- all that send have sent the same.
--
--     Front, Follows          a message's burst begins with what was sent; and is not over
--     Sending, Stands, stands_ok     the three ways in which a station stands: gone, waiting, sending
--     sending_half, who_sends     what such a station sends
--     vacant, empties         1 for an empty station; one is newly empty exactly where it says DONE
--     ends-here, sends_still  a station that sends what is heard, at its burst's end and before
--     Outcome, outcome        what a half-cycle makes of a station, by the line's half-cycle
--     keeps_sending, is_over  a burst that goes on, and one that ends, leave the stations standing so
--     counts_on               a clear half-cycle while none sends
use Rattle.std.specs.Prelude.{Option, Some, None, Ok}
use mathlib.Core.Path.{◌≡◌, refl, sym, ap, ap₂, ◌∙◌}
use mathlib.Core.Bool.{Bool, true, false, false≢true}
use mathlib.Core.List.{List, [], ◌∷◌, ◌++◌}
use Prim.Native.Nat.{ℕ, zero, suc, ◌+◌, ◌≤◌, ◌<◌}
use native.Mathlib.Numerals.{add-one}
use native.Mathlib.Decide.{ℕ_discrete}
use native.Mathlib.Omega.{arith}
use lib.ListN.{length, get_or, take, length-append}
use lib.Seq.{take-suc, take_all, take-take, take-append_seam, get_or-take, get_or-append_seam}
use borrow.Author.Tests.{le-leb}
use lib.Dec.{eqb}
use Rattle.ground.specs.Choice.{pick}
use Rattle.ground.specs.Refusals.{judged}
use Rattle.message.specs.Messages.{message_ok}
use Rattle.message.specs.declared.Message.{Message}
use Rattle.burst.specs.Frames.{burst_of, burst_length}
use Rattle.burst.proofs.FrameLaws.{burst_length_lem}
use Rattle.station.specs.declared.Station.{Station}
use Rattle.station.specs.declared.Turn.{Turn}
use Rattle.station.specs.declared.Turned.TheVariants.{Done}
use Rattle.station.specs.Stations.{empty_station, draw_ok, station_ok, loaded, is_empty, sends_of, held_moves, turn_of, is_done}
use Rattle.station.proofs.SendLaws.{no_fault}
use Rattle.station.proofs.TurnLaws.{Movable}
use Rattle.bench_laws.proofs.BurstLaws.{burst_some, burst_first, counted}
use Rattle.bench_laws.proofs.Turns.{holding, goes, next_of, done_of, drawn, empty_turn, waiting_ok_lem, sending_ok, waiting_sends, sending_sends}
use Rattle.bench_laws.proofs.Turns.{waiting_turn, ends_turn, sends_turn, yields_turn}

-- the burst of m begins with what was sent
abbrev pub Front : Message → List ℕ → Type 0
Front m sent = take (length sent) (burst_of m) ≡ sent

-- and has more to come
pub record Follows (m : Message) (sent : List ℕ) : Type 0 where
  pub front : Front m sent
  pub more : length sent < burst_length m

length_more : (sent : List ℕ) (h : ℕ) → length (sent ++ h ∷ []) ≡ length sent + 1
length_more sent h = length-append sent (h ∷ [])

-- one half-cycle more, as the burst has it
pub front_more : (m : Message) (sent : List ℕ) (h : ℕ) → Follows m sent → get_or (burst_of m) (length sent) 0 ≡ h → Front m (sent ++ h ∷ [])
front_more m sent h f e =
    ap (λ (k : ℕ). take k (burst_of m)) (length_more sent h ∙ add-one (length sent))
    ∙ take-suc (burst_of m) (length sent) 0 (omega (arith, burst_length_lem m, f.more))
    ∙ ap₂ (λ (l : List ℕ) (x : ℕ). l ++ x ∷ []) f.front e

-- and back
pub front_less : (m : Message) (sent : List ℕ) (h : ℕ) → Front m (sent ++ h ∷ []) → length sent < burst_length m
    → Follows m sent × (get_or (burst_of m) (length sent) 0 ≡ h)
front_less m sent h f l =
    let k : ℕ = length sent in
    let e : take (suc k) (burst_of m) ≡ sent ++ h ∷ [] = ap (λ (k : ℕ). take k (burst_of m)) (sym (length_more sent h ∙ add-one k)) ∙ f in (
      record { front = sym (take-take k (suc k) (burst_of m) (omega arith)) ∙ ap (take k) e ∙ take-append_seam sent (h ∷ []); more = l },
      sym (get_or-take (suc k) (burst_of m) k 0 (omega arith)) ∙ ap (λ (l : List ℕ). get_or l k 0) e ∙ get_or-append_seam sent h [] 0,
    )

pub whole : (m : Message) (sent : List ℕ) → Front m sent → length sent ≡ burst_length m → burst_of m ≡ sent
whole m sent f e = sym (take_all (length sent) (burst_of m) (omega (arith, burst_length_lem m))) ∙ f

-- ---- the three ways

-- a station that has sent what is on the line, and sends on; one that has yet to begin has counted its wait
pub record Sending (m : Message) (sent : List ℕ) (z : ℕ) (s : Station) : Type 0 where
  pub wait : ℕ
  pub drawn_wait : draw_ok wait ≡ true
  pub begun : length sent ≡ 0 → wait ≡ z
  pub follows : Follows m sent
  pub is : s ≡ holding m wait wait (length sent)

-- the half-cycles of a burst so far are sent, and z clear ones were heard last
pub data Stands (m : Message) (sent : List ℕ) (z : ℕ) (s : Station) : Type 0 where
  gone : s ≡ empty_station → Stands m sent z s
  waiting : (w : ℕ) → draw_ok w ≡ true → z < w → s ≡ holding m w z 0 → Stands m sent z s
  sends : Sending m sent z s → Stands m sent z s

abbrev pub mark : Bool → ℕ
mark b = pick b 1 0

abbrev pub vacant : Station → ℕ
vacant s = mark (is_empty s.held)

module _ {s : Station} {h d : ℕ} (r : Movable s (sends_of s) h d) where
  -- a station is newly empty exactly where it says DONE
  abbrev Empties : Turn → Type 0
  Empties t = vacant t.next ≡ mark (is_done t.answer) + vacant s

  empties_held : (m : Message) → vacant s ≡ 0 → (a b c e : Bool)
      → Empties (pick a (pick b (pick c (record { answer = Ok Done; next = empty_station }) (goes (holding m s.wait s.count (s.place + 1))))
      (goes (loaded m d))) (goes (pick e (loaded m d) (holding m s.wait (s.count + 1) 0))))
  empties_held m v true true true e = omega (arith, v)
  empties_held m v true true false e = omega (arith, v)
  empties_held m v true false c e = omega (arith, v)
  empties_held m v false b c true = omega (arith, v)
  empties_held m v false b c false = omega (arith, v)

  pub empties : Empties (turn_of s h d)
  unfolding turn_of judged
  empties =
      simp (le-leb h 1 r.half, r.ok, r.drawn, no_fault (sends_of s) h r.kept) (go s.held refl)
    where
      go : (x : Option Message) → s.held ≡ x → Empties (held_moves x s h d)
      go None e = omega arith
      go (Some m) e =
          empties_held m (ap (λ (x : Option Message). mark (is_empty x)) e) (eqb s.count s.wait) (eqb (get_or (burst_of m) s.place 0) h)
          (eqb (s.place + 1) (burst_length m)) (eqb h 1)

module _ (m : Message) (valid : message_ok m ≡ true) (sent : List ℕ) (z : ℕ) where
  pub stands_ok : (s : Station) → Stands m sent z s → station_ok s ≡ true
  unfolding station_ok
  stands_ok s (gone e) = ap station_ok e
  stands_ok s (waiting w d l e) = ap station_ok e ∙ waiting_ok_lem m w valid d z (omega arith)
  stands_ok s (sends x) = ap station_ok x.is ∙ sending_ok m x.wait valid x.drawn_wait (length sent) x.follows.more

  -- what a station sends is the next half-cycle of its burst, or nothing
  pub sending_half : (s : Station) → Sending m sent z s → sends_of s ≡ get_or (burst_of m) (length sent) 0
  sending_half s x = ap sends_of x.is ∙ sending_sends m x.wait valid x.drawn_wait (length sent)

  pub who_sends : (s : Station) → Stands m sent z s → 1 ≤ sends_of s → Sending m sent z s
  unfolding sends_of
  who_sends s (gone e) l = absurd (omega (arith, ap sends_of e))
  who_sends s (waiting w d u e) l = absurd (omega (arith, ap sends_of e ∙ waiting_sends m w valid d z u))
  who_sends s (sends x) l = x

-- ---- one half-cycle

-- h has been heard: sent is on the line with it, and those that wait have counted to z
pub data Outcome (m : Message) (sent : List ℕ) (z : ℕ) (t : Turn) : Type 0 where
  still_gone : t ≡ goes empty_station → Outcome m sent z t
  waits_on_lem : (w : ℕ) → draw_ok w ≡ true → z < w → t ≡ goes (holding m w z 0) → Outcome m sent z t
  sends_on_lem : (w : ℕ) → draw_ok w ≡ true → Follows m sent → t ≡ goes (holding m w w (length sent)) → Outcome m sent z t
  ends : burst_of m ≡ sent → t ≡ record { answer = Ok Done; next = empty_station } → Outcome m sent z t

module _ (m : Message) (valid : message_ok m ≡ true) (sent : List ℕ) (z : ℕ) (s : Station) where
  abbrev After : ℕ → ℕ → Type 0
  After h d = Outcome m (sent ++ h ∷ []) (counted z h) (turn_of s h d)

  -- a station that waits, at a clear half-cycle and at a 1
  waits_clear : (d w : ℕ) → draw_ok d ≡ true → draw_ok w ≡ true → z < w → z + 1 < 8 → s ≡ holding m w z 0 → After 0 d
  waits_clear d w hd hw l b e =
      waits_on_lem w hw (omega (arith, drawn w hw)) (ap (λ (s : Station). turn_of s 0 d) e ∙ waiting_turn m w valid hw 0 d (omega arith) hd z l)

  waits_one : (d w : ℕ) → draw_ok d ≡ true → draw_ok w ≡ true → z < w → s ≡ holding m w z 0 → After 1 d
  waits_one d w hd hw l e =
      waits_on_lem d hd (omega (arith, drawn d hd)) (ap (λ (s : Station). turn_of s 1 d) e ∙ waiting_turn m w valid hw 1 d (omega arith) hd z l)

  module _ (h d : ℕ) (low : h ≤ 1) (hd : draw_ok d ≡ true) (x : Sending m sent z s) where
    abbrev half : ℕ
    half = get_or (burst_of m) (length sent) 0

    turned : {t : Turn} → turn_of (holding m x.wait x.wait (length sent)) h d ≡ t → turn_of s h d ≡ t
    turned e = ap (λ (s : Station). turn_of s h d) x.is ∙ e

    -- a station that sends what is heard: at the burst's end, and before
    pub ends-here : half ≡ h → length sent + 1 ≡ burst_length m → turn_of s h d ≡ record { answer = Ok Done; next = empty_station }
    ends-here same p = turned (ends_turn m x.wait valid x.drawn_wait h d low hd (length sent) x.follows.more same p)

    sends_here : half ≡ h → (length sent + 1 ≡ burst_length m → ⊥)
        → turn_of s h d ≡ goes (holding m x.wait x.wait (length (sent ++ h ∷ [])))
    sends_here same p =
        turned (sends_turn m x.wait valid x.drawn_wait h d low hd (length sent) x.follows.more same p)
        ∙ ap (λ (k : ℕ). goes (holding m x.wait x.wait k)) (sym (length_more sent h))

    goes_further : half ≡ h → (length sent + 1 ≡ burst_length m → ⊥) → Follows m (sent ++ h ∷ [])
    goes_further same p = record {
      front = front_more m sent h x.follows same;
      more = omega (arith, length_more sent h, x.follows.more);
    }

    pub sends_still : half ≡ h → (length sent + 1 ≡ burst_length m → ⊥) → (z' : ℕ) → Sending m (sent ++ h ∷ []) z' (turn_of s h d).next
    sends_still same p z' = record {
      wait = x.wait;
      drawn_wait = x.drawn_wait;
      begun = λ e. absurd (omega (arith, length_more sent h));
      follows = goes_further same p;
      is = next_of (sends_here same p);
    }

    carries_on : half ≡ h → Dec (length sent + 1 ≡ burst_length m) → After h d
    carries_on same (yes p) =
        ends (whole m (sent ++ h ∷ []) (front_more m sent h x.follows same) (length_more sent h ∙ p)) (ends-here same p)
    carries_on same (no p) =
        sends_on_lem x.wait x.drawn_wait (goes_further same p) (sends_here same p)

    -- a station that sends 0 and hears 1
    gives_way : half < h → After h d
    gives_way less =
        let one : h ≡ 1 = omega arith in
        let none : counted z h ≡ 0 = ap (counted z) one in
        waits_on_lem d hd (omega (arith, none, drawn d hd))
        (turned (yields_turn m x.wait valid x.drawn_wait h d low hd (length sent) x.follows.more less)
        ∙ ap (λ (c : ℕ). goes (holding m d c 0)) (sym none))

    sent_or_not : Dec (half ≡ h) → half ≤ h → After h d
    sent_or_not (yes p) l = carries_on p (ℕ_discrete (length sent + 1) (burst_length m))
    sent_or_not (no p) l = gives_way (omega arith)

  module _ (d : ℕ) (hd : draw_ok d ≡ true) where
    pub outcome : (h : ℕ) → h ≤ 1 → sends_of s ≤ h → (h ≡ 0 → z + 1 < 8) → Stands m sent z s → After h d
    outcome h low u b (gone e) = still_gone (ap (λ (s : Station). turn_of s h d) e ∙ empty_turn h d low hd)
    outcome zero low u b (waiting w hw l e) = waits_clear d w hd hw l (b refl) e
    outcome (suc zero) low u b (waiting w hw l e) = waits_one d w hd hw l e
    outcome (suc (suc h)) low u b (waiting w hw l e) = absurd (omega arith)
    outcome h low u b (sends x) =
        sent_or_not h d low hd x (ℕ_discrete (get_or (burst_of m) (length sent) 0) h) (omega (arith, sending_half m valid sent z s x))

-- ---- what the half-cycle leaves: a station stands so again

-- the burst goes on: nothing is over
pub keeps_sending : {m : Message} {sent : List ℕ} {z : ℕ} {t : Turn} → 0 < length sent → (burst_of m ≡ sent → ⊥) → Outcome m sent z t
    → Stands m sent z t.next × (is_done t.answer ≡ false)
keeps_sending l n (still_gone p) = (gone (next_of p), done_of p)
keeps_sending l n (waits_on_lem w d b p) = (waiting w d b (next_of p), done_of p)
keeps_sending l n (sends_on_lem w d f p) =
    (sends (record { wait = w; drawn_wait = d; begun = λ e. absurd (omega arith); follows = f; is = next_of p }), done_of p)
keeps_sending l n (ends e p) = absurd (n e)

-- the burst is over: none sends on
pub is_over : {m : Message} {sent : List ℕ} {z : ℕ} {t : Turn} → (Follows m sent → ⊥) → Outcome m sent z t → Stands m [] z t.next
is_over n (still_gone p) = gone (next_of p)
is_over n (waits_on_lem w d b p) = waiting w d b (next_of p)
is_over n (sends_on_lem w d f p) = absurd (n f)
is_over n (ends e p) = gone (next_of p)

pub done_whole : {m : Message} {sent : List ℕ} {z : ℕ} {t : Turn} → Outcome m sent z t → is_done t.answer ≡ true → burst_of m ≡ sent
done_whole (still_gone p) d = absurd (false≢true (sym (done_of p) ∙ d))
done_whole (waits_on_lem w h b p) d = absurd (false≢true (sym (done_of p) ∙ d))
done_whole (sends_on_lem w h f p) d = absurd (false≢true (sym (done_of p) ∙ d))
done_whole (ends e p) d = e

-- a clear half-cycle while none sends
module _ (m : Message) (valid : message_ok m ≡ true) (c d : ℕ) (hd : draw_ok d ≡ true) where
  begins : Follows m []
  begins = record { front = refl; more = omega (arith, burst_some m) }

  pub counts_on : (s : Station) → sends_of s ≤ 0 → Stands m [] c s → Stands m [] (c + 1) (turn_of s 0 d).next × (is_done (turn_of s 0 d).answer ≡ false)
  counts_on s u (gone e) =
      let p = ap (λ (s : Station). turn_of s 0 d) e ∙ empty_turn 0 d (omega arith) hd in
      (gone (next_of p), done_of p)
  counts_on s u (waiting w hw l e) = (counted_on (ℕ_discrete (c + 1) w), done_of p)
    where
      p : turn_of s 0 d ≡ goes (holding m w (c + 1) 0)
      p = ap (λ (s : Station). turn_of s 0 d) e ∙ waiting_turn m w valid hw 0 d (omega arith) hd c l

      counted_on : Dec (c + 1 ≡ w) → Stands m [] (c + 1) (turn_of s 0 d).next
      counted_on (no n) = waiting w hw (omega arith) (next_of p)
      counted_on (yes q) = sends (record {
        wait = w;
        drawn_wait = hw;
        begun = λ x. sym q;
        follows = begins;
        is = next_of p ∙ ap (λ (c : ℕ). holding m w c 0) q;
      })
  counts_on s u (sends x) = absurd (omega (arith, sending_half m valid [] c s x ∙ burst_first m))
