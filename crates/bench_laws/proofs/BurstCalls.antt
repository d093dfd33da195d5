-- A call while a burst is on the line, and then any call. What the receiver says is what it says to each burst that has begun as the line
-- did: so where one station's burst ends, every burst that is still sent ends, and where it does not, none ends.
--
--     burst_goes_on, burst_over     a call, before a burst's end and at it
--     next_state                    any call that is not refused
use Rattle.std.specs.Prelude.{Ok}
use mathlib.Core.Path.{◌≡◌, refl, sym, ap, ap₂, subst, ◌∙◌}
use mathlib.Core.Logic.{◌⊎◌, inl, inr}
use mathlib.Core.Bool.{true, false}
use mathlib.Core.List.{List, [], ◌∷◌, ◌++◌, reverse_aux, reverse_aux-append}
use Prim.Native.Nat.{ℕ, zero, suc, ◌+◌, ◌≤◌, ◌<◌}
use native.Mathlib.Decide.{ℕ_discrete}
use native.Mathlib.Omega.{arith}
use lib.ListN.{length, get_or, take, length-append}
use lib.Seq.{take-length}
use Rattle.message.specs.Messages.{message_ok}
use Rattle.message.specs.declared.Message.{Message}
use Rattle.burst.specs.Frames.{burst_of, burst_length}
use Rattle.burst.proofs.FrameLaws.{burst_length_lem}
use Rattle.receiver.specs.Receivers.{event_number, step_of}
use Rattle.receiver.specs.Hearing.{events_of, receiver_after}
use Rattle.receiver.specs.declared.Receiver.{Receiver}
use Rattle.receiver.specs.declared.Event.{Event}
use Rattle.receiver.specs.declared.Event.TheVariants.{Message as Gives, Repeat}
use Rattle.station.specs.Stations.{sends_of, is_done}
use Rattle.station.specs.declared.Station.{Station}
use Rattle.station.specs.declared.Turn.{Turn}
use Rattle.station.specs.declared.bench.BenchTurn.{BenchTurn}
use Rattle.receiver_laws.proofs.Rests.{Rests, rests_ready}
use Rattle.receiver_laws.proofs.Standing.{stands_at, event_at, stands_last, repeat_ends}
use Rattle.bench_run.specs.Calls.{Moment, lines_of, events_in, next_moment}
use Rattle.bench_laws.specs.Demand3.{SaysDone, SentAndHeard}
use Rattle.bench_laws.specs.Together.{station_at}
use Rattle.bench_laws.proofs.BurstLaws.{burst_most, counted, counted_by, counted_append, clear_briefly}
use Rattle.bench_laws.proofs.BenchLaws.{turn_at, Turns}
use Rattle.bench_laws.proofs.Turns.{done_of, drawn}
use Rattle.bench_laws.proofs.StationStates.{Front, Follows, front_more, front_less, whole, Sending, Stands, sending_half, who_sends, vacant, Outcome}
use Rattle.bench_laws.proofs.StationStates.{outcome, ends-here, sends_still, keeps_sending, is_over, done_whole}
use Rattle.bench_laws.proofs.PartHeard.{end_repeats, gives_this, says_cleanly, part_next, part_events, part_event, sent_and_heard}
use Rattle.bench_laws.proofs.Tally.{total_grows, total_rises}
use Rattle.bench_laws.proofs.TimesGiven.{Given, given_first, given_next, given_over}
use Rattle.bench_laws.proofs.Moments.{newest, Bench, Kept, Quiet, Underway, Sender, State, quiet, busy, keeps, going_right, quiet_call}

module _ (n : ℕ) (message : ℕ → Message) (B : Bench n message) (now : Moment) (draws : List ℕ) where
  -- ---- a burst on the line

  module _ (h : ℕ) (t : BenchTurn) (T : Turns n now.stations draws h t) (z : ℕ) (r : Receiver) (sent : List ℕ)
      (R : Underway n message z r sent now) (F : Sender n message (counted_by z sent) sent now)
      (same : get_or (burst_of (message F.who)) (length sent) 0 ≡ h) where
    -- the message of a station that sends what is heard
    abbrev m : Message
    m = message F.who

    valid : message_ok m ≡ true
    valid = B.valid F.who F.below

    abbrev longer : List ℕ
    longer = sent ++ h ∷ []

    length-longer : length longer ≡ length sent + 1
    length-longer = length-append sent (h ∷ [])

    abbrev turn : ℕ → Turn
    turn i = turn_at h now.stations draws i

    abbrev said : Event
    said = (newest now h t).event

    few : h ≡ 0 → counted_by z sent ≤ 2
    few e =
        let f = F.sends.follows in
        subst (λ (hs : List ℕ). counted_by z hs ≤ 2) f.front (clear_briefly m z (length sent) f.more (same ∙ e))

    out : (i : ℕ) → i < n → Outcome (message i) longer (counted_by z longer) (turn i)
    out i l =
        subst (λ (c : ℕ). Outcome (message i) longer c (turn i)) (sym (counted_append z sent (h ∷ [])))
        (outcome (message i) (B.valid i l) sent (counted_by z sent) (station_at now i) (get_or draws i 0) (T.draw i l) h T.low (T.above i l)
        (λ e. omega (arith, few e)) (R.stations i l))

    -- ---- the receiver, and the answers

    -- what is said is what is said to each burst that has begun so
    event : (i : ℕ) → i < n → Front (message i) longer → length sent < burst_length (message i) → said ≡ event_at (message i) (length sent)
    event i l f k =
        let x = front_less (message i) sent h f k in
        ap (λ (r : Receiver). (step_of r h).event) R.receiver
        ∙ part_event (message i) (B.valid i l) r R.ready sent h x.0 x.1

    ours : Front m longer
    ours = front_more m sent h F.sends.follows same

    our_event : said ≡ event_at m (length sent)
    our_event = event F.who F.below ours F.sends.follows.more

    gives : (g : Message) → said ≡ Gives g → (i : ℕ) × (i < n) × (message i ≡ g)
    gives g e = (F.who, F.below, gives_this m (length sent) g (sym our_event ∙ e))

    cleanly : event_number said ≡ 0
    cleanly = ap event_number our_event ∙ says_cleanly m (length sent)

    next_receiver : (step_of now.receiver h).next ≡ receiver_after r longer
    next_receiver = ap (λ (r : Receiver). (step_of r h).next) R.receiver ∙ sym (part_next r sent h)

    next_lines : h ∷ lines_of now.past ≡ reverse_aux longer (lines_of R.before)
    next_lines = ap (λ (l : List ℕ). h ∷ l) R.lines ∙ sym (reverse_aux-append sent (h ∷ []) (lines_of R.before))

    next_events : said ∷ events_in now.past ≡ reverse_aux (events_of r longer) (events_in R.before)
    next_events =
        ap₂ (λ (r : Receiver) (l : List Event). (step_of r h).event ∷ l) R.receiver R.events
        ∙ sym (ap (λ (l : List Event). reverse_aux l (events_in R.before)) (part_events r sent h)
        ∙ reverse_aux-append (events_of r sent) ((step_of (receiver_after r sent) h).event ∷ []) (events_in R.before))

    -- ---- before the burst's end

    module _ (p : length sent + 1 ≡ burst_length m → ⊥) where
      no_repeat : said ≡ Repeat → ⊥
      no_repeat e = p (omega (arith, repeat_ends m (length sent) (sym our_event ∙ e)))

      none_ends : (i : ℕ) → i < n → burst_of (message i) ≡ longer → ⊥
      none_ends i l e =
          let long : length sent + 1 ≡ burst_length (message i) = sym length-longer ∙ sym (ap length e) ∙ burst_length_lem (message i) in
          let front : Front (message i) longer = ap (take (length longer)) e ∙ take-length longer in
          no_repeat (event i l front (omega arith) ∙ end_repeats (message i) (length sent) (omega arith))

      going : (i : ℕ) → i < n → Stands (message i) longer (counted_by z longer) (turn i).next × (is_done (turn i).answer ≡ false)
      going i l = keeps_sending (omega (arith, length-longer)) (none_ends i l) (out i l)

      still : Sending m longer (counted_by z longer) (turn F.who).next
      still =
          sends_still m valid sent (counted_by z sent) (station_at now F.who) h (get_or draws F.who 0) T.low (T.draw F.who F.below)
          F.sends same p
          (counted_by z longer)

      given_on : (i : ℕ) → i < n → Follows (message i) longer → Given (message i) (length longer) (newest now h t ∷ now.past)
      given_on i l f =
          let short : length sent < burst_length (message i) = omega (arith, length-longer, f.more) in
          given_next (message i) now.past (newest now h t) (length sent) (event i l f.front short)
          (R.given i l (front_less (message i) sent h f.front short).0) (length longer) length-longer f.more

      burst_goes_on : Kept n message now
          → Kept n message (next_moment now t (Ok h)) × Underway n message z r longer (next_moment now t (Ok h))
          × Sender n message (counted_by z longer) longer (next_moment now t (Ok h))
      burst_goes_on K = (
        keeps n message now draws h t T K
            (going_right n message now draws h t T (λ i l. (going i l).1) no_repeat gives cleanly),
        record {
          before = R.before;
          ready = R.ready;
          stations = λ i l. subst (λ (s : Station). Stands (message i) longer (counted_by z longer) s) (sym (T.next i l)) (going i l).0;
          receiver = next_receiver;
          lines = next_lines;
          events = next_events;
          bound = omega (arith, R.bound, total_grows n (newest now h t) now.past, length-longer);
          given = given_on;
        },
        record {
          who = F.who;
          below = F.below;
          sends = subst (λ (s : Station). Sending m longer (counted_by z longer) s) (sym (T.next F.who F.below)) still;
        },
      )

    -- ---- at the burst's end

    module _ (p : length sent + 1 ≡ burst_length m) where
      repeat : said ≡ Repeat
      repeat = our_event ∙ end_repeats m (length sent) (omega arith)

      none_on : (i : ℕ) → i < n → Follows (message i) longer → ⊥
      none_on i l f =
          let more : length sent + 1 < burst_length (message i) = omega (arith, length-longer, f.more) in
          omega (arith, more, repeat_ends (message i) (length sent) (sym (event i l f.front (omega arith)) ∙ repeat))

      over : (i : ℕ) → i < n → Stands (message i) [] (counted_by z longer) (turn i).next
      over i l = is_over (none_on i l) (out i l)

      our_burst : burst_of m ≡ longer
      our_burst = whole m longer ours (length-longer ∙ p)

      our_done : get_or t.done F.who false ≡ true
      our_done =
          T.says F.who F.below
          ∙ done_of
          (ends-here m valid sent (counted_by z sent) (station_at now F.who) h (get_or draws F.who 0) T.low (T.draw F.who F.below)
          F.sends same p)

      all_heard : (i : ℕ) → i < n → SaysDone i (newest now h t) → SentAndHeard (message i) (newest now h t ∷ now.past)
      all_heard i l d =
          let e : burst_of (message i) ≡ longer = done_whole (out i l) (sym (T.says i l) ∙ d) in
          sent_and_heard (newest now h t ∷ now.past) R.before (message i) (B.valid i l) r R.ready
          (next_lines ∙ ap (λ (b : List ℕ). reverse_aux b (lines_of R.before)) (sym e))
          (next_events ∙ ap (λ (b : List ℕ). reverse_aux (events_of r b) (events_in R.before)) (sym e))

      -- at most three of the burst's last half-cycles are clear
      few_clear : counted_by z longer ≤ 3
      few_clear = rw (counted_append z sent (h ∷ [])) (go h few)
        where
          go : (h : ℕ) → (h ≡ 0 → counted_by z sent ≤ 2) → counted (counted_by z sent) h ≤ 3
          go zero f = omega (arith, f refl)
          go (suc h) f = omega arith

      burst_over : Kept n message now
          → Kept n message (next_moment now t (Ok h)) × Quiet n message (counted_by z longer) (next_moment now t (Ok h))
      unfolding stands_at
      burst_over K = (
        keeps n message now draws h t T K
            (record { done = all_heard; repeats = (λ e. (F.who, F.below, our_done), λ d. repeat); gives = gives; clean = cleanly }),
        record {
          heard = 0;
          rests =
              subst (Rests 0) (ap (receiver_after r) (take-length (burst_of m) ∙ our_burst) ∙ sym next_receiver) (stands_last m valid r R.ready);
          near = few_clear;
          stations = λ i l. subst (λ (s : Station). Stands (message i) [] (counted_by z longer) s) (sym (T.next i l)) (over i l);
          bound = λ i l v.
              omega (arith, R.bound, total_rises n (newest now h t) now.past F.who F.below our_done, burst_most m);
          equal =
              given_over m now.past (newest now h t) (length sent) our_event (R.given F.who F.below F.sends.follows) (omega arith);
        },
      )

  -- ---- any call that is not refused

  module _ (t : BenchTurn) (K : Kept n message now) where
    abbrev Next : ℕ → Type 0
    Next h = Kept n message (next_moment now t (Ok h)) × State n message (next_moment now t (Ok h))

    burst_next : (h : ℕ) → Turns n now.stations draws h t → (z : ℕ) (r : Receiver) (sent : List ℕ) → Underway n message z r sent now
        → (F : Sender n message (counted_by z sent) sent now) → get_or (burst_of (message F.who)) (length sent) 0 ≡ h → Next h
    burst_next h T z r sent R F same = go (ℕ_discrete (length sent + 1) (burst_length (message F.who)))
      where
        go : Dec (length sent + 1 ≡ burst_length (message F.who)) → Next h
        go (yes p) =
            let q = burst_over h t T z r sent R F same p K in
            (q.0, quiet (counted_by z (sent ++ h ∷ [])) q.1)
        go (no p) =
            let q = burst_goes_on h t T z r sent R F same p K in
            (q.0, busy z r (sent ++ h ∷ []) q.1 q.2)

    -- a 1 on the line is sent by some station
    one_heard : (h : ℕ) → Turns n now.stations draws (suc h) t → (z : ℕ) (r : Receiver) (sent : List ℕ)
        → Underway n message z r sent now → Next (suc h)
    one_heard h T z r sent R = go T.some
      where
        go : (suc h ≡ 0) ⊎ ((i : ℕ) × (i < n) × (sends_of (station_at now i) ≡ suc h)) → Next (suc h)
        go (inl e) = absurd (omega arith)
        go (inr (i, l, e)) =
            let x = who_sends (message i) (B.valid i l) sent (counted_by z sent) (station_at now i) (R.stations i l) (omega arith) in
            burst_next (suc h) T z r sent R (record { who = i; below = l; sends = x })
            (sym (sending_half (message i) (B.valid i l) sent (counted_by z sent) (station_at now i) x) ∙ e)

    -- a quiet line on which a burst begins
    begins : (c : ℕ) → Quiet n message c now → (i : ℕ) → i < n → Sending (message i) [] c (station_at now i) → Underway n message c now.receiver [] now
    unfolding receiver_after events_of
    begins c Q i l x =
        let w : x.wait ≡ c = x.begun refl in
        let d = drawn x.wait x.drawn_wait in
        record {
          before = now.past;
          ready = rests_ready Q.heard now.receiver (omega (arith, Q.near)) Q.rests;
          stations = Q.stations;
          receiver = refl;
          lines = refl;
          events = refl;
          bound = omega (arith, Q.bound i l (ap vacant x.is));
          given = λ i l f. given_first (message i) now.past Q.equal;
        }

    quiet_next : (c : ℕ) → Quiet n message c now → (h : ℕ) → Turns n now.stations draws h t → Next h
    quiet_next c Q zero T = let q = quiet_call n message B now draws t T c Q K in (q.0, quiet (c + 1) q.1)
    quiet_next c Q (suc h) T = go T.some
      where
        go : (suc h ≡ 0) ⊎ ((i : ℕ) × (i < n) × (sends_of (station_at now i) ≡ suc h)) → Next (suc h)
        go (inl e) = absurd (omega arith)
        go (inr (i, l, e)) =
            let x = who_sends (message i) (B.valid i l) [] c (station_at now i) (Q.stations i l) (omega arith) in
            one_heard h T c now.receiver [] (begins c Q i l x)

    pub next_state : State n message now → (h : ℕ) → Turns n now.stations draws h t → Next h
    next_state (quiet c Q) h T = quiet_next c Q h T
    next_state (busy z r sent R F) zero T =
        let sends = sending_half (message F.who) (B.valid F.who F.below) sent (counted_by z sent) (station_at now F.who) F.sends in
        burst_next 0 T z r sent R F (omega (arith, T.above F.who F.below))
    next_state (busy z r sent R F) (suc h) T = one_heard h T z r sent R
