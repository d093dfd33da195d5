-- Between two calls the line is quiet or a burst is on it. Here: what that says, and that a call keeps it while none sends.
--
--     Bench, Kept              what holds at every moment: the messages; the stations, the marks, the answers
--     Quiet, Underway, Sender, State     none sends; a burst is on the line; some station sends; the one or the other
--     Alike, alike, all_ok     what both say of the stations
--     keeps, going_right       what a call keeps, and its answer where none is DONE
--     quiet_call               a call while none sends
use Rattle.std.specs.Prelude.{Ok}
use mathlib.Core.Path.{◌≡◌, sym, ap, subst, ◌∙◌}
use mathlib.Core.Bool.{true, false, false≢true}
use mathlib.Core.List.{List, [], reverse_aux}
use Prim.Native.Nat.{ℕ, suc, ◌+◌, ◌*◌, ◌≤◌, ◌<◌}
use native.Mathlib.Omega.{arith}
use lib.ListN.{length, get_or}
use Rattle.message.specs.Messages.{message_ok}
use Rattle.message.specs.declared.Message.{Message}
use Rattle.receiver.specs.Receivers.{event_number, step_of}
use Rattle.receiver.specs.Hearing.{events_of, receiver_after}
use Rattle.receiver.specs.declared.Heard.{Heard}
use Rattle.receiver.specs.declared.Receiver.{Receiver}
use Rattle.receiver.specs.declared.Event.TheVariants.{Nothing, Message as Gives, Repeat}
use Rattle.station.specs.Stations.{station_ok, is_done}
use Rattle.station.specs.declared.Station.{Station}
use Rattle.station.specs.declared.bench.BenchTurn.{BenchTurn}
use Rattle.receiver_laws.specs.Whole.{Ready}
use Rattle.receiver_laws.proofs.Rests.{Rests, rests_step, rests_next}
use Rattle.bench_run.specs.Calls.{Answered, Moment, lines_of, events_in, next_moment}
use Rattle.bench_laws.specs.Demand3.{calls_each, times_done, times_given, times_repeated, Right, AllRight}
use Rattle.bench_laws.specs.Together.{station_at}
use Rattle.bench_laws.proofs.BurstLaws.{counted_by}
use Rattle.bench_laws.proofs.BenchLaws.{turn_at, Turns, movable}
use Rattle.bench_laws.proofs.StationStates.{Follows, Sending, Stands, stands_ok, mark, vacant, empties, counts_on}
use Rattle.bench_laws.proofs.Tally.{total, total_grows}
use Rattle.bench_laws.proofs.TimesGiven.{Given, counts_still}

-- the answer of a call that is not refused
abbrev pub newest : Moment → ℕ → BenchTurn → Answered
newest now h t = record { line = h; done = t.done; event = (step_of now.receiver h).event }

module _ (n : ℕ) (message : ℕ → Message) where
  -- the messages are such as loading accepts
  pub record Bench : Type 0 where
    pub valid : (i : ℕ) → i < n → message_ok (message i) ≡ true

  -- at every moment: a station is empty exactly when it has said DONE
  pub record Kept (now : Moment) : Type 0 where
    pub many : length now.stations ≡ n
    pub tally : (i : ℕ) → i < n → times_done i now.past ≡ vacant (station_at now i)
    pub right : AllRight n message now.past

  -- none has begun to send, and all that wait have counted to c
  pub record Quiet (c : ℕ) (now : Moment) : Type 0 where
    -- the receiver has heard as much of it, but for the end of the burst before
    pub heard : ℕ
    pub rests : Rests heard now.receiver
    pub near : c ≤ heard + 3
    pub stations : (i : ℕ) → i < n → Stands (message i) [] c (station_at now i)
    pub bound : (i : ℕ) → i < n → vacant (station_at now i) ≡ 0 → length now.past ≤ calls_each * total n now.past + c
    -- each MESSAGE has had its REPEAT
    pub equal : times_given now.past ≡ times_repeated now.past

  -- the burst so far is sent; before it z clear half-cycles were counted, and the receiver stood at r
  pub record Underway (z : ℕ) (r : Receiver) (sent : List ℕ) (now : Moment) : Type 0 where
    pub before : List Answered
    pub ready : Ready r
    pub stations : (i : ℕ) → i < n → Stands (message i) sent (counted_by z sent) (station_at now i)
    pub receiver : now.receiver ≡ receiver_after r sent
    pub lines : lines_of now.past ≡ reverse_aux sent (lines_of before)
    pub events : events_in now.past ≡ reverse_aux (events_of r sent) (events_in before)
    pub bound : length now.past ≤ calls_each * total n now.past + 10 + length sent
    -- for each burst that has begun so: all have had it until the frame's end, and after it all but the last
    pub given : (i : ℕ) → i < n → Follows (message i) sent → Given (message i) (length sent) now.past

  -- some station sends on
  pub record Sender (z : ℕ) (sent : List ℕ) (now : Moment) : Type 0 where
    pub who : ℕ
    pub below : who < n
    pub sends : Sending (message who) sent z (station_at now who)

  pub data State (now : Moment) : Type 0 where
    quiet : (c : ℕ) → Quiet c now → State now
    busy : (z : ℕ) (r : Receiver) (sent : List ℕ) → Underway z r sent now → Sender (counted_by z sent) sent now → State now

  -- either way all stations stand by one list of half-cycles and one count
  pub record Alike (now : Moment) : Type 0 where
    pub sent : List ℕ
    pub count : ℕ
    pub stands : (i : ℕ) → i < n → Stands (message i) sent count (station_at now i)

  pub alike : (now : Moment) → State now → Alike now
  alike now (quiet c Q) = record { sent = []; count = c; stands = Q.stations }
  alike now (busy z r sent R F) = record { sent = sent; count = counted_by z sent; stands = R.stations }

  module _ (B : Bench) (now : Moment) (A : Alike now) where
    pub all_ok : (i : ℕ) → i < n → station_ok (station_at now i) ≡ true
    all_ok i l = stands_ok (message i) (B.valid i l) A.sent A.count (station_at now i) (A.stands i l)

  module _ (now : Moment) (draws : List ℕ) (h : ℕ) (t : BenchTurn) (T : Turns n now.stations draws h t) where
    pub keeps : Kept now → Right n message (newest now h t) now.past → Kept (next_moment now t (Ok h))
    keeps K right = record {
      many = T.same ∙ K.many;
      tally = λ i l. omega (arith, ap mark (T.says i l), K.tally i l, empties (movable T i l), ap vacant (T.next i l));
      right = (right, K.right);
    }

    -- where no station says DONE
    pub going_right : ((i : ℕ) → i < n → is_done (turn_at h now.stations draws i).answer ≡ false) → ((newest now h t).event ≡ Repeat → ⊥)
        → ((m : Message) → (newest now h t).event ≡ Gives m → (i : ℕ) × (i < n) × (message i ≡ m)) → event_number (newest now h t).event ≡ 0
        → Right n message (newest now h t) now.past
    going_right none again gives clean = record {
      done = λ i l d. absurd (false≢true (sym (T.says i l ∙ none i l) ∙ d));
      repeats = (λ e. absurd (again e), λ d. absurd (false≢true (sym (T.says d.0 d.1 ∙ none d.0 d.1) ∙ d.2)));
      gives = gives;
      clean = clean;
    }

  -- none sends: all that wait have counted one more
  module _ (B : Bench) (now : Moment) (draws : List ℕ) (t : BenchTurn) (T : Turns n now.stations draws 0 t)
      (c : ℕ) (Q : Quiet c now) where
    settled : (i : ℕ) → i < n
        → Stands (message i) [] (c + 1) (turn_at 0 now.stations draws i).next × (is_done (turn_at 0 now.stations draws i).answer ≡ false)
    settled i l = counts_on (message i) (B.valid i l) c (get_or draws i 0) (T.draw i l) (station_at now i) (T.above i l) (Q.stations i l)

    pub quiet_call : Kept now → Kept (next_moment now t (Ok 0)) × Quiet (c + 1) (next_moment now t (Ok 0))
    quiet_call K =
        let step = rests_step Q.rests in
        let nothing : (newest now 0 t).event ≡ Nothing = ap (λ (x : Heard). x.event) step in (
          keeps now draws 0 t T K
              (going_right now draws 0 t T (λ i l. (settled i l).1) (λ e. let z : ◌≡◌ {A = ℕ} 0 1 = cc in absurd (omega arith))
              (λ m e. let z : ◌≡◌ {A = ℕ} 0 1 = cc in absurd (omega arith)) (ap event_number nothing)),
          record {
            heard = suc Q.heard;
            rests = subst (Rests (suc Q.heard)) (sym (ap (λ (x : Heard). x.next) step)) (rests_next Q.rests);
            near = omega (arith, Q.near);
            stations = λ i l. subst (λ (s : Station). Stands (message i) [] (c + 1) s) (sym (T.next i l)) (settled i l).0;
            bound = λ i l v.
                omega (
                  arith,
                  total_grows n (newest now 0 t) now.past,
                  Q.bound i l (omega (arith, empties (movable T i l), ap vacant (T.next i l))),
                );
            equal = omega (arith, Q.equal, counts_still (newest now 0 t) now.past nothing);
          },
        )
