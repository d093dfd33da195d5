-- What the receiver says while a burst is on the line, by the half-cycles sent so far.
--
--     end_repeats, gives_this, says_cleanly     what is said at a place of a burst
--     part_next, part_events, part_event        one half-cycle more
--     sent_and_heard                            a burst that is whole, looked back on
use mathlib.Core.Path.{◌≡◌, refl, sym, ap, ap₂, ◌∙◌}
use mathlib.Core.Bool.{Bool, true, false}
use mathlib.Core.List.{List, [], ◌∷◌, ◌++◌, reverse, reverse_aux, reverse_aux-eq}
use Prim.Native.Nat.{ℕ, suc}
use native.Mathlib.Omega.{arith}
use borrow.Author.Tests.{eq-eqb, ne_eqb}
use lib.Dec.{eqb}
use lib.ListN.{length, get_or, take, length-reverse}
use lib.Seq.{take_at}
use Rattle.ground.specs.Choice.{pick}
use Rattle.message.specs.Messages.{message_ok}
use Rattle.message.specs.declared.Message.{Message}
use Rattle.message.specs.declared.Message.TheVariants.{Address, Function as Command, Extended}
use Rattle.burst.specs.Frames.{frame_length, burst_of, burst_length}
use Rattle.burst.proofs.FrameLaws.{burst_length_lem}
use Rattle.receiver.specs.Receivers.{event_number, step_of}
use Rattle.receiver.specs.Hearing.{events_of, receiver_after}
use Rattle.receiver.specs.declared.Heard.{Heard}
use Rattle.receiver.specs.declared.Receiver.{Receiver}
use Rattle.receiver.specs.declared.Event.{Event}
use Rattle.receiver.specs.declared.Event.TheVariants.{Nothing, Message as Gives, Repeat}
use Rattle.receiver_laws.specs.Whole.{Ready, frame_events, burst_events}
use Rattle.receiver_laws.proofs.Runs.{events_append, after-append}
use Rattle.receiver_laws.proofs.Whole.{hears_burst}
use Rattle.receiver_laws.proofs.Standing.{stands_at, event_at, stands_step}
use Rattle.bench_run.specs.Calls.{Answered, lines_of, events_in}
use Rattle.bench_laws.specs.Demand3.{SentAndHeard}
use Rattle.bench_laws.proofs.BurstLaws.{burst_some}
use Rattle.bench_laws.proofs.StationStates.{Follows}

-- ---- at a place of a burst

module _ (m : Message) (k : ℕ) where
  pub end_repeats : suc k ≡ burst_length m → event_at m k ≡ Repeat
  unfolding event_at
  end_repeats e = rw (ne_eqb (suc k) (frame_length m) (λ p. omega (arith, burst_some m)), eq-eqb (suc k) (burst_length m) e)

  pub gives_this : (g : Message) → event_at m k ≡ Gives g → m ≡ g
  unfolding event_at
  gives_this g e = go (eqb (suc k) (frame_length m)) (eqb (suc k) (burst_length m)) e
    where
      go : (s t : Bool) → pick s (Gives m) (pick t Repeat Nothing) ≡ Gives g → m ≡ g
      go true t q = cc
      go false true q = cc
      go false false q = cc

  pub says_cleanly : event_number (event_at m k) ≡ 0
  unfolding event_at
  says_cleanly = go (eqb (suc k) (frame_length m)) (eqb (suc k) (burst_length m))
    where
      go : (s t : Bool) → event_number (pick s (Gives m) (pick t Repeat Nothing)) ≡ 0
      go true t = refl
      go false true = refl
      go false false = refl

-- ---- one half-cycle more

pub part_next : (r : Receiver) (sent : List ℕ) (h : ℕ) → receiver_after r (sent ++ h ∷ []) ≡ (step_of (receiver_after r sent) h).next
unfolding receiver_after
part_next r sent h = after-append r sent (h ∷ [])

pub part_events : (r : Receiver) (sent : List ℕ) (h : ℕ) → events_of r (sent ++ h ∷ []) ≡ events_of r sent ++ (step_of (receiver_after r sent) h).event ∷ []
unfolding events_of
part_events r sent h = events_append r sent (h ∷ [])

module _ (m : Message) (valid : message_ok m ≡ true) (r : Receiver) (ready : Ready r) where
  pub part_event : (sent : List ℕ) (h : ℕ) → Follows m sent → get_or (burst_of m) (length sent) 0 ≡ h
      → (step_of (receiver_after r sent) h).event ≡ event_at m (length sent)
  unfolding stands_at
  part_event sent h f e =
      ap₂ (λ (hs : List ℕ) (h : ℕ). (step_of (receiver_after r hs) h).event) (sym f.front) (sym e)
      ∙ ap (λ (x : Heard). x.event) (stands_step m valid r ready (length sent) (omega (arith, burst_length_lem m, f.more)))

-- ---- the whole burst, newest first

-- one event for each half-cycle
events_length : (m : Message) → length (burst_events m) ≡ burst_length m
unfolding burst_events frame_events
events_length (Address h u) = refl
events_length (Command h f) = refl
events_length (Extended h u d c) = refl

module _ (past before : List Answered) where
  lines_back : (m : Message) → lines_of past ≡ reverse_aux (burst_of m) (lines_of before) → take (burst_length m) (lines_of past) ≡ reverse (burst_of m)
  lines_back m lines =
      ap (take (burst_length m)) (lines ∙ reverse_aux-eq (burst_of m) (lines_of before))
      ∙ take_at (reverse (burst_of m)) (lines_of before) (burst_length m) (length-reverse (burst_of m) ∙ burst_length_lem m)

  events_back : (m : Message) → events_in past ≡ reverse_aux (burst_events m) (events_in before)
      → take (burst_length m) (events_in past) ≡ reverse (burst_events m)
  events_back m events =
      ap (take (burst_length m)) (events ∙ reverse_aux-eq (burst_events m) (events_in before))
      ∙ take_at (reverse (burst_events m)) (events_in before) (burst_length m) (length-reverse (burst_events m) ∙ events_length m)

  looked_back : (m : Message) → lines_of past ≡ reverse_aux (burst_of m) (lines_of before) → events_in past ≡ reverse_aux (burst_events m) (events_in before)
      → SentAndHeard m past
  unfolding burst_events frame_events
  looked_back m lines events = record {
    sent = lines_back m lines;
    gave = gave m events;
    repeated = repeated m events;
    one = events_back m events;
  }
    where
      gave : (m : Message) → events_in past ≡ reverse_aux (burst_events m) (events_in before) → get_or (events_in past) (frame_length m) Nothing ≡ Gives m
      gave (Address h u) e = rw e refl
      gave (Command h f) e = rw e refl
      gave (Extended h u d c) e = rw e refl

      repeated : (m : Message) → events_in past ≡ reverse_aux (burst_events m) (events_in before) → get_or (events_in past) 0 Nothing ≡ Repeat
      repeated (Address h u) e = rw e refl
      repeated (Command h f) e = rw e refl
      repeated (Extended h u d c) e = rw e refl

  pub sent_and_heard : (m : Message) → message_ok m ≡ true → (r : Receiver) → Ready r
      → lines_of past ≡ reverse_aux (burst_of m) (lines_of before) → events_in past ≡ reverse_aux (events_of r (burst_of m)) (events_in before) → SentAndHeard m past
  sent_and_heard m valid r ready lines events =
      looked_back m lines (events ∙ ap (λ (es : List Event). reverse_aux es (events_in before)) (hears_burst m valid r ready).events)
