-- Laws of lent bytes that a receiver and its events are put into.
--
--     receiver_placed                      a receiver's thirteen bytes
--     coded                                a code, and five bytes behind it
--     event_length, events_length          six bytes for each event
--     Received, refused, short, done       what a run in lent bytes owes at each return
--     runs_lowest                          RunsLowest
--     heard_length                         one event for each half-cycle
use Rattle.std.specs.Prelude.{Result, Ok, Err}
use mathlib.Core.Path.{◌≡◌, refl, sym, ap, ap₂, ◌∙◌}
use mathlib.Core.Bool.{true, false≢true}
use mathlib.Core.List.{List, [], ◌∷◌, ◌++◌, flat_map}
use Prim.Native.Nat.{ℕ, suc, ◌+◌, ◌*◌, ◌/◌, ◌%◌, ◌^◌, ◌≤◌, ◌<◌}
use native.Mathlib.Numerals.{add-one}
use native.Mathlib.Omega.{arith}
use borrow.Author.Tests.{le-leb, lt-leb}
use lib.ListN.{length, set, drop, length-set}
use lib.Seq.{sets, length-sets}
use Rattle.ground.specs.Refusals.{judged, reports, refuses, count_report}
use Rattle.ground.specs.declared.Refusal.{Refusal}
use Rattle.ground.specs.declared.Refusal.TheVariants as refusal
use Rattle.ground.proofs.Causes.{lowest_given}
use Rattle.ground.proofs.Lists.{sets-whole, sets-front, flat_length}
use Rattle.receiver.specs.Receivers.{step_of}
use Rattle.receiver.specs.Hearing.{events_of, receiver_after}
use Rattle.receiver.specs.declared.Receiver.{Receiver}
use Rattle.receiver.specs.declared.Event.{Event}
use Rattle.receiver.specs.declared.Event.TheVariants.{Nothing, Message as Gives, Repeat, BrokenPair, BrokenUnsupported, Refused as Stays}
use Rattle.wire.specs.Messages.{listed}
use Rattle.wire.specs.declared.Five.{Five}
use Rattle.wire.proofs.MessageLaws.{message_length}
use Rattle.receiver.specs.Bytes.{frame_byte, since_byte, target_byte, receiver_in, is_receiver, holds_receiver, events_by, given_bytes, receiver_bytes, event_bytes}
use Rattle.receiver.specs.Bytes.{events_heard, bytes_after, receive_causes, receive_answer, state_after, events_after, RunsLowest, put_causes, stretch_causes}

-- ---- bytes put one by one

pub receiver_placed : (r : Receiver) (f : Five) (s : List ℕ) (x y z : ℕ) → length s ≡ 13 → listed f ≡ given_bytes r.given
    → x ≡ frame_byte r.at → y ≡ since_byte r.at → z ≡ target_byte r.at
    → sets s 0 (r.past ∷ x ∷ (r.bits / 2 ^ 24) ∷ (r.bits / 2 ^ 16 % 256) ∷ (r.bits / 2 ^ 8 % 256) ∷ (r.bits % 256) ∷ (listed f ++ y ∷ z ∷ []))
    ≡ receiver_bytes r
unfolding receiver_bytes
receiver_placed r f s x y z thirteen e frame since target =
    let four : List ℕ → List ℕ = λ rest. (r.bits / 2 ^ 24) ∷ (r.bits / 2 ^ 16 % 256) ∷ (r.bits / 2 ^ 8 % 256) ∷ (r.bits % 256) ∷ rest in
    let last : List ℕ = y ∷ z ∷ [] in
    sets-whole (r.past ∷ x ∷ four (listed f ++ last)) s (sym thirteen)
    ∙ ap₂ (λ (at : ℕ) (five : List ℕ). r.past ∷ at ∷ four (five ++ last)) frame e
    ∙ ap₂ (λ (k place : ℕ). r.past ∷ frame_byte r.at ∷ four (given_bytes r.given ++ k ∷ place ∷ [])) since target

-- a code is stored, and then five bytes behind it
pub coded : (evs after : List ℕ) (at code : ℕ) (five bytes : List ℕ) → five ≡ bytes → after ≡ sets (set evs at code) (at + 1) five
    → (length after ≡ length evs) × (after ≡ sets evs at (code ∷ bytes))
coded evs after at code five bytes e f = (
  ap length f ∙ length-sets (set evs at code) (at + 1) five ∙ length-set evs at code,
  f ∙ ap₂ (λ (n : ℕ) (b : List ℕ). sets (set evs at code) n b) (add-one at) e,
)

-- ---- six bytes for each event

pub event_length : (e : Event) → length (event_bytes e) ≡ 6
event_length Nothing = refl
event_length (Gives m) = ap suc (message_length m)
event_length Repeat = refl
event_length BrokenPair = refl
event_length BrokenUnsupported = refl
event_length (Stays why) = refl

-- ---- one event for each half-cycle

one_each : (r : Receiver) (hs : List ℕ) → length (events_of r hs) ≡ length hs
unfolding events_of
one_each r [] = refl
one_each r (h ∷ hs) = ap suc (one_each (step_of r h).next hs)

pub events_length : (r : Receiver) (hs : List ℕ) → length (flat_map event_bytes (events_of r hs)) ≡ 6 * length hs
events_length r hs = flat_length event_bytes 6 (events_of r hs) event_length ∙ ap (λ (n : ℕ). 6 * n) (one_each r hs)

pub heard_length : (state halves : List ℕ) → holds_receiver state ≡ true → length (events_heard state halves) ≡ length halves
unfolding events_heard
heard_length state halves t = go (receiver_in state) t
  where
    go : (x : Result Receiver Refusal) → is_receiver x ≡ true → length (events_by x halves) ≡ length halves
    go (Ok r) t' = one_each r halves
    go (Err why) t' = absurd (false≢true t')

events_placed : (r : Receiver) (hs evs : List ℕ) → 6 * length hs ≤ length evs
    → sets evs 0 (flat_map event_bytes (events_of r hs)) ≡ flat_map event_bytes (events_of r hs) ++ drop (6 * length hs) evs
events_placed r hs evs room =
    let all = flat_map event_bytes (events_of r hs) in
    let long = events_length r hs in
    sets-front all evs (omega arith) ∙ ap (λ (k : ℕ). all ++ drop k evs) long

-- ---- what a run in lent bytes owes at each return: its answer, what that reports, the receiver's bytes and the buffer of events

module _ (s hs evs : List ℕ) where
  abbrev pub Received : Result ℕ Refusal → List ℕ → List ℕ → Type 0
  Received o s' evs' =
      (o ≡ receive_answer s hs (length evs))
      × ((count_report o ≡ judged (receive_causes s hs (length evs)) (reports (length hs ∷ [])) refuses)
      × ((s' ≡ state_after s hs (length evs))
      × (evs' ≡ events_after s hs evs)))

  pub refused : (why : Refusal) → receiver_in s ≡ Err why → Received (Err refusal.State) s evs
  unfolding receive_answer state_after events_after judged
  refused why e = (rw e, (rw e, (rw e, rw e)))

  module _ (r : Receiver) (is : receiver_in s ≡ Ok r) where
    pub short : length evs < 6 * length hs → Received (Err refusal.Short) s evs
    unfolding receive_answer state_after events_after judged
    short less = let t = lt-leb (6 * length hs) (length evs) less in (rw (is, t), (rw (is, t), (rw (is, t), rw (is, t))))

    pub done : (next : Receiver) (s' evs' : List ℕ) → 6 * length hs ≤ length evs
        → (next ≡ receiver_after r hs) × (evs' ≡ sets evs 0 (flat_map event_bytes (events_of r hs))) → s' ≡ receiver_bytes next
        → Received (Ok (length hs)) s' evs'
    unfolding receive_answer state_after events_after judged events_heard bytes_after
    done next s' evs' room ran put =
        let t = le-leb (6 * length hs) (length evs) room in
        (rw (is, t), (rw (is, t), (rw (is, t) (put ∙ ap receiver_bytes ran.0), rw (is, t) (ran.1 ∙ events_placed r hs evs room))))

pub runs_lowest : RunsLowest
runs_lowest = record {
  put = λ r state. lowest_given (put_causes r state) refl;
  receive = λ state halves room. lowest_given (receive_causes state halves room) refl;
  to_message = λ r halves room. lowest_given (stretch_causes r halves room) refl;
}
