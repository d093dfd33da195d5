-- Laws of a run up to the first MESSAGE.
--
--     to_split, to_most, to_some      it takes no more half-cycles than there are, and one if there is any
--     Toward                     what is still to come of it from a place on
--     stretch_end, turn_given, turn_on     no half-cycle is left; one turn, in which a message is given, or none
--     events_on, rest_on         the receiver, and the events, of what is left after it
--     Owed, stretch_short, stretch_done     what the routine owes at each return
--     stretch_told               what its caller learns
use Rattle.std.specs.Prelude.{Ok, Err, Option, Some, None}
use mathlib.Core.Path.{◌≡◌, refl, sym, ap, ap₂, subst, ◌∙◌}
use mathlib.Core.Bool.{true}
use mathlib.Core.List.{List, [], ◌∷◌, ◌++◌, flat_map, append-nil}
use Prim.Native.Nat.{ℕ, ◌+◌, ◌*◌, ◌≤◌, ◌<◌}
use native.Mathlib.Numerals.{add-one}
use native.Mathlib.Omega.{arith}
use borrow.Author.Tests.{le-leb, lt-leb}
use lib.ListN.{length, get_or, drop, drop_of_length-le, length-append}
use lib.Seq.{sets, length-sets, drop-cons, drop-drop}
use Rattle.ground.specs.Refusals.{judged, reports, refuses, count_report}
use Rattle.ground.specs.declared.Refusal.TheVariants as refusal
use Rattle.ground.proofs.Lists.{sets-append, flat_append}
use Rattle.message.specs.declared.Message.{Message}
use Rattle.receiver.specs.Receivers.{receiver_ok, step_of}
use Rattle.receiver.specs.Hearing.{events_of, receiver_after, given_by, first_given, else_more, to_given}
use Rattle.receiver.specs.declared.Receiver.{Receiver}
use Rattle.receiver.specs.declared.Heard.{Heard}
use Rattle.receiver.specs.Bytes.{event_bytes, stretch_causes, stretch_of, stretch_events}
use Rattle.receiver.specs.declared.lent.Stretch.{Stretch}
use Rattle.receiver.proofs.ReadBack.{events_append, after-append}
use Rattle.receiver.proofs.RunLaws.{event_length, events_length}

-- ---- what half-cycles are taken

pub to_split : (r : Receiver) (hs : List ℕ) → hs ≡ to_given r hs ++ drop (length (to_given r hs)) hs
unfolding to_given
to_split r [] = refl
to_split r (h ∷ hs) =
    ap (λ (l : List ℕ). h ∷ l) (go hs (to_given (step_of r h).next hs) (given_by (step_of r h).event) (to_split (step_of r h).next hs))
  where
    go : (l more : List ℕ) (g : Option Message) → l ≡ more ++ drop (length more) l → l ≡ else_more g more ++ drop (length (else_more g more)) l
    go l more None e = e
    go l more (Some m) e = refl

pub to_most : (r : Receiver) (hs : List ℕ) → length (to_given r hs) ≤ length hs
to_most r hs =
    let t = to_given r hs in
    let whole : length hs ≡ length t + length (drop (length t) hs) = ap length (to_split r hs) ∙ length-append t (drop (length t) hs) in
    omega (arith, whole)

pub to_some : (r : Receiver) (hs : List ℕ) → 0 < length hs → 0 < length (to_given r hs)
unfolding to_given
to_some r [] some = some
to_some r (h ∷ hs) some = omega arith

-- ---- one turn, at place i

-- what is still to come of a stretch: where it ends, with which receiver and message, and what then stands in the buffer of events
pub record Toward (hs : List ℕ) (r : Receiver) (i : ℕ) (evs : List ℕ) (at : ℕ) (next : Receiver) (given : Option Message) (after : List ℕ) : Type 0 where
  pub place : at ≡ i + length (to_given r (drop i hs))
  pub receiver : next ≡ receiver_after r (to_given r (drop i hs))
  pub message : given ≡ first_given r (drop i hs)
  pub events : after ≡ sets evs (6 * i) (flat_map event_bytes (events_of r (to_given r (drop i hs))))

module _ (hs : List ℕ) (r : Receiver) (i : ℕ) (evs : List ℕ) where
  pub stretch_end : length hs ≤ i → Toward hs r i evs i r None evs
  unfolding to_given first_given receiver_after events_of flat_map
  stretch_end none =
      let e : drop i hs ≡ [] = drop_of_length-le hs none in
      record { place = rw e (omega arith); receiver = rw e refl; message = rw e refl; events = rw e refl }

  module _ (more : i < length hs) where
    at_i : drop i hs ≡ get_or hs i 0 ∷ drop (i + 1) hs
    at_i = drop-cons hs i 0 more ∙ ap (λ (n : ℕ). get_or hs i 0 ∷ drop n hs) (sym (add-one i))

    pub stretch_given : (m : Message) → given_by (step_of r (get_or hs i 0)).event ≡ Some m
        → Toward hs r i evs (i + 1) (step_of r (get_or hs i 0)).next (Some m) (sets evs (6 * i) (event_bytes (step_of r (get_or hs i 0)).event))
    unfolding to_given first_given receiver_after events_of flat_map
    stretch_given m e =
        let one : to_given r (drop i hs) ≡ get_or hs i 0 ∷ [] = rw (at_i, e) refl in
        record {
          place = rw one refl;
          receiver = rw one refl;
          message = rw (at_i, e) refl;
          events = rw one (ap (sets evs (6 * i)) (sym (append-nil
              (event_bytes (step_of r (get_or hs i 0)).event))));
        }

    pub stretch_on : given_by (step_of r (get_or hs i 0)).event ≡ None → (at : ℕ) (next : Receiver) (given : Option Message) (after : List ℕ)
        → Toward hs (step_of r (get_or hs i 0)).next (i + 1) (sets evs (6 * i) (event_bytes (step_of r (get_or hs i 0)).event)) at next given after
        → Toward hs r i evs at next given after
    unfolding to_given first_given receiver_after events_of flat_map
    stretch_on e at next given after t =
        let event = (step_of r (get_or hs i 0)).event in
        let rest : List ℕ = to_given (step_of r (get_or hs i 0)).next (drop (i + 1) hs) in
        let to : to_given r (drop i hs) ≡ get_or hs i 0 ∷ rest = rw (at_i, e) refl in
        let bytes : List ℕ = flat_map event_bytes (events_of (step_of r (get_or hs i 0)).next rest) in
        let on : 6 * (i + 1) ≡ 6 * i + length (event_bytes event) = omega (arith, event_length event) in
        record {
          place = t.place ∙ rw to (omega arith);
          receiver = t.receiver ∙ rw to refl;
          message = t.message ∙ rw (at_i, e) refl;
          events = t.events ∙ ap (λ (n : ℕ). sets (sets evs (6 * i) (event_bytes event)) n bytes) on ∙ sym (sets-append evs (6 * i) (event_bytes event) bytes)
              ∙ rw to refl;
        }

    -- the same of a turn as it was taken
    module _ (o : Heard) (evs' : List ℕ) (stepped : o ≡ step_of r (get_or hs i 0)) (put : evs' ≡ sets evs (6 * i) (event_bytes o.event)) where
      pub turn_given : (m : Message) → given_by o.event ≡ Some m → Toward hs r i evs (i + 1) o.next (Some m) evs'
      turn_given m e =
          subst (λ (l : List ℕ). Toward hs r i evs (i + 1) o.next (Some m) l) (sym put)
          (subst (λ (x : Heard). Toward hs r i evs (i + 1) x.next (Some m) (sets evs (6 * i) (event_bytes x.event))) (sym stepped)
          (stretch_given m (ap (λ (x : Heard). given_by x.event) (sym stepped) ∙ e)))

      pub turn_on : given_by o.event ≡ None → (at : ℕ) (next : Receiver) (given : Option Message) (after : List ℕ)
          → Toward hs o.next (i + 1) evs' at next given after → Toward hs r i evs at next given after
      turn_on e at next given after t =
          stretch_on (ap (λ (x : Heard). given_by x.event) (sym stepped) ∙ e) at next given after
          (subst (λ (x : Heard). Toward hs x.next (i + 1) (sets evs (6 * i) (event_bytes x.event)) at next given after) stepped
          (subst (λ (l : List ℕ). Toward hs o.next (i + 1) l at next given after) put t))

-- ---- what is left after it

module _ (hs : List ℕ) (r : Receiver) (i : ℕ) (evs : List ℕ) (at : ℕ) (next : Receiver) (given : Option Message) (after : List ℕ)
    (t : Toward hs r i evs at next given after) where
  to : List ℕ
  to = to_given r (drop i hs)

  left : drop i hs ≡ to ++ drop at hs
  unfolding to
  left = to_split r (drop i hs) ∙ ap (λ (l : List ℕ). to ++ l) (drop-drop (length to) i hs ∙ ap (λ (n : ℕ). drop n hs) (sym t.place))

  pub events_on : events_of r (drop i hs) ≡ events_of r (to_given r (drop i hs)) ++ events_of next (drop at hs)
  unfolding to
  events_on = ap (events_of r) left ∙ events_append r to (drop at hs) ∙ ap (λ (q : Receiver). events_of r to ++ events_of q (drop at hs)) (sym t.receiver)

  -- the receiver after all half-cycles from place i on, and their events in the buffer, by those of the half-cycles after the stretch
  pub rest_on : (length after ≡ length evs)
      × (receiver_after next (drop at hs) ≡ receiver_after r (drop i hs))
      × (sets after (6 * at) (flat_map event_bytes (events_of next (drop at hs))) ≡ sets evs (6 * i) (flat_map event_bytes (events_of r (drop i hs))))
  unfolding to
  rest_on =
      let first : List ℕ = flat_map event_bytes (events_of r to) in
      let later : List ℕ = flat_map event_bytes (events_of next (drop at hs)) in
      let place : 6 * at ≡ 6 * i + length first = omega (arith, t.place, events_length r to) in (
        ap length t.events ∙ length-sets evs (6 * i) first,
        sym (ap (receiver_after r) left ∙ after-append r to (drop at hs) ∙ ap (λ (q : Receiver). receiver_after q (drop at hs)) (sym t.receiver)),
        ap₂ (λ (l : List ℕ) (n : ℕ). sets l n later) t.events place
            ∙ sym (sets-append evs (6 * i) first later)
            ∙ ap (sets evs (6 * i)) (sym (ap (flat_map event_bytes) events_on ∙ flat_append event_bytes (events_of r to) (events_of next (drop at hs)))),
      )

-- ---- what the routine owes at each return: its answer, what that reports, and the buffer of events

module _ (hs : List ℕ) (r : Receiver) (i : ℕ) (evs : List ℕ) where
  abbrev pub Owed : Stretch → List ℕ → Type 0
  Owed o after =
      (o ≡ stretch_of r hs i (length evs))
      × ((count_report o.answer ≡ judged (stretch_causes r hs (length evs)) (reports ((i + length (to_given r (drop i hs))) ∷ [])) refuses)
      × (after ≡ stretch_events r hs i evs))

  module _ (ok : receiver_ok r ≡ true) where
    pub stretch_short : length evs < 6 * length hs → Owed (record { answer = Err refusal.Short; next = r; given = None }) evs
    unfolding stretch_of stretch_events judged
    stretch_short less = let t = lt-leb (6 * length hs) (length evs) less in (rw (ok, t), (rw (ok, t), rw (ok, t)))

    pub stretch_done : (at : ℕ) (next : Receiver) (given : Option Message) (after : List ℕ) → 6 * length hs ≤ length evs → Toward hs r i evs at next given after
        → Owed (record { answer = Ok at; next = next; given = given }) after
    unfolding stretch_of stretch_events judged
    stretch_done at next given after room t =
        let b = le-leb (6 * length hs) (length evs) room in
        (rw (ok, b, t.place, t.receiver, t.message), (rw (ok, b, t.place), rw (ok, b) t.events))

    -- and what a caller learns of one that is not refused
    pub stretch_told : (o : Stretch) (after : List ℕ) → 6 * length hs ≤ length evs → o ≡ stretch_of r hs i (length evs) → after ≡ stretch_events r hs i evs
        → (o.answer ≡ Ok (i + length (to_given r (drop i hs))))
        × Toward hs r i evs (i + length (to_given r (drop i hs))) o.next o.given after
    unfolding stretch_of stretch_events judged
    stretch_told o after room e f =
        let b = le-leb (6 * length hs) (length evs) room in
        let done : o ≡ record {
          answer = Ok (i + length (to_given r (drop i hs)));
          next = receiver_after r (to_given r
              (drop i hs));
          given = first_given r (drop i hs);
        } = rw (ok, b) at e in
        let put : after ≡ sets evs (6 * i) (flat_map event_bytes (events_of r (to_given r (drop i hs)))) = rw (ok, b) at f in (
          ap (λ (x : Stretch). x.answer) done,
          record { place = refl; receiver = ap (λ (x : Stretch). x.next) done; message = ap (λ (x : Stretch). x.given) done; events = put },
        )
