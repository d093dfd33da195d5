-- What is written is read back: a receiver's thirteen bytes, an event's six; and runs in two parts.
--
--     receivers_read_back, stays_receiver      ReceiversReadBack, StaysReceiver
--     places_read_back                         PlacesReadBack
--     held_valid, held_length, run_valid       bytes that hold a receiver are thirteen, it is valid, and so after any half-cycles
--     events_read_back                         EventsReadBack
--     two_parts                                TwoParts
use Rattle.std.specs.Prelude.{Result, Ok, Err, Option, Some, None}
use mathlib.Core.Logic.{⊎_elim}
use mathlib.Core.Path.{◌≡◌, refl, sym, ap, ap₂, ◌∙◌}
use mathlib.Core.Bool.{Bool, true, false, false≢true, ◌&&◌, ◌||◌, and-eq-true_iff}
use mathlib.Core.List.{List, [], ◌∷◌, ◌++◌}
use Prim.Native.Nat.{ℕ, ◌+◌, ◌*◌, ◌/◌, ◌%◌, ◌^◌, ◌≤◌, ◌<◌}
use native.Mathlib.Decide.{dec_le, ℕ_discrete}
use native.Mathlib.Omega.{arith}
use borrow.Author.Tests.{eq-eqb, ne_eqb, eqb-true, le-leb, lt-leb, leb-true}
use lib.Dec.{eqb, leb}
use lib.ListN.{length, get_or, drop}
use Rattle.ground.specs.Choice.{pick}
use Rattle.ground.specs.Refusals.{judged, number_given}
use Rattle.ground.specs.declared.Refusal.{Refusal}
use Rattle.ground.specs.declared.Refusal.TheVariants as refusal
use Rattle.message.specs.Messages.{message_ok}
use Rattle.message.specs.declared.Message.{Message}
use Rattle.message.specs.declared.Message.TheVariants as m
use Rattle.receiver.specs.Receivers.{fresh_receiver, near, far, waiting_ok, given_ok, receiver_ok}
use Rattle.receiver.specs.Receivers.{event_number, step_of, equal_pair, unsupported_code, broken_number}
use Rattle.receiver.specs.Hearing.{events_of, receiver_after}
use Rattle.receiver.specs.declared.Receiver.{Receiver}
use Rattle.receiver.specs.declared.Event.{Event}
use Rattle.receiver.specs.declared.Event.TheVariants.{Nothing, Message as Gives, Repeat, BrokenPair, BrokenUnsupported, Refused as Stays}
use Rattle.receiver.proofs.ReceiverLaws.{place_ok, valid_parts, place_waits, waits_range, fresh_is_valid, stays_valid, gives_valid, step_number}
use Rattle.wire.specs.Messages.{message_in, kept_from}
use Rattle.receiver.specs.Bytes.{frame_byte, since_byte, target_byte, place_from, from_four, taken_receiver, receiver_with, receiver_in, is_receiver}
use Rattle.receiver.specs.Bytes.{holds_receiver, receiver_bytes, held_causes, receiver_report, put_after, fresh_after}
use Rattle.receiver.specs.Bytes.{event_code, event_bytes, events_by, events_heard, bytes_by}
use Rattle.receiver.specs.Bytes.{bytes_after, ReceiversReadBack, PlacesReadBack, StaysReceiver, EventsReadBack, TwoParts}
use Rattle.wire.proofs.MessageLaws.{messages_read_back, kept_read_back}

-- ---- a receiver

-- a number from its four bytes
four_read_back : (b : ℕ) → from_four (b / 2 ^ 24) (b / 2 ^ 16 % 256) (b / 2 ^ 8 % 256) (b % 256) ≡ b
four_read_back b =
    let second : b / 2 ^ 24 * 256 + b / 2 ^ 16 % 256 ≡ b / 2 ^ 16 = omega arith in
    let third : b / 2 ^ 16 * 256 + b / 2 ^ 8 % 256 ≡ b / 2 ^ 8 = omega arith in
    let lowest : b / 2 ^ 8 * 256 + b % 256 ≡ b = omega arith in
    rw (second, third, lowest)

-- a place from its three bytes
place_read_back : (at bits : ℕ) → place_ok at bits ≡ true → place_from (frame_byte at) (since_byte at) (target_byte at) ≡ at
unfolding place_from
place_read_back at bits t = go (dec_le at 62)
  where
    go : Dec (at ≤ 62) → place_from (frame_byte at) (since_byte at) (target_byte at) ≡ at
    go (yes low) = rw (le-leb at 62 low, le-leb at 62 low) refl
    go (no n) =
        let over : 62 < at = omega arith in
        ⊎_elim
        (λ x. let low : at % 64 ≤ 25 = omega arith in rw (lt-leb at 62 over, le-leb at 127 (omega arith), le-leb (at % 64) 25 low) (omega arith))
        (λ x. let low : at % 128 ≤ 65 = omega arith in rw (lt-leb at 62 over, lt-leb at 127 (omega arith), le-leb (at % 128) 65 low) (omega arith))
        (waits_range at (place_waits at bits t over))

-- and back
module _ (frame since target : ℕ) where
  abbrev Back : ℕ → Type 0
  Back at = (leb at 62 || waiting_ok at) ≡ true → (frame_byte at ≡ frame) × (since_byte at ≡ since) × (target_byte at ≡ target)

  nowhere : Back 255
  nowhere t = absurd (false≢true t)

  none_back : target ≡ 0 → (b : Bool) → (eqb since 0 && leb frame 62) ≡ b → Back (pick b frame 255)
  none_back e true t u =
      let p = (and-eq-true_iff (eqb since 0) (leb frame 62)).0 t in
      let z = eqb-true since 0 p.0 in
      (rw p.1 refl, rw p.1 (sym z), rw p.1 (sym e))
  none_back e false t u = nowhere u

  -- where `at` says k and the place, so do its bytes
  waited_back : (at most : ℕ) (b : Bool) → (eqb frame 0 && leb since most) ≡ b
      → (since ≤ most → (leb at 62 ≡ false) × (since_byte at ≡ since) × (target_byte at ≡ target)) → Back (pick b at 255)
  waited_back at most true t says u =
      let p = (and-eq-true_iff (eqb frame 0) (leb since most)).0 t in
      let bytes = says (leb-true since most p.1) in
      (rw bytes.0 (sym (eqb-true frame 0 p.0)), bytes.1, bytes.2)
  waited_back at most false t says u = nowhere u

  near_says : target ≡ 22 → since ≤ 25 → let at = near since in (leb at 62 ≡ false) × (since_byte at ≡ since) × (target_byte at ≡ target)
  near_says e low =
      let over = lt-leb (near since) 62 (omega arith) in
      let under = le-leb (near since) 127 (omega arith) in
      (over, rw (over, under) (omega arith), rw (over, under) (sym e))

  far_says : target ≡ 62 → since ≤ 65 → let at = far since in (leb at 62 ≡ false) × (since_byte at ≡ since) × (target_byte at ≡ target)
  far_says e low =
      let over = lt-leb (far since) 62 (omega arith) in
      let beyond = lt-leb (far since) 127 (omega arith) in
      (over, rw (over, beyond) (omega arith), rw (over, beyond) (sym e))

  bytes_back : Back (place_from frame since target)
  unfolding place_from
  bytes_back = go (ℕ_discrete target 0) (ℕ_discrete target 22) (ℕ_discrete target 62)
    where
      go : Dec (target ≡ 0) → Dec (target ≡ 22) → Dec (target ≡ 62) → Back (place_from frame since target)
      go (yes e) q s = rw (eq-eqb target 0 e) (none_back e (eqb since 0 && leb frame 62) refl)
      go (no a) (yes e) s = rw (ne_eqb target 0 a, eq-eqb target 22 e) (waited_back (near since) 25 (eqb frame 0 && leb since 25) refl (near_says e))
      go (no a) (no b) (yes e) =
          rw (ne_eqb target 0 a, ne_eqb target 22 b, eq-eqb target 62 e) (waited_back (far since) 65 (eqb frame 0 && leb since 65) refl (far_says e))
      go (no a) (no b) (no c) = rw (ne_eqb target 0 a, ne_eqb target 22 b, ne_eqb target 62 c) nowhere

pub places_read_back : PlacesReadBack
places_read_back = record { place_of-bytes = place_read_back; bytes_of-place = bytes_back }

taken_valid : (r : Receiver) → receiver_ok r ≡ true → taken_receiver r ≡ Ok r
unfolding taken_receiver judged
taken_valid r ok = rw ok

pub receivers_read_back : ReceiversReadBack
unfolding receiver_in receiver_bytes judged
receivers_read_back r ok = go r.given ok (valid_parts r ok).1
  where
    made : ℕ → ℕ → Option Message → Receiver
    made a n g = record { past = r.past; at = a; bits = n; given = g }

    held : Option Message → Receiver
    held g = made r.at r.bits g

    same : (g : Option Message) → receiver_ok (held g) ≡ true
        → taken_receiver (made (place_from (frame_byte r.at) (since_byte r.at) (target_byte r.at))
        (from_four (r.bits / 2 ^ 24) (r.bits / 2 ^ 16 % 256) (r.bits / 2 ^ 8 % 256) (r.bits % 256)) g)
        ≡ Ok (held g)
    same g t =
        ap₂ (λ (a n : ℕ). taken_receiver (made a n g)) (place_read_back r.at r.bits (valid_parts r ok).0) (four_read_back r.bits)
        ∙ taken_valid (held g) t

    go : (g : Option Message) → receiver_ok (held g) ≡ true → given_ok g ≡ true → receiver_in (receiver_bytes (held g)) ≡ Ok (held g)
    go None t v = rw kept_read_back.none (same None t)
    go (Some (m.Address h u)) t v = rw (kept_read_back.message (m.Address h u) v) (same (Some (m.Address h u)) t)
    go (Some (m.Function h f)) t v = rw (kept_read_back.message (m.Function h f) v) (same (Some (m.Function h f)) t)
    go (Some (m.Extended h u d c)) t v = rw (kept_read_back.message (m.Extended h u d c) v) (same (Some (m.Extended h u d c)) t)

-- ---- bytes that hold a receiver

taken_back : (q r : Receiver) → taken_receiver q ≡ Ok r → receiver_ok r ≡ true
unfolding taken_receiver judged
taken_back q r e = go (receiver_ok q) refl e
  where
    go : (b : Bool) → receiver_ok q ≡ b → pick b (Ok q) (Err refusal.State) ≡ Ok r → receiver_ok r ≡ true
    go true t e' = let same : q ≡ r = cc in ap receiver_ok (sym same) ∙ t
    go false t e' = cc

pub held_valid : (s : List ℕ) (r : Receiver) → receiver_in s ≡ Ok r → receiver_ok r ≡ true
unfolding receiver_in judged
held_valid s r e = whole (eqb (length s) 13) (kept_from (get_or s 6 0) (get_or s 7 0) (get_or s 8 0) (get_or s 9 0) (get_or s 10 0)) e
  where
    whole : (b : Bool) (g : Result (Option Message) Refusal) → pick b (receiver_with s g) (Err refusal.State) ≡ Ok r → receiver_ok r ≡ true
    whole true (Ok g) e' = taken_back _ r e'
    whole true (Err why) e' = cc
    whole false g e' = cc

-- bytes that hold none are refused by 6
pub held_refused : (s : List ℕ) {why : Refusal} → receiver_in s ≡ Err why → why ≡ refusal.State
unfolding receiver_in taken_receiver judged
held_refused s {why} e = whole (eqb (length s) 13) (kept_from (get_or s 6 0) (get_or s 7 0) (get_or s 8 0) (get_or s 9 0) (get_or s 10 0)) e
  where
    valid : (q : Receiver) (b : Bool) → pick b (Ok q) (Err refusal.State) ≡ Err why → why ≡ refusal.State
    valid q true e' = cc
    valid q false e' = cc

    whole : (b : Bool) (g : Result (Option Message) Refusal) → pick b (receiver_with s g) (Err refusal.State) ≡ Err why → why ≡ refusal.State
    whole true (Ok g) e' = valid _ (receiver_ok _) e'
    whole true (Err x) e' = cc
    whole false g e' = cc

pub held_number : (s : List ℕ) {o : Result Receiver Refusal} → o ≡ receiver_in s
    → (o ≡ receiver_in s) × ((receiver_report o).number ≡ number_given (held_causes s))
unfolding receiver_in taken_receiver judged
held_number s e = (
  e,
  ap (λ (x : Result Receiver Refusal). (receiver_report x).number) e
      ∙ whole (eqb (length s) 13) (kept_from (get_or s 6 0) (get_or s 7 0) (get_or s 8 0) (get_or s 9 0) (get_or s 10 0)),
)
  where
    number : Result Receiver Refusal → Type 0
    number x = (receiver_report x).number ≡ pick (is_receiver x) 0 6

    valid : (q : Receiver) (b : Bool) → number (pick b (Ok q) (Err refusal.State))
    valid q true = refl
    valid q false = refl

    whole : (b : Bool) (g : Result (Option Message) Refusal) → number (pick b (receiver_with s g) (Err refusal.State))
    whole true (Ok g) = valid _ (receiver_ok _)
    whole true (Err why) = refl
    whole false g = refl

pub held_length : (s : List ℕ) (r : Receiver) → receiver_in s ≡ Ok r → length s ≡ 13
unfolding receiver_in judged
held_length s r e = eqb-true (length s) 13 (go (eqb (length s) 13) _ e)
  where
    go : (b : Bool) (x : Result Receiver Refusal) → pick b x (Err refusal.State) ≡ Ok r → b ≡ true
    go true x e' = refl
    go false x e' = cc

pub run_valid : (r : Receiver) (hs : List ℕ) → receiver_ok r ≡ true → receiver_ok (receiver_after r hs) ≡ true
unfolding receiver_after
run_valid r [] ok = ok
run_valid r (h ∷ hs) ok = run_valid (step_of r h).next hs (stays_valid r h ok)

-- what bytes hold after half-cycles
run_back : (s xs : List ℕ) (r : Receiver) → receiver_in s ≡ Ok r → receiver_in (receiver_bytes (receiver_after r xs)) ≡ Ok (receiver_after r xs)
run_back s xs r e = receivers_read_back (receiver_after r xs) (run_valid r xs (held_valid s r e))

pub stays_receiver : StaysReceiver
unfolding put_after judged bytes_after
stays_receiver = record { fresh = begins; after = λ s hs t. goes s hs (receiver_in s) refl t }
  where
    begins : (s : List ℕ) → length s ≡ 13 → receiver_in (fresh_after s) ≡ Ok fresh_receiver
    begins s thirteen = rw (eq-eqb (length s) 13 thirteen, fresh_is_valid) (receivers_read_back fresh_receiver fresh_is_valid)

    goes : (s hs : List ℕ) (x : Result Receiver Refusal) → receiver_in s ≡ x → is_receiver x ≡ true → holds_receiver (bytes_by x s hs) ≡ true
    goes s hs (Ok r) e t = ap is_receiver (run_back s hs r e)
    goes s hs (Err why) e t = absurd (false≢true t)

-- ---- an event

-- the numbers that a half-cycle may have
abbrev of_step : ℕ → Bool
of_step n = eqb n 0 || (eqb n 5 || (eqb n 6 || (eqb n 10 || eqb n 11)))

step_numbered : (r : Receiver) (h : ℕ) → of_step (event_number (step_of r h).event) ≡ true
unfolding judged broken_number
step_numbered r h = ap of_step (step_number r h) ∙ go (leb h 1) (receiver_ok r) (equal_pair r h) (unsupported_code r)
  where
    go : (a b p q : Bool) → of_step (pick a (pick b (pick p 10 (pick q 11 0)) 6) 5) ≡ true
    go true true true q = refl
    go true true false true = refl
    go true true false false = refl
    go true false p q = refl
    go false b p q = refl

-- the event that six bytes say
abbrev gives : Result Message Refusal → Event
gives (Ok m) = Gives m
gives (Err why) = Nothing

abbrev plain : ℕ → Event
plain n =
    pick (eqb n 2) Repeat
    (pick (eqb n 10) BrokenPair
    (pick (eqb n 11) BrokenUnsupported
    (pick (eqb n 5) (Stays refusal.Half)
    (pick (eqb n 6) (Stays refusal.State)
    Nothing))))

abbrev event_in : List ℕ → Event
event_in bytes = pick (eqb (get_or bytes 0 0) 1) (gives (message_in (drop 1 bytes))) (plain (get_or bytes 0 0))

event_read_back : (e : Event) → of_step (event_number e) ≡ true → ((m : Message) → e ≡ Gives m → message_ok m ≡ true) → event_in (event_bytes e) ≡ e
event_read_back (Gives m) n v = ap gives (messages_read_back.message_of_bytes m (v m refl))
event_read_back Nothing n v = refl
event_read_back Repeat n v = refl
event_read_back BrokenPair n v = refl
event_read_back BrokenUnsupported n v = refl
event_read_back (Stays refusal.Half) n v = refl
event_read_back (Stays refusal.State) n v = refl
event_read_back (Stays refusal.Table) n v = absurd (false≢true n)
event_read_back (Stays refusal.Message) n v = absurd (false≢true n)
event_read_back (Stays refusal.Record) n v = absurd (false≢true n)
event_read_back (Stays refusal.NotCarried) n v = absurd (false≢true n)
event_read_back (Stays refusal.Draw) n v = absurd (false≢true n)
event_read_back (Stays refusal.Busy) n v = absurd (false≢true n)
event_read_back (Stays refusal.Short) n v = absurd (false≢true n)
event_read_back (Stays refusal.RfLength) n v = absurd (false≢true n)
event_read_back (Stays refusal.Complement) n v = absurd (false≢true n)
event_read_back (Stays refusal.Code) n v = absurd (false≢true n)
event_read_back (Stays refusal.Fault) n v = absurd (false≢true n)
event_read_back (Stays refusal.ShutterTable) n v = absurd (false≢true n)
event_read_back (Stays refusal.ShutterRecord) n v = absurd (false≢true n)
event_read_back (Stays refusal.Opening) n v = absurd (false≢true n)
event_read_back (Stays refusal.PacketLength) n v = absurd (false≢true n)
event_read_back (Stays refusal.Check) n v = absurd (false≢true n)
event_read_back (Stays refusal.Network) n v = absurd (false≢true n)
event_read_back (Stays refusal.Payload) n v = absurd (false≢true n)

pub events_read_back : EventsReadBack
events_read_back = record {
  given = λ r h m e. messages_read_back.message_of_bytes m (gives_valid r h m e);
  code_one = λ r h e. one
      (step_of r h).event (step_numbered r h) e;
  one_to_one = λ r q h k e. sym (back r h) ∙ ap event_in e ∙ back q k;
}
  where
    back : (r : Receiver) (h : ℕ) → event_in (event_bytes (step_of r h).event) ≡ (step_of r h).event
    back r h = event_read_back (step_of r h).event (step_numbered r h) (gives_valid r h)

    one : (e : Event) → of_step (event_number e) ≡ true → event_code e ≡ 1 → (m : Message) × (e ≡ Gives m)
    one (Gives m) n c = (m, refl)
    one Nothing n c = absurd (omega arith)
    one Repeat n c = absurd (omega arith)
    one BrokenPair n c = absurd (omega arith)
    one BrokenUnsupported n c = absurd (omega arith)
    one (Stays why) n c = absurd (false≢true (sym (ap of_step c) ∙ n))

-- ---- half-cycles in two parts

pub events_append : (r : Receiver) (xs ys : List ℕ) → events_of r (xs ++ ys) ≡ events_of r xs ++ events_of (receiver_after r xs) ys
unfolding events_of receiver_after
events_append r [] ys = refl
events_append r (x ∷ xs) ys = ap (λ (es : List Event). (step_of r x).event ∷ es) (events_append (step_of r x).next xs ys)

pub after-append : (r : Receiver) (xs ys : List ℕ) → receiver_after r (xs ++ ys) ≡ receiver_after (receiver_after r xs) ys
unfolding receiver_after
after-append r [] ys = refl
after-append r (x ∷ xs) ys = after-append (step_of r x).next xs ys

pub two_parts : TwoParts
unfolding events_heard bytes_after
two_parts = record { events = λ s xs ys. heard s xs ys (receiver_in s) refl; state = λ s xs ys. left s xs ys (receiver_in s) refl }
  where
    heard : (s xs ys : List ℕ) (x : Result Receiver Refusal) → receiver_in s ≡ x
        → events_by x (xs ++ ys) ≡ events_by x xs ++ events_by (receiver_in (bytes_by x s xs)) ys
    heard s xs ys (Ok r) e = events_append r xs ys ∙ ap (λ (z : Result Receiver Refusal). events_of r xs ++ events_by z ys) (sym (run_back s xs r e))
    heard s xs ys (Err why) e = ap (λ (z : Result Receiver Refusal). events_by z ys) (sym e)

    left : (s xs ys : List ℕ) (x : Result Receiver Refusal) → receiver_in s ≡ x
        → bytes_by x s (xs ++ ys) ≡ bytes_by (receiver_in (bytes_by x s xs)) (bytes_by x s xs) ys
    left s xs ys (Ok r) e =
        ap receiver_bytes (after-append r xs ys)
        ∙ ap (λ (z : Result Receiver Refusal). bytes_by z (receiver_bytes (receiver_after r xs)) ys) (sym (run_back s xs r e))
    left s xs ys (Err why) e = ap (λ (z : Result Receiver Refusal). bytes_by z s ys) (sym e)
