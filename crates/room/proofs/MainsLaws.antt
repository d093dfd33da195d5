-- Laws of the mains route.
--
--     room-append, answers_append, answers_length  events one after the other, in two parts
--     given_valid                                  a message given leaves a valid room valid
--     part_put, nought_put, answer_put             a part of a buffer written: bytes of 0, an answer
--     stretch_put                                  the answers to a stretch
--     stretch_room, stretch_answers_lem            what the events of a stretch make of the room, and their answers
--     quiet                                        half-cycles that give no message
--     remains_end                                  nothing is left to take
--     remains_valid, remains_ok                    a valid room stays so, and so does a receiver
--     given_some, remains_quiet                    a message is given, or none
--     Turn, Turned, turn                           one turn: a stretch is taken, and its message applied
--     route_done, route_owed                       what the route leaves and owes where nothing is refused
--     route_faulty, route_stopped                  what it owes where the room is refused, or what else is lent
--     put_held                                     the receiver put back
--     mains_order                                  MainsOrder
use Rattle.std.specs.Prelude.{Result, Ok, Err, Option, Some, None, ⊤}
use mathlib.Core.Path.{◌≡◌, refl, sym, ap, ap₂, subst, ◌∙◌}
use mathlib.Core.Bool.{true, false, false≢true}
use mathlib.Core.List.{List, [], ◌∷◌, ◌++◌, append_assoc, append-nil, flat_map}
use Prim.Native.Nat.{ℕ, zero, suc, ◌+◌, ◌-◌, ◌*◌, ◌≤◌, ◌<◌}
use native.Mathlib.Nat.{zero-add, suc-add}
use native.Mathlib.Omega.{arith}
use borrow.Author.Tests.{eq-eqb, le-leb}
use lib.ListN.{length, take, drop, replicate, length-replicate, length-append, length-drop, drop_of_length-le}
use lib.Seq.{sets, sets-eq, length-sets, drop-drop}
use borrow.Rule.Slice.PartMut.{put_mid}
use Rattle.std.specs.Int.{w64, to_le_bytes}
use Rattle.ground.specs.Refusals.{judged, reports, refuses}
use Rattle.ground.specs.declared.Refusal.{Refusal}
use Rattle.ground.proofs.Causes.{refused_told}
use Rattle.ground.proofs.Lists.{sets-append, sets-front}
use Rattle.receiver.specs.Receivers.{receiver_ok, step_of}
use Rattle.receiver.specs.Hearing.{events_of, receiver_after, given_by, else_given, first_given, else_more, to_given}
use Rattle.receiver.specs.Bytes.{receiver_in, holds_receiver, receiver_bytes, event_bytes, events_heard, bytes_after, put_after, stretch_of, stretch_events}
use Rattle.receiver.specs.declared.Receiver.{Receiver}
use Rattle.receiver.specs.declared.Event.{Event}
use Rattle.receiver.specs.declared.lent.Stretch.{Stretch}
use Rattle.receiver.proofs.ReadBack.{run_valid, held_length}
use Rattle.receiver.proofs.RunLaws.{events_length}
use Rattle.receiver.proofs.Stretches.{Toward, to_most, to_some, events_on, rest_on, stretch_told}
use Rattle.room.specs.Rooms.{Room, room_ok, changes, room_report}
use Rattle.std.specs.Option.{is_some}
use Rattle.std.specs.Result.{result_unwrap_or}
use Rattle.room.specs.Lent.{room_verdict, stretch_answers, Prepared, Remains, remains, remains_by}
use Rattle.room.specs.Mains.{room_given, answer_given, answer_bytes, room_heard, answers_heard, Lending}
use Rattle.room.specs.Mains.{lent_to, lent_causes, mains_causes, mains_room, mains_answer, mains_report, mains_after}
use Rattle.room.specs.Mains.{mains_lent, lent_after}
use Rattle.room.specs.Statements.{MainsOrder}
use Rattle.room.proofs.ApplyLaws.{valid_parts, valid_stays, by_verdict}
use Rattle.room.specs.declared.Changes.{Changes}
use Rattle.message.specs.declared.Message.{Message}

-- ---- events one after the other

pub room-append : (es fs : List Event) (room : Room) → room_heard (es ++ fs) room ≡ room_heard fs (room_heard es room)
unfolding room_heard
room-append [] fs room = refl
room-append (e ∷ es) fs room = room-append es fs (room_given (given_by e) room)

pub answers_append : (es fs : List Event) (room : Room) → answers_heard (es ++ fs) room ≡ answers_heard es room ++ answers_heard fs (room_heard es room)
unfolding answers_heard room_heard
answers_append [] fs room = refl
answers_append (e ∷ es) fs room =
    let bytes = answer_bytes (answer_given (given_by e) room) in
    let next = room_given (given_by e) room in
    ap (λ (x : List ℕ). bytes ++ x) (answers_append es fs next) ∙ sym (append_assoc bytes (answers_heard es next) (answers_heard fs (room_heard es next)))

pub answers_length : (r : Receiver) (hs : List ℕ) (room : Room) → length (answers_heard (events_of r hs) room) ≡ 8 * length hs
unfolding answers_heard events_of
answers_length r [] room = refl
answers_length r (h ∷ hs) room =
    let s = step_of r h in
    let next = room_given (given_by s.event) room in
    let a : List ℕ = answer_bytes (answer_given (given_by s.event) room) in
    let eight : length a ≡ 8 = refl in
    length-append a (answers_heard (events_of s.next hs) next) ∙ omega (arith, eight, answers_length s.next hs next)

pub given_valid : (g : Option Message) (room : Room) → room_ok room ≡ true → room_ok (room_given g room) ≡ true
given_valid None room ok = ok
given_valid (Some m) room ok = valid_stays m room ok

-- ---- a stretch

-- eight bytes of 0 for one half-cycle more
abbrev nought : ℕ → List ℕ
nought n = replicate n 0

zeros : (n k : ℕ) → nought n ++ nought k ≡ nought (n + k)
zeros zero k = ap nought (sym (zero-add k))
zeros (suc n) k = ap (λ (l : List ℕ). 0 ∷ l) (zeros n k) ∙ ap nought (sym (suc-add n k))

eight_more : (n : ℕ) → nought 8 ++ nought (8 * n) ≡ nought (8 * suc n)
eight_more n = let more : 8 + 8 * n ≡ 8 * suc n = omega arith in zeros 8 (8 * n) ∙ ap nought more

-- a part of a buffer written in one go
pub part_put : (a ys : List ℕ) (p k : ℕ) → p + k ≤ length a → length ys ≡ k → put_mid p k a ys ≡ sets a p ys
part_put a ys p k room long =
    ap (λ (l : List ℕ). take p a ++ (ys ++ l)) (drop-drop k p a ∙ ap (λ (n : ℕ). drop (p + n) a) (sym long))
    ∙ sym (append_assoc (take p a) ys (drop (p + length ys) a))
    ∙ sym (sets-eq ys a p (omega arith))

pub nought_put : (a ys : List ℕ) (from to : ℕ) → from ≤ to → 8 * to ≤ length a → ys ≡ replicate (8 * to - 8 * from) 0
    → put_mid (8 * from) (8 * to - 8 * from) a ys ≡ sets a (8 * from) (replicate (8 * (to - from)) 0)
nought_put a ys from to some room is =
    let count : 8 * to - 8 * from ≡ 8 * (to - from) = omega arith in
    part_put a ys (8 * from) (8 * to - 8 * from) (omega arith) (ap length is ∙ length-replicate (8 * to - 8 * from) 0)
    ∙ ap (sets a (8 * from)) (is ∙ ap nought count)

pub answer_put : (a ys : List ℕ) (p k n : ℕ) → p + 8 ≤ length a → k ≡ 8 → ys ≡ to_le_bytes w64 n → put_mid p k a ys ≡ sets a p (answer_bytes n)
answer_put a ys p k n room eight is =
    part_put a ys p k (omega arith) (ap length is ∙ sym eight)
    ∙ ap (sets a p) is

-- the answers to a stretch: 0 to all but the last
pub stretch_put : (answers after answers' : List ℕ) (from to answer : ℕ) (given : Option Message) (room : Room) → from < to
    → after ≡ sets answers (8 * from) (replicate (8 * (to - 1 - from)) 0) → answer ≡ answer_given given room
    → answers' ≡ sets after (8 * (to - 1)) (answer_bytes answer)
    → answers' ≡ sets answers (8 * from) (stretch_answers (to - from) given room)
stretch_put answers after answers' from to answer given room some before is put =
    let n : ℕ = 8 * (to - 1 - from) in
    let long : length (nought n) ≡ n = length-replicate n 0 in
    let place : 8 * (to - 1) ≡ 8 * from + length (nought n) = omega arith in
    let count : to - 1 - from ≡ to - from - 1 = omega arith in
    let last : List ℕ = answer_bytes (answer_given given room) in
    put
    ∙ ap₂ (λ (l : List ℕ) (a : ℕ). sets l (8 * (to - 1)) (answer_bytes a)) before is
    ∙ ap (λ (k : ℕ). sets (sets answers (8 * from) (nought n)) k last) place
    ∙ sym (sets-append answers (8 * from) (nought n) last)
    ∙ ap (λ (k : ℕ). sets answers (8 * from) (nought (8 * k) ++ last)) count

module _ (room : Room) where
  pub stretch_room : (r : Receiver) (hs : List ℕ) → room_heard (events_of r (to_given r hs)) room ≡ room_given (first_given r hs) room
  unfolding room_heard events_of to_given first_given
  stretch_room r [] = refl
  stretch_room r (h ∷ hs) = go (given_by (step_of r h).event) (stretch_room (step_of r h).next hs)
    where
      next : Receiver
      next = (step_of r h).next

      go : (g : Option Message) → room_heard (events_of next (to_given next hs)) room ≡ room_given (first_given next hs) room
          → room_heard (events_of next (else_more g (to_given next hs))) (room_given g room) ≡ room_given (else_given g (first_given next hs)) room
      go None e = e
      go (Some m) e = refl

  pub stretch_answers_lem : (r : Receiver) (hs : List ℕ) → 0 < length hs
      → answers_heard (events_of r (to_given r hs)) room ≡ stretch_answers (length (to_given r hs)) (first_given r hs) room
  unfolding answers_heard events_of to_given first_given
  stretch_answers_lem r [] some = absurd (omega arith)
  stretch_answers_lem r (h ∷ hs) some = go (given_by (step_of r h).event) hs (λ more. stretch_answers_lem (step_of r h).next hs more)
    where
      next : Receiver
      next = (step_of r h).next

      go : (g : Option Message) (l : List ℕ)
          → (0 < length l → answers_heard (events_of next (to_given next l)) room ≡ stretch_answers (length (to_given next l)) (first_given next l) room)
          → answer_bytes (answer_given g room) ++ answers_heard (events_of next (else_more g (to_given next l))) (room_given g room)
          ≡ stretch_answers (suc (length (else_more g (to_given next l)))) (else_given g (first_given next l)) room
      go (Some m) l later = append-nil (answer_bytes (answer_given (Some m) room))
      go None [] later = refl
      go None (x ∷ l) later =
          let last : List ℕ = answer_bytes (answer_given (first_given next (x ∷ l)) room) in
          let n : ℕ = length (to_given next (x ∷ l)) in
          let some' = to_some next (x ∷ l) (omega arith) in
          let one_less : suc (n - 1) ≡ suc n - 1 = omega (arith, some') in
          ap (λ (z : List ℕ). nought 8 ++ z) (later (omega arith))
          ∙ sym (append_assoc (nought 8) (nought (8 * (n - 1))) last)
          ∙ ap (λ (z : List ℕ). z ++ last) (eight_more (n - 1) ∙ ap (λ (k : ℕ). nought (8 * k)) one_less)

  -- half-cycles that give no message
  pub quiet : (r : Receiver) (hs : List ℕ) → first_given r hs ≡ None
      → (to_given r hs ≡ hs) × (room_heard (events_of r hs) room ≡ room) × (answers_heard (events_of r hs) room ≡ replicate (8 * length hs) 0)
  unfolding room_heard answers_heard events_of to_given first_given
  quiet r [] none = (refl, refl, refl)
  quiet r (h ∷ hs) none = go (given_by (step_of r h).event) none (λ e. quiet (step_of r h).next hs e)
    where
      next : Receiver
      next = (step_of r h).next

      go : (g : Option Message) → else_given g (first_given next hs) ≡ None
          → (first_given next hs ≡ None
          → (to_given next hs ≡ hs) × (room_heard (events_of next hs) room ≡ room) × (answers_heard (events_of next hs) room ≡ nought (8 * length hs)))
          → (h ∷ else_more g (to_given next hs) ≡ h ∷ hs)
          × (room_heard (events_of next hs) (room_given g room) ≡ room)
          × (answer_bytes (answer_given g room) ++ answers_heard (events_of next hs) (room_given g room) ≡ nought (8 * suc (length hs)))
      go (Some m) e later = absurd (false≢true (sym (ap is_some e)))
      go None e later =
          let t = later e in (
            ap (λ (l : List ℕ). h ∷ l) t.0,
            t.1,
            ap (λ (z : List ℕ). nought 8 ++ z) t.2 ∙ eight_more (length hs),
          )

-- ---- all half-cycles from a place on

same_remains : {r q : Receiver} {a b : Room} {e f x y : List ℕ} → r ≡ q → a ≡ b → e ≡ f → x ≡ y → remains r a e x ≡ remains q b f y
same_remains p q u v = rw (p, q, u, v)

module _ (hs : List ℕ) (r : Receiver) (i : ℕ) (room : Room) (events answers : List ℕ) where
  pub remains_end : length hs ≤ i → remains r room events answers ≡ remains_by hs r i room events answers
  unfolding remains_by receiver_after events_of room_heard answers_heard flat_map
  remains_end none = let e : drop i hs ≡ [] = drop_of_length-le hs none in rw e refl

  -- by those of the half-cycles after a stretch
  remains_on : (to : ℕ) (next : Receiver) (given : Option Message) (events' answers' : List ℕ) → i < length hs → Toward hs r i events to next given events'
      → answers' ≡ sets answers (8 * i) (stretch_answers (to - i) given room)
      → remains_by hs next to (room_given given room) events' answers' ≡ remains_by hs r i room events answers
  unfolding remains_by
  remains_on to next given events' answers' more t put =
      let taken : List ℕ = to_given r (drop i hs) in
      let es : List Event = events_of r taken in
      let fs : List Event = events_of next (drop to hs) in
      let some : 0 < length (drop i hs) = omega (arith, length-drop i hs) in
      let all : events_of r (drop i hs) ≡ es ++ fs = events_on hs r i events to next given events' t in
      let on = rest_on hs r i events to next given events' t in
      let room-on : room_heard es room ≡ room_given given room = stretch_room room r (drop i hs) ∙ ap (λ (g : Option Message). room_given g room) (sym t.message) in
      let long : to - i ≡ length taken = omega (arith, t.place) in
      let first : answers_heard es room ≡ stretch_answers (to - i) given room
      = stretch_answers_lem room r (drop i hs) some
      ∙ ap₂ (λ (n : ℕ) (g : Option Message). stretch_answers n g room) (sym long) (sym t.message) in
      let place : 8 * to ≡ 8 * i + length (answers_heard es room) = omega (arith, t.place, answers_length r taken room) in
      same_remains on.1
      (ap (room_heard fs) (sym room-on) ∙ sym (room-append es fs room) ∙ ap (λ (l : List Event). room_heard l room) (sym all))
      on.2
      (ap₂ (λ (l : List ℕ) (n : ℕ). sets l n (answers_heard fs (room_given given room))) (put ∙ ap (sets answers (8 * i)) (sym first)) place
      ∙ ap (λ (q : Room). sets (sets answers (8 * i) (answers_heard es room)) (8 * i + length (answers_heard es room)) (answers_heard fs q)) (sym room-on)
      ∙ sym (sets-append answers (8 * i) (answers_heard es room) (answers_heard fs (room_heard es room)))
      ∙ ap (sets answers (8 * i)) (sym (ap (λ (l : List Event). answers_heard l room) all ∙ answers_append es fs room)))

heard_valid : (es : List Event) (room : Room) → room_ok room ≡ true → room_ok (room_heard es room) ≡ true
unfolding room_heard
heard_valid [] room ok = ok
heard_valid (e ∷ es) room ok = heard_valid es (room_given (given_by e) room) (given_valid (given_by e) room ok)

module _ (hs : List ℕ) (r : Receiver) (i : ℕ) (room : Room) (events answers : List ℕ) {x : Remains} (left : x ≡ remains_by hs r i room events answers) where
  pub remains_valid : room_ok room ≡ true → room_ok x.room ≡ true
  unfolding remains_by
  remains_valid ok = ap (λ (y : Remains). room_ok y.room) left ∙ heard_valid (events_of r (drop i hs)) room ok

  pub remains_ok : receiver_ok r ≡ true → receiver_ok x.receiver ≡ true
  unfolding remains_by
  remains_ok ok = ap (λ (y : Remains). receiver_ok y.receiver) left ∙ run_valid r (drop i hs) ok

-- ---- one turn: a stretch is taken from place i on, and its message applied

-- what is then ready, and what still remains
pub record Turned (hs : List ℕ) (r : Receiver) (i : ℕ) (room : Room) (events answers : List ℕ) (next : Receiver) (to : ℕ) (room' : Room)
    (events' answers' : List ℕ) : Type 0 where
  pub ready : Prepared next hs to room' events' answers'
  pub events_long : length events' ≡ length events
  pub answers_long : length answers' ≡ length answers
  pub same : remains_by hs next to room' events' answers' ≡ remains_by hs r i room events answers

pub record Turn (hs : List ℕ) (r : Receiver) (i : ℕ) (room : Room) (events answers : List ℕ) (o : Stretch) (events' : List ℕ) (to : ℕ) : Type 0 where
  pub toward : Toward hs r i events to o.next o.given events'
  pub within : to ≤ length hs
  pub later : i < length hs → i < to
  pub after : i < length hs → (room' : Room) (answers' : List ℕ) → room' ≡ room_given o.given room
      → answers' ≡ sets answers (8 * i) (stretch_answers (to - i) o.given room)
      → Turned hs r i room events answers o.next to room' events' answers'

pub turn : (hs : List ℕ) (r : Receiver) (i : ℕ) (room : Room) (events answers : List ℕ) → Prepared r hs i room events answers
    → (o : Stretch) (events' : List ℕ) (to : ℕ) → o ≡ stretch_of r hs i (length events) → events' ≡ stretch_events r hs i events
    → to ≡ result_unwrap_or o.answer (length hs)
    → Turn hs r i room events answers o events' to
turn hs r i room events answers ready o events' to ran put place =
    let told = stretch_told hs r i events ready.receiver o events' ready.events_space ran put in
    let at : to ≡ i + length (to_given r (drop i hs)) = place ∙ ap (λ (a : Result ℕ Refusal). result_unwrap_or a (length hs)) told.0 in
    let toward = subst (λ (n : ℕ). Toward hs r i events n o.next o.given events') (sym at) told.1 in
    let long = length-drop i hs in
    let within : to ≤ length hs = omega (arith, at, ready.place, to_most r (drop i hs), long) in
    let same : length events' ≡ length events = (rest_on hs r i events to o.next o.given events' toward).0 in
    record {
      toward = toward;
      within = within;
      later = λ more. omega (arith, at, to_some r (drop i hs) (omega (arith, long)));
      after = λ more room' answers' applied answered.
          let wide : length answers' ≡ length answers = ap length answered ∙ length-sets answers (8 * i) (stretch_answers (to - i) o.given room) in
          record {
            ready = record {
              receiver = ap receiver_ok toward.receiver ∙ run_valid r (to_given r (drop i hs)) ready.receiver;
              place = within;
              rules = ap room_ok applied ∙ given_valid o.given room ready.rules;
              events_space = omega (arith, ready.events_space, same);
              answers_space = omega (arith, ready.answers_space, wide);
            };
            events_long = same;
            answers_long = wide;
            same = ap (λ (q : Room). remains_by hs o.next to q events' answers') applied
                ∙ remains_on hs r i room events answers to o.next o.given events' answers' more toward answered;
          };
    }

-- a message comes of some half-cycle
pub given_some : (hs : List ℕ) {r : Receiver} {evs : List ℕ} {to : ℕ} {next : Receiver} {given : Option Message} {after : List ℕ}
    → Toward hs r 0 evs to next given after → is_some given ≡ true → 0 < length hs
unfolding first_given
given_some [] t e = absurd (false≢true (sym (ap is_some t.message) ∙ e))
given_some (h ∷ hs) t e = omega arith

-- no message is given by any half-cycle
pub remains_quiet : (hs : List ℕ) (r : Receiver) (room : Room) (events answers : List ℕ) (to : ℕ) (next : Receiver) (given : Option Message) (events' answers' : List ℕ)
    → Toward hs r 0 events to next given events' → is_some given ≡ false → answers' ≡ sets answers 0 (replicate (8 * (to - 0)) 0)
    → remains next room events' answers' ≡ remains_by hs r 0 room events answers
unfolding remains_by
remains_quiet hs r room events answers to next given events' answers' t none put =
    let q = quiet room r hs (sym t.message ∙ no given none) in
    let all : to - 0 ≡ length hs = omega (arith, t.place, ap length q.0) in
    same_remains (t.receiver ∙ ap (receiver_after r) q.0) (sym q.1)
    (t.events ∙ ap (λ (l : List ℕ). sets events 0 (flat_map event_bytes (events_of r l))) q.0)
    (put ∙ ap (λ (n : ℕ). sets answers 0 (nought (8 * n))) all ∙ ap (sets answers 0) (sym q.2))
  where
    no : (g : Option Message) → is_some g ≡ false → g ≡ None
    no None e = refl
    no (Some m) e = absurd (false≢true (sym e))

-- ---- the call

-- what is left by the call, where the bytes hold the receiver r
lent_same : (h : List ℕ) {s s' e e' a a' : List ℕ} → s ≡ s' → e ≡ e' → a ≡ a' → lent_to s h e a ≡ lent_to s' h e' a'
lent_same h p q r = rw (p, q, r)

module _ (state halves events answers : List ℕ) (room : Room) (r : Receiver) (is : receiver_in state ≡ Ok r)
    (fits : 6 * length halves ≤ length events) (wide : 8 * length halves ≤ length answers) where
  pub route_done : (next : Receiver) (room' : Room) (state' events' answers' : List ℕ)
      → remains next room' events' answers' ≡ remains_by halves r 0 room events answers → state' ≡ receiver_bytes next
      → (room' ≡ mains_room (lent_to state halves events answers) room)
      × (lent_to state' halves events' answers' ≡ mains_lent (lent_to state halves events answers) room)
  unfolding remains_by events_heard bytes_after
  route_done next room' state' events' answers' e st =
      let es : List ℕ = flat_map event_bytes (events_of r halves) in
      let ans : List ℕ = answers_heard (events_of r halves) room in
      let el : length es ≡ 6 * length halves = events_length r halves in
      let al : length ans ≡ 8 * length halves = answers_length r halves room in
      let ev : events' ≡ es ++ drop (6 * length halves) events
      = ap (λ (x : Remains). x.events) e ∙ sets-front es events (omega arith) ∙ ap (λ (n : ℕ). es ++ drop n events) el in
      let an : answers' ≡ ans ++ drop (8 * length halves) answers
      = ap (λ (x : Remains). x.answers) e ∙ sets-front ans answers (omega arith) ∙ ap (λ (n : ℕ). ans ++ drop n answers) al in (
        rw is (ap (λ (x : Remains). x.room) e),
        rw is (lent_same halves (st ∙ ap receiver_bytes (ap (λ (x : Remains). x.receiver) e)) ev an),
      )

-- where nothing is refused, it is done
past_room : {A : Type 0} (done : A) (refused : Refusal → A) (l : Lending) (room : Room) → room_ok room ≡ true → holds_receiver l.state ≡ true
    → 8 * length l.halves ≤ length l.answers → 6 * length l.halves ≤ length l.events → judged (mains_causes l room) done refused ≡ done
unfolding judged
past_room done refused l room ok holds wide fits =
    let v = valid_parts room ok in
    let w = le-leb (8 * length l.halves) (length l.answers) wide in
    let x = le-leb (6 * length l.halves) (length l.events) fits in
    rw (v.modules_as_long, v.shutters_as_long, v.modules_valid_lem, v.shutters_valid_lem, holds, w, x)

-- what a call owes by what it answers and leaves
abbrev pub RouteOwed : Lending → Room → Result Changes Refusal → Room → Lending → Type 0
RouteOwed l room o room' lent' =
    (o ≡ mains_answer l room) × ((room_report o ≡ mains_report l room) × ((room' ≡ mains_after l room) × (lent' ≡ lent_after l room)))

-- one that is not refused
pub route_owed : (l : Lending) (room : Room) (o : Result Changes Refusal) (room' : Room) (lent' : Lending) → room_ok room ≡ true → holds_receiver l.state ≡ true
    → 8 * length l.halves ≤ length l.answers → 6 * length l.halves ≤ length l.events
    → o ≡ Ok (changes room (mains_room l room)) → room' ≡ mains_room l room → lent' ≡ mains_lent l room
    → RouteOwed l room o room' lent'
unfolding mains_answer mains_after lent_after
route_owed l room o room' lent' ok holds wide fits e f g = (
  e ∙ sym (past_room _ _ l room ok holds wide fits),
  (
    ap room_report e ∙ sym (past_room _ _ l room ok holds wide fits),
    (f ∙ sym (past_room _ _ l room ok holds wide fits), g ∙ sym (past_room _ _ l room ok holds wide fits)),
  ),
)

-- one that is refused: by the verdict on the room, or, where that is fine, by what else is lent
module _ (l : Lending) (room : Room) {v : Result ⊤ Refusal} (judged-so : v ≡ room_verdict room) (why : Refusal) where
  route_refused : refuses why ≡ judged (mains_causes l room) (reports {A = ℕ} []) refuses → RouteOwed l room (Err why) room l
  unfolding mains_answer mains_after lent_after
  route_refused e =
      let cs = mains_causes l room in (
        refused_told [] cs why e _ Err,
        (refused_told [] cs why e _ refuses, (refused_told [] cs why e _ (λ w. room), refused_told [] cs why e _ (λ w. l))),
      )

  pub route_faulty : v ≡ Err why → RouteOwed l room (Err why) room l
  route_faulty is = route_refused (sym (by_verdict (reports []) refuses (lent_causes l) room (sym is ∙ judged-so)))

  pub route_stopped : v ≡ Ok tt → refuses why ≡ judged (lent_causes l) (reports {A = ℕ} []) refuses → RouteOwed l room (Err why) room l
  route_stopped is e = route_refused (e ∙ sym (by_verdict (reports []) refuses (lent_causes l) room (sym is ∙ judged-so)))

-- a receiver put into bytes that held one
pub put_held : (state : List ℕ) (q next : Receiver) → receiver_in state ≡ Ok q → receiver_ok next ≡ true → put_after next state ≡ receiver_bytes next
unfolding put_after judged
put_held state q next is ok = rw (eq-eqb (length state) 13 (held_length state q is), ok) refl

pub mains_order : MainsOrder
mains_order l room = refl
