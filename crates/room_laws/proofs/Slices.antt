-- The mains route over a slice in two parts is two calls: the receiver goes on from where the first left it, and the room stays valid. A call
-- that is refused for its room or its receiver is refused in parts too.
--
--     two_calls, one_by_one      the theorems of specs/Slices.antt
use Rattle.std.specs.Prelude.{Err}
use mathlib.Core.Path.{◌≡◌, refl, sym, ap, ◌∙◌}
use mathlib.Core.Bool.{true}
use mathlib.Core.List.{List, [], ◌∷◌, ◌++◌, append_assoc, append-nil, flat_map}
use Prim.Native.Nat.{ℕ, zero, suc, ◌+◌, ◌*◌}
use native.Mathlib.Decide.{ℕ_discrete}
use native.Mathlib.Omega.{arith}
use borrow.Author.Tests.{le-leb}
use lib.Dec.{leb}
use lib.ListN.{length, take, drop, take-append-drop, length-append, length-take, length-drop}
use lib.Seq.{drop-drop}
use Rattle.ground.specs.Refusals.{refusal_number, Cause, unless, judged, number_given}
use Rattle.ground.specs.declared.Refusal.{Refusal}
use Rattle.ground.specs.declared.Refusal.TheVariants as refusal
use Rattle.ground.proofs.Choices.{both}
use Rattle.ground.proofs.Causes.{judged_append, judged_map, judged_same, judged_holds, none_stops}
use Rattle.ground.proofs.Lists.{flat_append}
use Rattle.receiver_laws.specs.Inversion.{told}
use Rattle.receiver.specs.Bytes.{holds_receiver, event_bytes, events_heard, bytes_after}
use Rattle.receiver.proofs.ReadBack.{stays_receiver, two_parts}
use Rattle.room.specs.Rooms.{Room, room_ok, room_report}
use Rattle.room.specs.Routes.{room_causes}
use Rattle.room.specs.Mains.{room_heard, answers_heard, lent_to, mains_causes, mains_answer, mains_after, lent_after}
use Rattle.room.proofs.ApplyLaws.{valid_parts}
use Rattle.room.proofs.MainsLaws.{room-append, answers_append}
use Rattle.room_laws.specs.Slices.{Lent, called, in_parts, Fits, TwoCalls, singly, OneByOne}
use Rattle.room_laws.proofs.Carried.{heard_all, all_stay}

-- ---- lists in two parts

-- nothing is left of a part that is put whole
drop-taken : (n : ℕ) (l : List ℕ) → drop n (take n l) ≡ []
drop-taken zero l = refl
drop-taken (suc n) [] = refl
drop-taken (suc n) (x ∷ l) = drop-taken n l

put_parts : (a b : ℕ) (p q l : List ℕ) → (p ++ drop a (take a l)) ++ (q ++ drop b (drop a l)) ≡ (p ++ q) ++ drop (a + b) l
put_parts a b p q l =
    rw (drop-taken a l, append-nil p, drop-drop b a l) (sym (append_assoc p q (drop (a + b) l)))

-- ---- one call

-- what a call that is not refused leaves
abbrev done : List ℕ → Lent → Lent
done hs l = record {
  number = 0;
  room = room_heard (events_heard l.state hs) l.room;
  state = bytes_after l.state hs;
  events = flat_map event_bytes (events_heard l.state hs) ++ drop (6 * length hs) l.events;
  answers = answers_heard (events_heard l.state hs) l.room ++ drop (8 * length hs) l.answers;
}

called_done : (hs : List ℕ) (l : Lent) → room_ok l.room ≡ true → holds_receiver l.state ≡ true → Fits (length hs) l → called hs l ≡ done hs l
unfolding called mains_answer mains_after lent_after judged
called_done hs l ok holds fits =
    let n = length hs in
    let v = valid_parts l.room ok in
    rw (
      v.modules_as_long,
      v.shutters_as_long,
      v.modules_valid_lem,
      v.shutters_valid_lem,
      holds,
      le-leb (8 * n) (length l.answers) fits.1,
      le-leb (6 * n) (length l.events) fits.0,
    )

-- the causes of a call that do not go by its half-cycles and buffers, and the others
abbrev front : Room → List ℕ → List Cause
front room state = room_causes room ++ (unless (holds_receiver state) refusal.State ∷ [])

abbrev short : List ℕ → Lent → List Cause
short hs l =
    unless (leb (8 * length hs) (length l.answers)) refusal.Short ∷ unless (leb (6 * length hs) (length l.events)) refusal.Short ∷ []

-- a call is refused, whatever its half-cycles and buffers
abbrev Bad : Room → List ℕ → Type 0
Bad room state = number_given (front room state) ≡ 0 → ⊥

-- where none applies, the room is valid and the bytes hold a receiver
past_front : (room : Room) (state : List ℕ) → number_given (front room state) ≡ 0 → (room_ok room ≡ true) × (holds_receiver state ≡ true)
past_front room state none =
    let one = none_stops _ _ _ none in
    let two = none_stops _ _ _ one.1 in
    let three = none_stops _ _ _ two.1 in
    let four = none_stops _ _ _ three.1 in
    (both three.0 four.0, (none_stops _ _ _ four.1).0)

-- what is then answered and left goes by these causes alone
by_front : {A : Type 0} (done other : A) (refused : Refusal → A) (hs : List ℕ) (l : Lent) → Bad l.room l.state
    → judged (front l.room l.state ++ short hs l) done refused ≡ judged (front l.room l.state) other refused
by_front done other refused hs l bad =
    judged_append done refused (front l.room l.state) (short hs l) ∙ judged_same refused (front l.room l.state) (λ none. absurd (bad none))

-- what is the same either way
either_way : {A : Type 0} (x : A) (cs : List Cause) → judged cs x (λ why. x) ≡ x
either_way x cs = judged_holds (λ y. y ≡ x) x (λ why. x) cs (λ none. refl) (λ why. refl)

-- all as it was, and the number of the refusal
abbrev given : ℕ → Lent → Lent
given n l = record { number = n; room = l.room; state = l.state; events = l.events; answers = l.answers }

called_bad : (hs : List ℕ) (l : Lent) (bad : Bad l.room l.state) → called hs l ≡ given (number_given (front l.room l.state)) l
unfolding called mains_answer mains_after lent_after
called_bad hs l bad =
    let cs = front l.room l.state in
    let lent = lent_to l.state hs l.events l.answers in
    let number : (room_report (mains_answer lent l.room)).number ≡ number_given cs =
    judged_map (λ a. (room_report a).number) _ Err (mains_causes lent l.room) ∙ by_front 0 0 refusal_number hs l bad in
    let room : mains_after lent l.room ≡ l.room = by_front _ l.room (λ why. l.room) hs l bad ∙ either_way l.room cs in
    let left : lent_after lent l.room ≡ lent = by_front _ lent (λ why. lent) hs l bad ∙ either_way lent cs in
    rw (number, room, left)

-- ---- two calls

module _ (xs ys : List ℕ) (l : Lent) (fits : Fits (length (xs ++ ys)) l) where
  abbrev e : ℕ
  e = 6 * length xs

  abbrev a : ℕ
  a = 8 * length xs

  -- what is lent to the first, and to the second
  abbrev first : Lent
  first = record { number = l.number; room = l.room; state = l.state; events = take e l.events; answers = take a l.answers }

  abbrev second : Lent → Lent
  second one = record { number = one.number; room = one.room; state = one.state; events = drop e l.events; answers = drop a l.answers }

  abbrev joined : Lent → Lent → Lent
  joined one two =
      record { number = two.number; room = two.room; state = two.state; events = one.events ++ two.events; answers = one.answers ++ two.answers }

  bad_parts : Bad l.room l.state → called (xs ++ ys) l ≡ joined (called xs first) (called ys (second (called xs first)))
  bad_parts bad =
      let n = number_given (front l.room l.state) in
      called_bad (xs ++ ys) l bad
      ∙ sym (
      ap (λ (one : Lent). joined one (called ys (second one))) (called_bad xs first bad)
      ∙ ap (joined (given n first)) (called_bad ys (second (given n first)) bad)
      ∙ rw (take-append-drop e l.events, take-append-drop a l.answers)
      )

  good_parts : room_ok l.room ≡ true → holds_receiver l.state ≡ true
      → called (xs ++ ys) l ≡ joined (called xs first) (called ys (second (called xs first)))
  good_parts ok holds =
      let s = l.state in
      let es = events_heard s xs in
      let t = bytes_after s xs in
      let fs = events_heard t ys in
      let sum = length-append xs ys in
      let two = second (done xs first) in
      let fits-first : Fits (length xs) first =
      (omega (arith, fits.0, length-take e l.events), omega (arith, fits.1, length-take a l.answers)) in
      let fits-second : Fits (length ys) two =
      (omega (arith, fits.0, length-drop e l.events), omega (arith, fits.1, length-drop a l.answers)) in
      let next-ok : room_ok (room_heard es l.room) ≡ true = rw (heard_all es l.room) (all_stay (told es) l.room ok) in
      let next-holds = stays_receiver.after s xs holds in
      let heard = two_parts.events s xs ys in
      let places : 6 * length (xs ++ ys) ≡ e + 6 * length ys = omega arith in
      let answer-places : 8 * length (xs ++ ys) ≡ a + 8 * length ys = omega arith in
      let events : flat_map event_bytes (events_heard s (xs ++ ys)) ++ drop (6 * length (xs ++ ys)) l.events ≡ (joined (done xs first) (done ys two)).events =
      rw (heard, places, flat_append event_bytes es fs) (sym (put_parts e (6 * length ys) (flat_map event_bytes es) (flat_map event_bytes fs) l.events)) in
      let answers : answers_heard (events_heard s (xs ++ ys)) l.room ++ drop (8 * length (xs ++ ys)) l.answers
      ≡ (joined (done xs first) (done ys two)).answers =
      rw (heard, answer-places, answers_append es fs l.room)
      (sym (put_parts a (8 * length ys) (answers_heard es l.room) (answers_heard fs (room_heard es l.room)) l.answers)) in
      let room : room_heard (events_heard s (xs ++ ys)) l.room ≡ room_heard fs (room_heard es l.room) =
      rw heard (room-append es fs l.room) in
      let same : done (xs ++ ys) l ≡ joined (done xs first) (done ys two) = rw (room, two_parts.state s xs ys, events, answers) in
      called_done (xs ++ ys) l ok holds fits
      ∙ same
      ∙ sym (
      ap (λ (one : Lent). joined one (called ys (second one))) (called_done xs first ok holds fits-first)
      ∙ ap (joined (done xs first)) (called_done ys two next-ok next-holds fits-second)
      )

  in_parts_lem : called (xs ++ ys) l ≡ joined (called xs first) (called ys (second (called xs first)))
  in_parts_lem = go (ℕ_discrete (number_given (front l.room l.state)) 0)
    where
      go : Dec (number_given (front l.room l.state) ≡ 0) → called (xs ++ ys) l ≡ joined (called xs first) (called ys (second (called xs first)))
      go (no bad) = bad_parts bad
      go (yes none) =
          let parts = past_front l.room l.state none in
          good_parts parts.0 parts.1

pub two_calls : TwoCalls
unfolding in_parts
two_calls xs ys l fits = in_parts_lem xs ys l fits

-- ---- one half-cycle after the other

pub one_by_one : OneByOne
unfolding singly in_parts
one_by_one h [] l fits = refl
one_by_one h (k ∷ ks) l fits =
    let one = called (h ∷ []) (first (h ∷ []) (k ∷ ks) l fits) in
    let rest = second (h ∷ []) (k ∷ ks) l fits one in
    let more = one_by_one k ks rest (omega (arith, fits.0, length-drop 6 l.events), omega (arith, fits.1, length-drop 8 l.answers)) in
    two_calls (h ∷ []) (k ∷ ks) l fits ∙ ap (joined (h ∷ []) (k ∷ ks) l fits one) more
