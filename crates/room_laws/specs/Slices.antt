-- The mains route over a slice of half-cycles is what single calls are, one after the other: the number given back, the room, the receiver, the
-- events and the answers that are left.
use Rattle.std.specs.Prelude.{ℕ, ◌*◌, ◌≤◌, ◌≡◌, List, [], ◌∷◌, ◌++◌, length, take, drop}
use Rattle.room.specs.Rooms.{Room, room_report}
use Rattle.room.specs.Mains.{lent_to, mains_answer, mains_after, lent_after}

-- all that is lent, the room, the receiver and the two buffers, beside the number that the last call gave back
pub record Lent : Type 0 where
  pub number : ℕ
  pub room : Room
  pub state : List ℕ
  pub events : List ℕ
  pub answers : List ℕ

-- what a call leaves
unfoldable pub called : List ℕ → Lent → Lent
called halves l =
    let lent = lent_to l.state halves l.events l.answers in
    let left = lent_after lent l.room in
    record {
      number = (room_report (mains_answer lent l.room)).number;
      room = mains_after lent l.room;
      state = left.state;
      events = left.events;
      answers = left.answers;
    }

-- a call on the first e bytes of the events and the first a of the answers; then another on the room and the receiver that it left, and on the
-- rest of the buffers; what is left of the two lies one after the other
unfoldable pub in_parts : ℕ → ℕ → (Lent → Lent) → (Lent → Lent) → Lent → Lent
in_parts e a first second l =
    let one = first (record { number = l.number; room = l.room; state = l.state; events = take e l.events; answers = take a l.answers }) in
    let two = second (record { number = one.number; room = one.room; state = one.state; events = drop e l.events; answers = drop a l.answers }) in
    record { number = two.number; room = two.room; state = two.state; events = one.events ++ two.events; answers = one.answers ++ two.answers }

-- the buffers have room for so many half-cycles
abbrev pub Fits : ℕ → Lent → Type 0
Fits n l = (6 * n ≤ length l.events) × (8 * n ≤ length l.answers)

-- a slice in two parts is two calls
abbrev pub TwoCalls : Type 0
TwoCalls =
    (xs ys : List ℕ) (l : Lent) → Fits (length (xs ++ ys)) l
    → called (xs ++ ys) l ≡ in_parts (6 * length xs) (8 * length xs) (called xs) (called ys) l

-- calls of one half-cycle each, h and then those of hs
unfoldable pub singly : ℕ → List ℕ → Lent → Lent
singly h [] l = called (h ∷ []) l
singly h (k ∷ ks) l = in_parts 6 8 (called (h ∷ [])) (singly k ks) l

abbrev pub OneByOne : Type 0
OneByOne = (h : ℕ) (hs : List ℕ) (l : Lent) → Fits (length (h ∷ hs)) l → called (h ∷ hs) l ≡ singly h hs l
