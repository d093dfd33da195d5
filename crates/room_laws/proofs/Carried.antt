-- A route leaves what its messages leave: call by call where the room is valid, and where it is not every call is refused.
--
--     count_all                 the counts of messages applied one after the other
--     heard_all                 what events leave of a room is what their messages leave
--     carried                   what a route leaves and counts, by its messages
--     demand_2, no_more         the theorems of specs/Demand2.antt
use Rattle.std.specs.Prelude.{Ok, Err, Option, Some, None}
use mathlib.Core.Path.{◌≡◌, refl, sym, ap, ap₂, ◌∙◌}
use mathlib.Core.Bool.{Bool, true, false, true≢false}
use mathlib.Core.List.{List, [], ◌∷◌, ◌++◌, flat_map}
use Prim.Native.Nat.{ℕ, ◌+◌, ◌*◌, ◌/◌, ◌%◌, ◌^◌, ◌≤◌, ◌<◌}
use native.Mathlib.Omega.{arith}
use native.Mathlib.Nat.{zero-add, add-zero, add_assoc, mod-eq_of_lt, div-eq_of_lt, div-add-mod', div-div-eq-div-mul}
use lib.Dec.{leb}
use lib.ListN.{length, drop}
use Rattle.ground.specs.Refusals.{refusal_number, Cause, judged}
use Rattle.ground.specs.declared.Refusal.{Refusal}
use Rattle.ground.specs.declared.Refusal.TheVariants as refusal
use Rattle.ground.proofs.Causes.{judged_map, judged_append, judged_same, judged_holds, nothing_refused}
use Rattle.message.specs.declared.Function.{Function}
use Rattle.message.specs.declared.Message.{Message}
use Rattle.message.specs.declared.Message.TheVariants.{Address, Function as Command}
use Rattle.receiver.specs.declared.Event.{Event}
use Rattle.receiver.specs.Hearing.{given_by}
use Rattle.receiver_laws.specs.Inversion.{as_list, told}
use Rattle.wire.specs.Packed.{packed}
use Rattle.receiver.specs.Bytes.{holds_receiver}
use Rattle.receiver.proofs.RunLaws.{heard_length}
use Rattle.radio.specs.Codes.{command_of}
use Rattle.radio.specs.Answers.{read_causes, messages_of}
use Rattle.radio.specs.declared.RadioCommand.{RadioCommand}
use Rattle.radio.specs.declared.RadioCommand.TheVariants.{On, Off, Bright, Dim}
use Rattle.room.specs.Rooms.{Room, no_changes, room_ok, changes, room_after, apply_answer, changes_of, tallied}
use Rattle.room.specs.Routes.{room_after_all, room_causes, radio_after, radio_answer}
use Rattle.room.specs.Mains.{room_given, answer_given, answer_bytes, room_heard, answers_heard, Lending, heard, lent_causes, mains_after}
use Rattle.room.specs.declared.Changes.{Changes}
use Rattle.room.proofs.ApplyLaws.{Outcome, stays, did, moved, outcome, Valid, valid_parts, room_fine, fine_room, valid_stays, unchanged, counts_are}
use Rattle.room.proofs.Levels.{address_counts}
use Rattle.room_laws.specs.Demand2.{Route, radio, mains, meant_by, carries, radio_leaves, leaves, added, radio_counts, number_in}
use Rattle.room_laws.specs.Demand2.{changes_in, counts_in, counts, Demand2, NoMoreThanMessages}
use Rattle.room_laws.specs.Statements.{AllStayValid}
use Rattle.room_laws.proofs.Theorems.{count_at_most_256}

-- ---- messages applied one after the other

counts_same : {a b c d : ℕ} → a ≡ b → c ≡ d → ◌≡◌ {A = Changes} (record { levels = a; openings = c }) (record { levels = b; openings = d })
counts_same p q = rw (p, q)

unfoldable pub count_all : List Message → Room → Changes
count_all [] room = no_changes
count_all (m ∷ ms) room = added (changes_of (apply_answer m room)) (count_all ms (room_after m room))

-- counts added up
none_added : (c : Changes) → added no_changes c ≡ c
none_added c = counts_same (zero-add c.levels) (zero-add c.openings)

added_none : (c : Changes) → added c no_changes ≡ c
added_none c = counts_same (add-zero c.levels) (add-zero c.openings)

added_assoc : (c d e : Changes) → added (added c d) e ≡ added c (added d e)
added_assoc c d e = counts_same (add_assoc c.levels d.levels e.levels) (add_assoc c.openings d.openings e.openings)

-- of a room, what is left and counted is what messages leave and count
abbrev As : List Message → Room → Room → Changes → Type 0
As ms room left n = (left ≡ room_after_all ms room) × (n ≡ count_all ms room)

-- some messages, and then others
as_append : (ms ns : List Message) (room left : Room) (n : Changes) → As ns (room_after_all ms room) left n
    → As (ms ++ ns) room left (added (count_all ms room) n)
unfolding room_after_all count_all
as_append [] ns room left n p = (p.0, none_added n ∙ p.1)
as_append (m ∷ ms) ns room left n p =
    let q = as_append ms ns (room_after m room) left n p in
    let first = changes_of (apply_answer m room) in
    (q.0, added_assoc first (count_all ms (room_after m room)) n ∙ ap (added first) q.1)

pub all_stay : AllStayValid
unfolding room_after_all
all_stay [] room ok = ok
all_stay (m ∷ ms) room ok = all_stay ms (room_after m room) (valid_stays m room ok)

-- of a room that breaks a rule nothing is changed
one_refused : (m : Message) (room : Room) → room_ok room ≡ false → (room_after m room ≡ room) × (changes_of (apply_answer m room) ≡ no_changes)
one_refused m room broken = go (outcome m room)
  where
    go : Outcome m room → (room_after m room ≡ room) × (changes_of (apply_answer m room) ≡ no_changes)
    go (stays why e same) = (same, rw e)
    go (did a r) = absurd (true≢false (sym r.ok ∙ broken))
    go (moved a r) = absurd (true≢false (sym r.ok ∙ broken))

all_refused : (ms : List Message) (room : Room) → room_ok room ≡ false → As ms room room no_changes
unfolding room_after_all count_all
all_refused [] room broken = (refl, refl)
all_refused (m ∷ ms) room broken =
    let one = one_refused m room broken in
    rw (one.0, one.1, none_added (count_all ms room)) (all_refused ms room broken)

-- ---- one code

-- an address changes no level and no opening, so what is counted over an address and a function is the function's count
count_two : (h u : ℕ) (f : Function) (room : Room)
    → changes room (room_after_all (Address h u ∷ Command h f ∷ []) room) ≡ count_all (Address h u ∷ Command h f ∷ []) room
unfolding room_after_all count_all
count_two h u f room =
    let s = room_after (Address h u) room in
    let v = room_after (Command h f) s in
    let first : changes_of (apply_answer (Address h u) room) ≡ no_changes = counts_are (Address h u) room ∙ sym (address_counts h u room s) ∙ unchanged s in
    let second : changes_of (apply_answer (Command h f) s) ≡ changes room v = counts_are (Command h f) s ∙ address_counts h u room v in
    rw (first, second) (sym (none_added (added (changes room v) no_changes) ∙ added_none (changes room v)))

count_one : (m : Message) (room : Room) → changes room (room_after_all (m ∷ []) room) ≡ count_all (m ∷ []) room
unfolding room_after_all count_all
count_one m room = sym (added_none (changes_of (apply_answer m room)) ∙ counts_are m room)

count_command : (k : RadioCommand) (room : Room) → changes room (room_after_all (messages_of k) room) ≡ count_all (messages_of k) room
count_command (On h u) room = count_two h u _ room
count_command (Off h u) room = count_two h u _ room
count_command (Bright h) room = count_one _ room
count_command (Dim h) room = count_one _ room

-- a valid room is judged by what comes next
past_room : {A : Type 0} (room : Room) → room_ok room ≡ true → (cs : List Cause) (done : A) (refused : Refusal → A)
    → judged (room_causes room ++ cs) done refused ≡ judged cs done refused
past_room room ok cs done refused =
    judged_append done refused (room_causes room) cs ∙ nothing_refused (judged cs done refused) refused (room_causes room) (room_fine room ok)

-- and by a room that is not, everything is refused: what is left and counted is what a refusal leaves and counts
broken_room : {A : Type 0} (room : Room) → room_ok room ≡ false → (cs : List Cause) (done same : A) → judged (room_causes room ++ cs) done (λ why. same) ≡ same
broken_room room broken cs done same =
    judged_append done (λ why. same) (room_causes room) cs
    ∙ judged_same (λ why. same) (room_causes room) (λ none. absurd (true≢false (sym (fine_room room none) ∙ broken)))
    ∙ judged_holds (λ y. y ≡ same) same (λ why. same) (room_causes room) (λ none. refl) (λ why. refl)

code_carried : (code : List ℕ) (room : Room) → room_ok room ≡ true → As (meant_by code) room (radio_after code room) (changes_of (radio_answer code room))
unfolding radio_after radio_answer meant_by room_after_all count_all
code_carried code room ok =
    let cs = read_causes code in
    let k = command_of code in
    let left : room_after_all (meant_by code) room ≡ judged cs (room_after_all (messages_of k) room) (λ why. room) =
    judged_map (λ (ms : List Message). room_after_all ms room) (messages_of k) (λ why. []) cs in
    let count : count_all (meant_by code) room ≡ judged cs (count_all (messages_of k) room) (λ why. no_changes) =
    judged_map (λ (ms : List Message). count_all ms room) (messages_of k) (λ why. []) cs in
    let told : changes_of (radio_answer code room) ≡ judged cs (changes room (room_after_all (messages_of k) room)) (λ why. no_changes) =
    ap changes_of (past_room room ok cs _ _) ∙ judged_map changes_of (Ok (changes room (room_after_all (messages_of k) room))) Err cs in
    (past_room room ok cs _ _ ∙ sym left, told ∙ ap (λ (n : Changes). judged cs n (λ why. no_changes)) (count_command k room) ∙ sym count)

code_refused : (code : List ℕ) (room : Room) → room_ok room ≡ false → (radio_after code room ≡ room) × (changes_of (radio_answer code room) ≡ no_changes)
unfolding radio_after radio_answer
code_refused code room broken = (
  broken_room room broken (read_causes code) _ room,
  judged_map changes_of _ Err (room_causes room ++ read_causes code) ∙ broken_room room broken (read_causes code) _ no_changes,
)

-- ---- a list of codes

radio_carried : (codes : List (List ℕ)) (room : Room) → room_ok room ≡ true → As (flat_map meant_by codes) room (radio_leaves codes room) (radio_counts codes room)
unfolding radio_leaves radio_counts flat_map room_after_all count_all
radio_carried [] room ok = (refl, refl)
radio_carried (code ∷ codes) room ok =
    let one = code_carried code room ok in
    let more = radio_carried codes (room_after_all (meant_by code) room) (all_stay (meant_by code) room ok) in
    rw (one.0, one.1) (as_append (meant_by code) (flat_map meant_by codes) room _ _ more)

radio_refused : (codes : List (List ℕ)) (room : Room) → room_ok room ≡ false → (radio_leaves codes room ≡ room) × (radio_counts codes room ≡ no_changes)
unfolding radio_leaves radio_counts
radio_refused [] room broken = (refl, refl)
radio_refused (code ∷ codes) room broken =
    let one = code_refused code room broken in
    rw (one.0, one.1, none_added (radio_counts codes room)) (radio_refused codes room broken)

-- ---- events

pub heard_all : (es : List Event) (room : Room) → room_heard es room ≡ room_after_all (told es) room
unfolding room_heard told room_after_all
heard_all [] room = refl
heard_all (e ∷ es) room = go (given_by e) (heard_all es)
  where
    go : (g : Option Message) → ((q : Room) → room_heard es q ≡ room_after_all (told es) q) → room_heard es (room_given g room) ≡ room_after_all (as_list g ++ told es) room
    go None later = later room
    go (Some m) later = later (room_after m room)

-- the counts in an answer's eight bytes
small_number : (why : Refusal) → refusal_number why ≤ 22
small_number refusal.Table = omega arith
small_number refusal.Message = omega arith
small_number refusal.Record = omega arith
small_number refusal.NotCarried = omega arith
small_number refusal.Half = omega arith
small_number refusal.State = omega arith
small_number refusal.Draw = omega arith
small_number refusal.Busy = omega arith
small_number refusal.Short = omega arith
small_number refusal.RfLength = omega arith
small_number refusal.Complement = omega arith
small_number refusal.Code = omega arith
small_number refusal.Fault = omega arith
small_number refusal.ShutterTable = omega arith
small_number refusal.ShutterRecord = omega arith
small_number refusal.Opening = omega arith
small_number refusal.PacketLength = omega arith
small_number refusal.Check = omega arith
small_number refusal.Network = omega arith
small_number refusal.Payload = omega arith

-- a number below 2 ^ 40 in eight bytes, and back
above : (x d : ℕ) → x < 2 ^ 40 → 2 ^ 40 ≤ d → x / d ≡ 0
above x d small big = div-eq_of_lt (omega arith)

-- five digits to the base 256
digits : (x a b c d k l m n : ℕ) → a * 256 + k ≡ x → b * 256 + l ≡ a → c * 256 + m ≡ b → d * 256 + n ≡ c
    → k + l * 2 ^ 8 + m * 2 ^ 16 + n * 2 ^ 24 + d * 2 ^ 32 ≡ x
digits x a b c d k l m n p q r t = omega arith

number_back : (x : ℕ) → x < 2 ^ 40 → number_in (answer_bytes x) ≡ x
number_back x small =
    let two : x / 2 ^ 8 / 2 ^ 8 ≡ x / 2 ^ 16 = div-div-eq-div-mul x (2 ^ 8) (2 ^ 8) in
    let three : x / 2 ^ 16 / 2 ^ 8 ≡ x / 2 ^ 24 = div-div-eq-div-mul x (2 ^ 16) (2 ^ 8) in
    let four : x / 2 ^ 24 / 2 ^ 8 ≡ x / 2 ^ 32 = div-div-eq-div-mul x (2 ^ 24) (2 ^ 8) in
    let last : x / 2 ^ 32 % 256 ≡ x / 2 ^ 32 = mod-eq_of_lt (omega arith) in
    let all = digits x (x / 2 ^ 8) (x / 2 ^ 16) (x / 2 ^ 24) (x / 2 ^ 32) (x % 256) (x / 2 ^ 8 % 256) (x / 2 ^ 16 % 256) (x / 2 ^ 24 % 256)
    (div-add-mod' x 256) (rw two at (div-add-mod' (x / 2 ^ 8) 256)) (rw three at (div-add-mod' (x / 2 ^ 16) 256))
    (rw four at (div-add-mod' (x / 2 ^ 24) 256)) in
    rw (
      last,
      above x (2 ^ 40) small (omega arith),
      above x (2 ^ 48) small (omega arith),
      above x (2 ^ 56) small (omega arith),
    )
    (simp add-zero all)

-- counts of at most 256 and a number of at most 22, as one number and back
counted_back : (n m k : ℕ) → n ≤ 256 → m ≤ 256 → k ≤ 22
    → changes_in (answer_bytes ((n % 2 ^ 16 + m % 2 ^ 16 * 2 ^ 16) % 2 ^ 56 * 256 + k)) ≡ record { levels = n; openings = m }
counted_back n m k few shut small =
    let low : (n % 2 ^ 16 + m % 2 ^ 16 * 2 ^ 16) % 2 ^ 56 * 256 + k ≡ n * 2 ^ 8 + m * 2 ^ 24 + k = omega arith in
    let levels : (n * 2 ^ 8 + m * 2 ^ 24 + k) / 2 ^ 8 ≡ n + m * 2 ^ 16 = omega arith in
    let openings : (n * 2 ^ 8 + m * 2 ^ 24 + k) / 2 ^ 24 ≡ m = omega arith in
    let first : (n + m * 2 ^ 16) % 2 ^ 16 ≡ n = omega arith in
    let second : m % 2 ^ 16 ≡ m = omega arith in
    rw (low, number_back (n * 2 ^ 8 + m * 2 ^ 24 + k) (omega arith), levels, openings) (counts_same first second)

answer_counts : (m : Message) (room : Room) → changes_in (answer_bytes (answer_given (Some m) room)) ≡ changes_of (apply_answer m room)
answer_counts m room = go (outcome m room)
  where
    -- counts between two rooms
    counted : (before after : Room) → changes_in (answer_bytes (packed (tallied (Ok (changes before after))))) ≡ changes before after
    counted before after =
        let most = count_at_most_256 before after in
        counted_back (changes before after).levels (changes before after).openings 0 most.0 most.1 (omega arith)

    go : Outcome m room → changes_in (answer_bytes (answer_given (Some m) room)) ≡ changes_of (apply_answer m room)
    go (stays why e same) = rw e (counted_back 0 0 (refusal_number why) (omega arith) (omega arith) (small_number why))
    go (did a r) = rw r.answer (counted room (room_after m room))
    go (moved a r) = rw r.answer (counted room (room_after m room))

-- answers one after the other
counts_heard : (es : List Event) (room : Room) (rest : List ℕ) → counts_in (length es) (answers_heard es room ++ rest) ≡ count_all (told es) room
unfolding counts_in answers_heard told count_all
counts_heard [] room rest = refl
counts_heard (e ∷ es) room rest = go (given_by e) (λ q. counts_heard es q rest)
  where
    go : (g : Option Message) → ((q : Room) → counts_in (length es) (answers_heard es q ++ rest) ≡ count_all (told es) q)
        → added (changes_in (answer_bytes (answer_given g room))) (counts_in (length es) (answers_heard es (room_given g room) ++ rest))
        ≡ count_all (as_list g ++ told es) room
    go None later = none_added _ ∙ later room
    go (Some m) later = ap₂ added (answer_counts m room) (later (room_after m room))

-- ---- a call on the mains

module _ (l : Lending) (room : Room) where
  mains_refused : room_ok room ≡ false → (leaves (mains l) room ≡ room) × (counts (mains l) room ≡ no_changes)
  unfolding mains_after
  mains_refused broken = (broken_room room broken (lent_causes l) _ room, broken_room room broken (lent_causes l) _ no_changes)

  mains_carried : room_ok room ≡ true → As (carries (mains l)) room (leaves (mains l) room) (counts (mains l) room)
  unfolding mains_after judged told room_after_all count_all
  mains_carried ok =
      let n = length l.halves in
      go (holds_receiver l.state) refl (leb (8 * n) (length l.answers)) refl (leb (6 * n) (length l.events)) refl
    where
      v : Valid room
      v = valid_parts room ok

      go : (a : Bool) → holds_receiver l.state ≡ a → (b : Bool) → leb (8 * length l.halves) (length l.answers) ≡ b
          → (c : Bool) → leb (6 * length l.halves) (length l.events) ≡ c → As (carries (mains l)) room (leaves (mains l) room) (counts (mains l) room)
      go true holds true wide true fits =
          let es = heard l in
          let rest = drop (8 * length l.halves) l.answers in
          rw (v.modules_as_long, v.shutters_as_long, v.modules_valid_lem, v.shutters_valid_lem, holds, wide, fits) (
            heard_all es room,
            ap (λ (n : ℕ). counts_in n (answers_heard es room ++ rest)) (sym (heard_length l.state l.halves holds))
                ∙ counts_heard es room rest,
          )
      go true holds true wide false short =
          rw (v.modules_as_long, v.shutters_as_long, v.modules_valid_lem, v.shutters_valid_lem, holds, wide, short) (refl, refl)
      go true holds false short c fits = rw (v.modules_as_long, v.shutters_as_long, v.modules_valid_lem, v.shutters_valid_lem, holds, short) (refl, refl)
      go false none b wide c fits = rw (v.modules_as_long, v.shutters_as_long, v.modules_valid_lem, v.shutters_valid_lem, none) (refl, refl)

-- ---- a route

route_refused : (a : Route) (room : Room) → room_ok room ≡ false → (leaves a room ≡ room) × (counts a room ≡ no_changes)
route_refused (radio codes) room broken = radio_refused codes room broken
route_refused (mains l) room broken = mains_refused l room broken

route_carried : (a : Route) (room : Room) → room_ok room ≡ true → As (carries a) room (leaves a room) (counts a room)
route_carried (radio codes) room ok = radio_carried codes room ok
route_carried (mains l) room ok = mains_carried l room ok

pub carried : (a : Route) (room : Room) → (leaves a room ≡ room_after_all (carries a) room) × (counts a room ≡ count_all (carries a) room)
carried a room = go (room_ok room) refl
  where
    go : (b : Bool) → room_ok room ≡ b → As (carries a) room (leaves a room) (counts a room)
    go true ok = route_carried a room ok
    go false broken =
        let none = route_refused a room broken in
        let all = all_refused (carries a) room broken in
        (none.0 ∙ all.0, none.1 ∙ all.1)

pub no_more : NoMoreThanMessages
no_more a room = (carried a room).0

pub demand_2 : Demand2
demand_2 a b room other same equal =
    let left = carried a room in
    let right = carried b other in
    record {
      rooms = left.0 ∙ ap₂ room_after_all same equal ∙ sym right.0;
      same_counts = left.1 ∙ ap₂ count_all same equal ∙ sym right.1;
    }
