-- Laws of the radio route: what its functions owe at each return.
--
--     meant                        the messages of a valid command
--     two_obeyed, one_obeyed       a radio command's messages applied
--     read_obeyed, not_read        what the reader answered, applied
--     not_judged                   what the route owes where the tables are refused
--     radio_reported, radio_order  the number and the counts by the causes; RadioOrder
use Rattle.std.specs.Prelude.{Result, Ok, Err, ⊤}
use mathlib.Core.Path.{◌≡◌, refl, sym, ap, subst, ◌∙◌}
use mathlib.Core.Bool.{true}
use mathlib.Core.List.{List, [], ◌∷◌, head-eq_of_cons-eq}
use Prim.Native.Nat.{ℕ}
use native.Mathlib.Omega.{arith}
use lib.ListN.{length}
use Rattle.ground.specs.Refusals.{judged, refuses}
use Rattle.ground.specs.declared.Refusal.{Refusal}
use Rattle.ground.proofs.Causes.{judged_map}
use Rattle.message.specs.declared.Message.{Message}
use Rattle.radio.specs.Codes.{command_ok, command_of}
use Rattle.radio.specs.Answers.{read_causes, read_answer, messages_meant, messages_answer, messages_of}
use Rattle.radio.specs.declared.RadioCommand.{RadioCommand}
use Rattle.radio.specs.declared.RadioCommand.TheVariants.{On, Off, Bright, Dim}
use Rattle.radio.specs.declared.RadioMessages.{RadioMessages}
use Rattle.room.specs.Rooms.{Room, room_ok, changes, room_after, apply_answer, room_report, changes_of}
use Rattle.room.specs.Routes.{room_after_all, radio_causes, radio_after, radio_answer, radio_report}
use Rattle.room.specs.Statements.{RadioOrder}
use Rattle.room.specs.declared.Changes.{Changes}
use Rattle.room.specs.Lent.{room_verdict}
use Rattle.room.proofs.ApplyLaws.{valid_parts, verdict_on, by_verdict, counts_are}
use Rattle.room.proofs.Levels.{address_counts}

-- ---- the messages of a command

-- what a valid command means
pub meant : (k : RadioCommand) {r : Result RadioMessages Refusal} → command_ok k ≡ true → r ≡ messages_answer k → r ≡ Ok (messages_meant k)
unfolding messages_answer judged
meant k ok e = e ∙ rw ok

-- of two messages the first is an address, which changes no level and no opening
abbrev CountsStay : Room → Message → Type 0
CountsStay room m = (after : Room) → changes (room_after m room) after ≡ changes room after

first_keeps : (k : RadioCommand) (m n : Message) (room : Room) → messages_of k ≡ m ∷ n ∷ [] → CountsStay room m
first_keeps (On h u) m n room e = subst (CountsStay room) (head-eq_of_cons-eq e) (address_counts h u room)
first_keeps (Off h u) m n room e = subst (CountsStay room) (head-eq_of_cons-eq e) (address_counts h u room)
first_keeps (Bright h) m n room e = let two = ap length e in absurd (omega arith)
first_keeps (Dim h) m n room e = let two = ap length e in absurd (omega arith)

-- ---- a command on a valid room

module _ (k : RadioCommand) (room : Room) where
  -- what `obey` owes
  abbrev Owed : Changes → Room → Type 0
  Owed c left = (c ≡ changes room left) × (left ≡ room_after_all (messages_of k) room)

  pub one_obeyed : (m : Message) (left : Room) (a : Result Changes Refusal) → messages_of k ≡ m ∷ [] → a ≡ apply_answer m room → left ≡ room_after m room
      → Owed (changes_of a) left
  unfolding room_after_all
  one_obeyed m left a e right after = (ap changes_of right ∙ counts_are m room ∙ ap (changes room) (sym after), rw e after)

  pub two_obeyed : (m n : Message) (mid left : Room) (a : Result Changes Refusal) → messages_of k ≡ m ∷ n ∷ [] → mid ≡ room_after m room
      → a ≡ apply_answer n mid → left ≡ room_after n mid → Owed (changes_of a) left
  unfolding room_after_all
  two_obeyed m n mid left a e between right after = (
    ap changes_of right ∙ counts_are n mid ∙ ap (changes mid) (sym after)
        ∙ ap (λ (x : Room). changes x left) between ∙ first_keeps k m n room e left,
    rw e (after ∙ ap (room_after n) between),
  )

-- ---- a code on a valid room

module _ (code : List ℕ) (room : Room) where
  -- what is answered and left by what the reader answers
  abbrev answer_by : Result RadioCommand Refusal → Result Changes Refusal
  answer_by (Ok k) = Ok (changes room (room_after_all (messages_of k) room))
  answer_by (Err why) = Err why

  abbrev room_by : Result RadioCommand Refusal → Room
  room_by (Ok k) = room_after_all (messages_of k) room
  room_by (Err why) = room

  -- what `radio_route` owes
  abbrev Right : Result Changes Refusal → Room → Type 0
  Right a left = (a ≡ radio_answer code room) × (left ≡ radio_after code room)

  module _ (ok : room_ok room ≡ true) {r : Result RadioCommand Refusal} (reads : r ≡ read_answer code) where
    by_reader : (radio_answer code room ≡ answer_by r) × (radio_after code room ≡ room_by r)
    unfolding radio_answer radio_after read_answer judged
    by_reader =
        let k = Ok (command_of code) in
        let v = valid_parts room ok in
        rw (v.modules_as_long, v.shutters_as_long, v.modules_valid_lem, v.shutters_valid_lem, reads)
        (sym (judged_map answer_by k Err (read_causes code)), sym (judged_map room_by k Err (read_causes code)))

    pub read_obeyed : (k : RadioCommand) (left : Room) (c : Changes) → r ≡ Ok k → Owed k room c left → Right (Ok c) left
    read_obeyed k left c is did = (
      ap {B = Result Changes Refusal} Ok (did.0 ∙ ap (changes room) did.1) ∙ sym (by_reader.0 ∙ ap answer_by is),
      did.1 ∙ sym (by_reader.1 ∙ ap room_by is),
    )

    pub not_read : (why : Refusal) → r ≡ Err why → Right (Err why) room
    not_read why is = (sym (by_reader.0 ∙ ap answer_by is), sym (by_reader.1 ∙ ap room_by is))

pub radio_reported : (code : List ℕ) (room : Room) {r : Result Changes Refusal} → r ≡ radio_answer code room
    → room_report r ≡ radio_report code room
unfolding radio_answer
radio_reported code room e = ap room_report e ∙ judged_map room_report _ _ (radio_causes code room)

-- what the route owes where the tables are refused
pub not_judged : (code : List ℕ) (room : Room) {v : Result ⊤ Refusal} → v ≡ room_verdict room → (why : Refusal) → v ≡ Err why
    → (Err why ≡ radio_answer code room) × ((room_report (Err why) ≡ radio_report code room) × (room ≡ radio_after code room))
unfolding radio_answer radio_after
not_judged code room e why is = (
  by _ Err,
  (by _ refuses, by _ (λ w. room)),
)
  where
    by : {A : Type 0} (done : A) (refused : Refusal → A) → refused why ≡ judged (radio_causes code room) done refused
    by done refused = sym (by_verdict done refused (read_causes code) room e ∙ ap (verdict_on done refused (read_causes code)) is)

pub radio_order : RadioOrder
radio_order code room = refl
