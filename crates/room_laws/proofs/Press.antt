-- A press: one radio command and its two bursts; the unit that is addressed is lit by On and darkened by Off, and one that is let go is not.
--
--     done              a message carried out in a valid room
--     press, recall     the theorems of specs/Press.antt
use mathlib.Core.Path.{◌≡◌, refl, ap, ◌∙◌}
use mathlib.Core.Bool.{Bool, true, false, not, ◌&&◌}
use mathlib.Core.List.{List, [], ◌∷◌, flat_map}
use Prim.Native.Nat.{ℕ, ◌+◌, ◌*◌, ◌<◌}
use native.Mathlib.Omega.{arith}
use borrow.Author.Tests.{eq-eqb, le-leb}
use lib.Dec.{eqb, leb}
use Rattle.ground.specs.Refusals.{judged}
use Rattle.ground.proofs.Choices.{both}
use Rattle.message.specs.Messages.{message_ok}
use Rattle.message.specs.declared.Function.TheVariants.{On, Off}
use Rattle.message.specs.declared.Message.{Message}
use Rattle.message.specs.declared.Message.TheVariants.{Address as Calls, Function as Command}
use Rattle.radio.specs.declared.RadioCommand.TheVariants.{On as RadioOn}
use Rattle.plan.specs.Plans.{plan_of, carried, fits}
use Rattle.plan.specs.declared.Act.TheVariants.{Address, Obey}
use Rattle.record.specs.Layout.{UNITS, record_at, house_at, present}
use Rattle.record.specs.ModuleTable.{step_record}
use Rattle.record.specs.declared.Record.{Record}
use Rattle.record.specs.declared.House.{House}
use Rattle.room.specs.Rooms.{Room, room_ok, room_after, apply_answer, room_report}
use Rattle.room.specs.Routes.{room_after_all}
use Rattle.room.proofs.ApplyLaws.{valid_parts, valid_stays}
use Rattle.room_laws.specs.Statements.{ByPlan}
use Rattle.room_laws.specs.Demand2.{leaves, after}
use Rattle.room_laws.specs.Press.{by_radio, darkens, Press, Recall}
use Rattle.room_laws.proofs.Theorems.{record_by_record, only_type_zero_moves}
use Rattle.room_laws.proofs.Carried.{no_more}
use Rattle.room_laws.proofs.Bursts.{codes_carry, bursts_as_codes}

-- ---- the record of a unit

-- of unit n, where unit u is addressed, by the house's own bytes, and the function On follows, by those that are then there
abbrev pressed_on : ℕ → House → House → ℕ → Record → Record
pressed_on u own next n r = step_record (Obey On) next n (step_record (Address u) own n r)

-- unit u itself is lit, and then darkened
lit_by : (u : ℕ) (own next : House) (r : Record) → present r ≡ true → eqb (pressed_on u own next u r).level 0 ≡ false
unfolding step_record
lit_by u own next r here = go (eqb r.level 0) refl
  where
    go : (b : Bool) → eqb r.level 0 ≡ b → eqb (pressed_on u own next u r).level 0 ≡ false
    go true e = simp (here, eq-eqb u u refl, e)
    go false e = simp (here, eq-eqb u u refl, e)

dark_by : (u : ℕ) (own next last : House) (r : Record) → present r ≡ true → (step_record (Obey Off) last u (pressed_on u own next u r)).level ≡ 0
unfolding step_record
dark_by u own next last r here = simp (here, eq-eqb u u refl)

-- another one, let go by the address, stays as it is
spared_by : (u n : ℕ) (own next last : House) (r : Record) → eqb own.heard 1 ≡ true → eqb n u ≡ false
    → (step_record (Obey Off) last n (pressed_on u own next n r)).level ≡ (pressed_on u own next n r).level
unfolding step_record
spared_by u n own next last r heard other = go (present r) refl
  where
    go : (b : Bool) → present r ≡ b → (step_record (Obey Off) last n (pressed_on u own next n r)).level ≡ (pressed_on u own next n r).level
    go true e = simp (e, other, heard)
    go false e = simp (e, other, heard)

stays_as_it_is : (x y : ℕ) → y ≡ x → (not (eqb x 0) && eqb y 0) ≡ false
stays_as_it_is x y e = rw e (go (eqb x 0))
  where
    go : (b : Bool) → (not b && b) ≡ false
    go true = refl
    go false = refl

-- ---- in the room

-- a message of the house, carried out in a valid room
pub done : (m : Message) (room : Room) → room_ok room ≡ true → message_ok m ≡ true → carried m ≡ true → fits (plan_of m) ≡ true → ByPlan m room
unfolding apply_answer judged
done m room ok good runs fit =
    let v = valid_parts room ok in
    let none : (room_report (apply_answer m room)).number ≡ 0 =
    simp (v.modules_as_long, v.shutters_as_long, good, v.modules_valid_lem, v.shutters_valid_lem, runs, fit) in
    record_by_record m room none

-- the room with unit u addressed, and then lit
unfoldable called : ℕ → ℕ → Room → Room
called h u room = room_after (Calls h u) room

unfoldable lit : ℕ → ℕ → Room → Room
lit h u room = room_after (Command h On) (called h u room)

-- the own bytes of house h
abbrev own_of : ℕ → Room → House
own_of h room = house_at room.modules h

module _ (h u : ℕ) (room : Room) (house : leb h 15 ≡ true) (unit : leb u 15 ≡ true) (ok : room_ok room ≡ true) where
  called_ok : room_ok (called h u room) ≡ true
  unfolding called
  called_ok = valid_stays (Calls h u) room ok

  lit_ok_lem : room_ok (lit h u room) ≡ true
  unfolding lit
  lit_ok_lem = valid_stays (Command h On) (called h u room) called_ok

  lit_heard : (own_of h (lit h u room)).heard ≡ 1
  unfolding lit
  lit_heard = ap (λ (x : House). x.heard) (done (Command h On) (called h u room) called_ok house refl refl).house

  -- what the press makes of a unit's record, and what Off then makes of it
  lit_record : (n : ℕ) → n < UNITS
      → record_at (lit h u room).modules (h * UNITS + n) ≡ pressed_on u (own_of h room) (own_of h (called h u room)) n (record_at room.modules (h * UNITS + n))
  unfolding called lit
  lit_record n below =
      let first = (done (Calls h u) room ok (rw (house, unit)) refl refl).records n below in
      let second = (done (Command h On) (called h u room) called_ok house refl refl).records n below in
      second ∙ ap (step_record (Obey On) (own_of h (called h u room)) n) first

  off_record : (n : ℕ) → n < UNITS
      → record_at (room_after (Command h Off) (lit h u room)).modules (h * UNITS + n)
      ≡ step_record (Obey Off) (own_of h (lit h u room)) n (record_at (lit h u room).modules (h * UNITS + n))
  off_record n below = (done (Command h Off) (lit h u room) lit_ok_lem house refl refl).records n below

  darkened : u < UNITS → present (record_at room.modules (h * UNITS + u)) ≡ true → darkens h (lit h u room) (h * UNITS + u) ≡ true
  darkened below here =
      let r = record_at room.modules (h * UNITS + u) in
      let own = own_of h room in
      let next = own_of h (called h u room) in
      rw (off_record u below, lit_record u below, lit_by u own next r here, dark_by u own next (own_of h (lit h u room)) r here)

  kept : (own_of h room).heard ≡ 1 → (n : ℕ) → n < UNITS → eqb n u ≡ false → darkens h (lit h u room) (h * UNITS + n) ≡ false
  kept heard n below other =
      let r = record_at room.modules (h * UNITS + n) in
      let gone = eq-eqb (own_of h room).heard 1 heard in
      rw (off_record n below, lit_record n below)
      (stays_as_it_is _ _ (spared_by u n (own_of h room) (own_of h (called h u room)) (own_of h (lit h u room)) r gone other))

-- ---- the theorems

-- by radio, the room is left lit
by_radio-left : (h u : ℕ) (room : Room) → leb h 15 ≡ true → leb u 15 ≡ true → leaves (by_radio h u) room ≡ lit h u room
unfolding flat_map room_after_all lit called
by_radio-left h u room house unit =
    no_more (by_radio h u) room ∙ ap (λ (ms : List Message). room_after_all ms room) (codes_carry (RadioOn h u ∷ []) (both house unit, tt))

-- and both its messages leave the shutters
shutters_kept : (h u : ℕ) (room : Room) → (lit h u room).shutters ≡ room.shutters
unfolding lit called
shutters_kept h u room = (only_type_zero_moves (Command h On) (room_after (Calls h u) room)).others refl ∙ (only_type_zero_moves (Calls h u) room).others refl

pub press : Press
unfolding flat_map
press h u z w room hh hu hz hw =
    let house = le-leb h 15 hh in
    let unit = le-leb u 15 hu in
    let line = after z (Calls h u) ∷ after w (Command h On) ∷ [] in
    let same = ((bursts_as_codes (RadioOn h u ∷ []) line (both house unit, tt) (hz, (hw, tt)) refl).alike room).rooms in
    let left = by_radio-left h u room house unit in
    record {
      same_room = same;
      no_shutter = rw left (shutters_kept h u room);
      same_lamps = λ i. ap (λ (x : Room). darkens h x i) same;
      pressed = λ ok here. rw left (darkened h u room house unit ok (omega arith) here);
      let_go = λ ok heard n below other. rw left (kept h u room house unit ok heard n below other);
    }

pub recall : Recall
recall h u v z w room hh hu hv other hz hw ok =
    let house = le-leb h 15 hh in
    let unit = le-leb v 15 hv in
    let left = by_radio-left h v room house unit in
    let second = press h u z w (leaves (by_radio h v) room) hh hu hz hw in
    let room-ok : room_ok (leaves (by_radio h v) room) ≡ true = rw left (lit_ok_lem h v room house unit ok) in
    let room-heard : (own_of h (leaves (by_radio h v) room)).heard ≡ 1 = rw left (lit_heard h v room house unit ok) in
    record { same_press = second; spared = second.same_lamps (h * UNITS + v) ∙ second.let_go room-ok room-heard v (omega arith) other }
