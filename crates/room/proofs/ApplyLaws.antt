-- Laws of applying a message.
--
--     house_below, unit_below                          the house of a valid message, and the unit that its motion names, are of the sixteen
--     Valid, valid_parts, modules_size, shutters_size  the four parts of a valid room
--     room_fine, fine_room                             it has no cause of a route's
--     by_verdict, fine_valid                           what the verdict of `judge` says
--     run_by, move_by, refused_by                      what `apply_valid` owes by each plan
--     Outcome, outcome                                 a message is refused and the room stays, an act is run, or a motion
--     apply_reported                                   the number and the counts by the causes
--     valid_stays, apply_order, counts_packed          statements of specs/Statements
--     unchanged, counts_are                            the counts between a room and itself, and between the two rooms
use Rattle.std.specs.Prelude.{Result, Ok, Err, ⊤}
use mathlib.Core.Path.{◌≡◌, refl, sym, ap, ap₂, subst, ◌∙◌}
use mathlib.Core.Bool.{Bool, true, false, ◌||◌, false≢true, and-eq-true_iff}
use mathlib.Core.List.{List, ◌++◌}
use Prim.Native.Nat.{ℕ, ◌≤◌, ◌<◌}
use native.Mathlib.Omega.{arith}
use borrow.Author.Tests.{eqb-true}
use lib.Dec.{eqb}
use lib.ListN.{length}
use Rattle.ground.specs.Refusals.{refusal_number, Cause, judged, number_given}
use Rattle.ground.specs.declared.Refusal.{Refusal}
use Rattle.ground.specs.declared.Refusal.TheVariants as refusal
use Rattle.ground.proofs.Choices.{below_sixteen, both, both_below, pick_both}
use Rattle.ground.proofs.Causes.{judged_map, judged_same, judged_append, none_stops}
use Rattle.ground.proofs.Records.{differing_none, differing_at_most}
use Rattle.message.specs.Messages.{message_ok}
use Rattle.message.specs.declared.Message.{Message}
use Rattle.message.specs.declared.Message.TheVariants.{Address, Function as Command, Extended}
use Rattle.message.proofs.CodeLaws.{extended_below}
use Rattle.plan.specs.Plans.{house_of, type_zero, plan_of, runs, carried, fits, plan_causes, plan_answer}
use Rattle.plan.specs.Motions.{motion_plan, motion_fits}
use Rattle.plan.specs.declared.Act.{Act}
use Rattle.plan.specs.declared.Motion.{Motion}
use Rattle.plan.specs.declared.Plan.{Plan}
use Rattle.plan.specs.declared.Plan.TheVariants.{Run, Move}
use Rattle.plan.proofs.PlanLaws.{answer_runs, only_type_zero}
use Rattle.record.specs.Layout.{HOUSES, RECORDS, TABLE_BYTES, modules}
use Rattle.record.specs.ModuleTable.{run_act, level_of, changed}
use Rattle.module_table.specs.ModuleRuns.{act_answer, modules_after}
use Rattle.module_table.proofs.HouseLaws.{whole, run_stays_valid}
use Rattle.module_table.proofs.Runs.{run_done}
use Rattle.shutter_table.specs.ShutterRuns.{unit_named, motion_answer, shutters_after}
use Rattle.shutter_table.specs.ShutterTable.{SHUTTERS, SHUTTER_TABLE_BYTES, shutters, shutters_ok, move_all, opening_of, openings_changed}
use Rattle.shutter_table.proofs.TableLaws.{shutters_stay_valid}
use Rattle.shutter_table.proofs.Runs as moves
use Rattle.room.specs.Rooms.{Room, room_of, modules_long, shutters_long, modules_valid, shutters_valid, room_ok, changes, no_changes, apply_causes}
use Rattle.room.specs.Rooms.{carried_out, room_after, apply_answer, apply_report, room_report, changes_of}
use Rattle.room.specs.Routes.{room_causes}
use Rattle.room.specs.Lent.{room_verdict, levels_answer, openings_answer}
use Rattle.room.specs.Statements.{ValidStays, ApplyOrder, CountsPacked}
use Rattle.room.specs.declared.Changes.{Changes}

-- ---- a valid message

pub house_below : (m : Message) → message_ok m ≡ true → house_of m < HOUSES
house_below (Address h u) e = (both_below h u e).0
house_below (Command h f) e = below_sixteen h e
house_below (Extended h u d c) e = (extended_below h u d c e).0

-- of a plan: its motion names a unit of the sixteen, or none
abbrev Below : Result Plan Refusal → Type 0
Below (Ok (Run b)) = Unit {0}
Below (Ok (Move b)) = unit_named b < 16
Below (Err why) = Unit {0}

named_below : (u d c : ℕ) → u < 16 → Below (motion_plan u d c)
unfolding motion_plan
named_below u d c low =
    pick_both Below (eqb c 0x01) _ _ low
    (pick_both Below (eqb c 0x02) _ _ low
    (pick_both Below (eqb c 0x03) _ _ low
    (pick_both Below (eqb c 0x04) _ _ none
    (pick_both Below (eqb c 0x05) _ _ none
    (pick_both Below (eqb c 0x07) _ _ low
    (pick_both Below (eqb c 0x08) _ _ none
    (pick_both Below (eqb c 0x09) _ _ low
    (pick_both Below (eqb c 0x0A) _ _ none
    (pick_both Below (eqb c 0x0B) _ _ none
    (pick_both Below (eqb c 0x0C) _ _ none
    (pick_both Below (eqb c 0x0E || eqb c 0x0F) _ _ none tt)))))))))))
  where
    none : 0 < 16
    none = omega arith

pub unit_below : (m : Message) (a : Motion) → message_ok m ≡ true → plan_of m ≡ Ok (Move a) → unit_named a < 16
unit_below m a ok e = go m ok e (only_type_zero.others m a e)
  where
    go : (m : Message) → message_ok m ≡ true → plan_of m ≡ Ok (Move a) → type_zero m ≡ true → unit_named a < 16
    go (Address h u) ok e type = absurd (false≢true type)
    go (Command h f) ok e type = absurd (false≢true type)
    go (Extended h u d c) ok e type =
        let plan : motion_plan u d c ≡ Ok (Move a) = rw type at e in
        subst Below plan (named_below u d c (extended_below h u d c ok).1)

-- ---- a valid room

pub record Valid (room : Room) : Type 0 where
  pub modules_as_long : modules_long room ≡ true
  pub shutters_as_long : shutters_long room ≡ true
  pub modules_valid_lem : modules_valid room ≡ true
  pub shutters_valid_lem : shutters_valid room ≡ true

pub valid_parts : (room : Room) → room_ok room ≡ true → Valid room
unfolding shutters_ok
valid_parts room ok =
    let p = (and-eq-true_iff (modules_valid room) (shutters_valid room)).0 ok in
    record {
      modules_as_long = (whole room.modules p.0).long;
      shutters_as_long = ((and-eq-true_iff (shutters_long room) _).0 p.1).0;
      modules_valid_lem = p.0;
      shutters_valid_lem = p.1;
    }

-- a valid room has no cause of a route's, and a room without is valid
pub room_fine : (room : Room) → room_ok room ≡ true → number_given (room_causes room) ≡ 0
unfolding judged
room_fine room ok = let v = valid_parts room ok in rw (v.modules_as_long, v.shutters_as_long, v.modules_valid_lem, v.shutters_valid_lem)

pub fine_room : (room : Room) → number_given (room_causes room) ≡ 0 → room_ok room ≡ true
fine_room room none =
    let one = (none_stops _ _ _ none).1 in
    let two = (none_stops _ _ _ one).1 in
    let three = none_stops _ _ _ two in
    both three.0 (none_stops _ _ _ three.1).0

-- what is answered or left by the verdict of `judge`
module _ {A : Type 0} (done : A) (refused : Refusal → A) (rest : List Cause) where
  abbrev pub verdict_on : Result ⊤ Refusal → A
  verdict_on (Ok tt) = judged rest done refused
  verdict_on (Err why) = refused why

  pub by_verdict : (room : Room) {v : Result ⊤ Refusal} → v ≡ room_verdict room → judged (room_causes room ++ rest) done refused ≡ verdict_on v
  unfolding room_verdict
  by_verdict room e =
      judged_append done refused (room_causes room) rest ∙ sym (ap verdict_on e ∙ judged_map verdict_on (Ok tt) Err (room_causes room))

-- a room that is judged fine is valid
pub fine_valid : (room : Room) {v : Result ⊤ Refusal} → v ≡ room_verdict room → v ≡ Ok tt → room_ok room ≡ true
unfolding room_verdict
fine_valid room e is = fine_room room (sym (judged_map number (Ok tt) Err (room_causes room)) ∙ ap number (sym e ∙ is))
  where
    number : Result ⊤ Refusal → ℕ
    number (Ok tt) = 0
    number (Err why) = refusal_number why

module _ (room : Room) (ok : room_ok room ≡ true) where
  pub modules_size : length room.modules ≡ TABLE_BYTES
  modules_size = eqb-true (length room.modules) TABLE_BYTES (valid_parts room ok).modules_as_long

  pub shutters_size : length room.shutters ≡ SHUTTER_TABLE_BYTES
  shutters_size = eqb-true (length room.shutters) SHUTTER_TABLE_BYTES (valid_parts room ok).shutters_as_long

-- ---- a message on a valid room

carried_on : (m : Message) → number_given (plan_causes m) ≡ 0 → carried m ≡ true
carried_on m none = (none_stops _ _ _ (none_stops _ _ _ none).1).0

module _ (m : Message) (room : Room) where
  -- what is answered by what the message asks
  abbrev answer_by : Result Plan Refusal → Result Changes Refusal
  answer_by (Ok (Run a)) = Ok (changes room (carried_out (house_of m) (Ok (Run a)) room))
  answer_by (Ok (Move a)) = Ok (changes room (carried_out (house_of m) (Ok (Move a)) room))
  answer_by (Err why) = Err why

  -- a plan that runs is answered by what it changes
  answered : (p : Result Plan Refusal) → runs p ≡ true → answer_by p ≡ Ok (changes room (carried_out (house_of m) p room))
  answered (Ok (Run a)) t = refl
  answered (Ok (Move a)) t = refl
  answered (Err why) t = absurd (false≢true t)

  by_plan : room_ok room ≡ true
      → (apply_answer m room ≡ answer_by (plan_answer m)) × (room_after m room ≡ carried_out (house_of m) (plan_answer m) room)
  unfolding apply_answer room_after plan_answer judged
  by_plan ok =
      let v = valid_parts room ok in
      rw (v.modules_as_long, v.shutters_as_long, v.modules_valid_lem, v.shutters_valid_lem) (
        judged_same Err (plan_causes m)
            (λ none. sym (answered (plan_of m) (carried_on m none)))
            ∙ sym (judged_map answer_by (plan_of m) Err (plan_causes m)),
        sym (judged_map (λ (p : Result Plan Refusal). carried_out (house_of m) p room) (plan_of m) Err (plan_causes m)),
      )

-- what `apply_valid` owes
abbrev pub Owed : Message → Room → Result Changes Refusal → Room → Type 0
Owed m room r left = (r ≡ apply_answer m room) × (left ≡ room_after m room)

module _ (m : Message) (t s : List ℕ) {p : Result Plan Refusal} (asked : p ≡ plan_answer m) (ok : room_ok (room_of t s) ≡ true) where
  pub refused_by : (why : Refusal) → p ≡ Err why → Owed m (room_of t s) (Err why) (room_of t s)
  refused_by why is =
      let does = by_plan m (room_of t s) ok in
      let none = sym asked ∙ is in
      (sym (does.0 ∙ ap (answer_by m (room_of t s)) none), sym (does.1 ∙ ap (λ (q : Result Plan Refusal). carried_out (house_of m) q (room_of t s)) none))

  module _ (h : ℕ) (ours : h ≡ house_of m) where
    pub run_by : (a : Act) (n : Result ℕ Refusal) (u : List ℕ) (r : Result Changes Refusal) → p ≡ Ok (Run a) → n ≡ act_answer a h t → u ≡ modules_after a h t
        → r ≡ levels_answer n → Owed m (room_of t s) r (room_of u s)
    run_by a n u r is told left counts =
        let does = by_plan m (room_of t s) ok in
        let plan = sym asked ∙ is in
        let valid = answer_runs m (Ok (Run a)) plan refl in
        let low : h < HOUSES = subst (λ (x : ℕ). x < HOUSES) (sym ours) (house_below m valid.0) in
        let done = run_done a h t (modules_size (room_of t s) ok) low in
        let same : openings_changed s s ≡ 0 = differing_none shutters opening_of SHUTTERS s in (
          counts
              ∙ ap levels_answer (told ∙ done.0)
              ∙ ap₂ (λ (x y : ℕ). Ok (record { levels = x; openings = y })) (ap (λ (k : ℕ). changed t (run_act a k t)) ours) (sym same)
              ∙ sym (does.0 ∙ ap (answer_by m (room_of t s)) plan),
          ap (λ (l : List ℕ). room_of l s) (left ∙ done.1 ∙ ap (λ (k : ℕ). run_act a k t) ours)
              ∙ sym (does.1 ∙ ap (λ (q : Result Plan Refusal). carried_out (house_of m) q (room_of t s)) plan),
        )

    pub move_by : (a : Motion) (n : Result ℕ Refusal) (u : List ℕ) (r : Result Changes Refusal) → p ≡ Ok (Move a) → n ≡ motion_answer a h s → u ≡ shutters_after a h s
        → r ≡ openings_answer n → Owed m (room_of t s) r (room_of t u)
    move_by a n u r is told left counts =
        let does = by_plan m (room_of t s) ok in
        let plan = sym asked ∙ is in
        let valid = answer_runs m (Ok (Move a)) plan refl in
        let low : h < 16 = subst (λ (x : ℕ). x < 16) (sym ours) (house_below m valid.0) in
        let done = moves.runs a h s (shutters_size (room_of t s) ok) low (unit_below m a valid.0 valid.3)
        (sym (ap fits valid.3) ∙ valid.2) in
        let same : changed t t ≡ 0 = differing_none modules level_of RECORDS t in (
          counts
              ∙ ap openings_answer (told ∙ done.answer)
              ∙ ap₂ (λ (x y : ℕ). Ok (record { levels = x; openings = y })) (sym same) (ap (λ (k : ℕ). openings_changed s (move_all a k s)) ours)
              ∙ sym (does.0 ∙ ap (answer_by m (room_of t s)) plan),
          ap (λ (l : List ℕ). room_of t l) (left ∙ done.table ∙ ap (λ (k : ℕ). move_all a k s) ours)
              ∙ sym (does.1 ∙ ap (λ (q : Result Plan Refusal). carried_out (house_of m) q (room_of t s)) plan),
        )

-- ---- the outcomes

-- a plan was carried out
pub record Ran (m : Message) (room : Room) (p : Result Plan Refusal) : Type 0 where
  pub message : message_ok m ≡ true
  pub ok : room_ok room ≡ true
  pub answer : apply_answer m room ≡ Ok (changes room (room_after m room))
  pub plan : plan_of m ≡ p
  pub fit : fits p ≡ true
  pub left : room_after m room ≡ carried_out (house_of m) p room

pub data Outcome (m : Message) (room : Room) : Type 0 where
  stays : (why : Refusal) → apply_answer m room ≡ Err why → room_after m room ≡ room → Outcome m room
  did : (a : Act) → Ran m room (Ok (Run a)) → Outcome m room
  moved : (a : Motion) → Ran m room (Ok (Move a)) → Outcome m room

pub outcome : (m : Message) (room : Room) → Outcome m room
unfolding apply_answer room_after judged
outcome m room =
    go (modules_long room) refl (shutters_long room) refl (message_ok m) refl (modules_valid room) refl (shutters_valid room) refl (plan_of m) refl
    (fits (plan_of m)) refl
  where
    go : (a : Bool) → modules_long room ≡ a → (b : Bool) → shutters_long room ≡ b → (c : Bool) → message_ok m ≡ c → (d : Bool) → modules_valid room ≡ d
        → (e : Bool) → shutters_valid room ≡ e → (p : Result Plan Refusal) → plan_of m ≡ p → (f : Bool) → fits (plan_of m) ≡ f → Outcome m room
    go false ea b eb c ec d ed e ee p ep f ef = stays refusal.Table (simp ea) (simp ea)
    go true ea false eb c ec d ed e ee p ep f ef = stays refusal.ShutterTable (simp (ea, eb)) (simp (ea, eb))
    go true ea true eb false ec d ed e ee p ep f ef = stays refusal.Message (simp (ea, eb, ec)) (simp (ea, eb, ec))
    go true ea true eb true ec false ed e ee p ep f ef = stays refusal.Record (simp (ea, eb, ec, ed)) (simp (ea, eb, ec, ed))
    go true ea true eb true ec true ed false ee p ep f ef = stays refusal.ShutterRecord (simp (ea, eb, ec, ed, ee)) (simp (ea, eb, ec, ed, ee))
    go true ea true eb true ec true ed true ee (Err why) ep f ef =
        stays refusal.NotCarried (simp (ea, eb, ec, ed, ee, ep)) (simp (ea, eb, ec, ed, ee, ep))
    go true ea true eb true ec true ed true ee (Ok (Run a)) ep f ef =
        did a (record { message = ec; ok = both ed ee; answer = simp (ea, eb, ec, ed, ee, ep); plan = ep; fit = refl; left = simp (ea, eb, ec, ed, ee, ep) })
    go true ea true eb true ec true ed true ee (Ok (Move a)) ep false ef =
        let wide : motion_fits a ≡ false = rw ep at ef in
        stays refusal.Opening (simp (ea, eb, ec, ed, ee, ep, wide)) (simp (ea, eb, ec, ed, ee, ep, wide))
    go true ea true eb true ec true ed true ee (Ok (Move a)) ep true ef =
        let fine : motion_fits a ≡ true = rw ep at ef in
        moved a (record {
          message = ec;
          ok = both ed ee;
          answer = simp (ea, eb, ec, ed, ee, ep, fine);
          plan = ep;
          fit = fine;
          left = simp (ea, eb, ec, ed, ee, ep, fine);
        })

-- ---- the statements

pub apply_reported : (m : Message) (room : Room) {r : Result Changes Refusal} → r ≡ apply_answer m room
    → room_report r ≡ apply_report m room
unfolding apply_answer
apply_reported m room e = ap room_report e ∙ judged_map room_report _ _ (apply_causes m room)

pub apply_order : ApplyOrder
apply_order m room = refl

pub valid_stays : ValidStays
valid_stays m room ok = go (outcome m room)
  where
    v : Valid room
    v = valid_parts room ok

    go : Outcome m room → room_ok (room_after m room) ≡ true
    go (stays why e same) = rw same ok
    go (did a r) =
        rw r.left (both (run_stays_valid a (house_of m) room.modules (house_below m r.message) v.modules_valid_lem) v.shutters_valid_lem)
    go (moved a r) = rw r.left (both v.modules_valid_lem (shutters_stay_valid a (house_of m) room.shutters r.fit v.shutters_valid_lem))

-- nothing has changed between a room and itself
pub unchanged : (room : Room) → changes room room ≡ no_changes
unchanged room =
    ap₂ (λ (x y : ℕ). record { levels = x; openings = y }) (differing_none modules level_of RECORDS room.modules)
    (differing_none shutters opening_of SHUTTERS room.shutters)

-- the counts are of what differs before and after
pub counts_are : (m : Message) (room : Room) → changes_of (apply_answer m room) ≡ changes room (room_after m room)
counts_are m room = go (outcome m room)
  where
    go : Outcome m room → changes_of (apply_answer m room) ≡ changes room (room_after m room)
    go (stays why e same) = rw (e, same) (sym (unchanged room))
    go (did a r) = rw r.answer
    go (moved a r) = rw r.answer

pub counts_packed : CountsPacked
counts_packed before after =
    let few : (changes before after).levels ≤ 256 = differing_at_most modules level_of RECORDS before.modules after.modules in
    let shut : (changes before after).openings ≤ 256 = differing_at_most shutters opening_of SHUTTERS before.shutters after.shutters in
    omega arith
