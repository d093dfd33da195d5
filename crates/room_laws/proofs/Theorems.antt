-- The statements of specs/Statements proved: each goes by the two outcomes of applying a message.
use Rattle.std.specs.Prelude.{Result, Ok, Err}
use mathlib.Core.Path.{◌≡◌, refl, sym, ap, subst, ◌∙◌}
use mathlib.Core.Bool.{Bool, true, false, not, ◌&&◌, ◌||◌, true≢false}
use Prim.Native.Nat.{ℕ, ◌+◌, ◌*◌, ◌/◌, ◌%◌, ◌≤◌, ◌<◌}
use native.Mathlib.Omega.{arith}
use native.Mathlib.Decide.{ℕ_discrete}
use borrow.Author.Tests.{eqb-false, eq-eqb}
use lib.Dec.{eqb, leb}
use lib.ListN.{get_or}
use Rattle.ground.specs.Choice.{pick}
use Rattle.ground.proofs.Choices.{pick_both}
use Rattle.ground.proofs.Causes.{some_number}
use Rattle.message.specs.declared.Message.{Message}
use Rattle.message.specs.declared.Message.TheVariants.{Address as Calls, Function as Command, Extended}
use Rattle.plan.specs.Motions.{motion_plan}
use Rattle.plan.specs.Plans.{bit, level_in, group_in, groups_in, house_of, type_zero, for_shutters, plan_of, reference_in, extended_plan}
use Rattle.plan.specs.declared.Act.{Act}
use Rattle.plan.specs.declared.Act.TheVariants.{Nothing, Join, Level, JoinAt, UnitsOn, UnitsOff, Leave, LeaveHouse, Group}
use Rattle.plan.specs.declared.GroupAct.{GroupAct}
use Rattle.plan.specs.declared.Motion.{Motion}
use Rattle.plan.specs.declared.Plan.{Plan}
use Rattle.plan.specs.declared.Plan.TheVariants.{Run, Move}
use Rattle.plan.proofs.PlanLaws.{only_type_zero}
use Rattle.record.specs.declared.Record.{Record}
use Rattle.record.specs.declared.House.{House}
use Rattle.record.specs.Layout.{RECORD_BYTES, UNITS, HOUSES, RECORDS, HEARD_AT, LIT_AT, record_at, record_bytes, house_at, present}
use Rattle.record.specs.ModuleTable.{acted, step_record, heard_after, run_act}
use Rattle.module_table.proofs.TableLaws.{modules_laid, changed_none}
use Rattle.module_table.proofs.HouseLaws.{run_length, run_record, run-byte, run_house, run_house_other}
use Rattle.module_table.proofs.Runs.{changed_at_most, run_changed}
use Rattle.shutter.specs.Shutters.{of_house, of_unit, reaches}
use Rattle.shutter_table.proofs.TableLaws.{each_shutter, own_shutters_only, openings_at_most_256}
use Rattle.room.specs.Rooms.{Room, no_changes, room_after, apply_answer, room_report, changes_of}
use Rattle.room.proofs.ApplyLaws.{house_below, modules_size, shutters_size, Ran, Outcome, stays, did, moved, outcome}
use Rattle.room_laws.specs.Statements.{plan_concerns, for_every_house, OnlyTypeZeroMoves, OwnHouse, OwnHouseOnly, OthersStay}
use Rattle.room_laws.specs.Statements.{ByPlan, RecordByRecord, RefusedStays, CountAtMost16, CountAtMost256, ExtendedKeeps}
use Rattle.room_laws.proofs.ReachLaws.{step_unreached}
use Rattle.ground.specs.declared.Refusal.{Refusal}

-- ---- each message its table

pub only_type_zero_moves : OnlyTypeZeroMoves
only_type_zero_moves m room = record { of_type_zero = λ zero. modules_stay zero (outcome m room); others = λ other. shutters_stay other (outcome m room) }
  where
    modules_stay : type_zero m ≡ true → Outcome m room → (room_after m room).modules ≡ room.modules
    modules_stay zero (stays why e same) = ap (λ (x : Room). x.modules) same
    modules_stay zero (did a r) = absurd (only_type_zero.of_type_zero m a zero r.plan)
    modules_stay zero (moved a r) = rw r.left

    shutters_stay : type_zero m ≡ false → Outcome m room → (room_after m room).shutters ≡ room.shutters
    shutters_stay other (stays why e same) = ap (λ (x : Room). x.shutters) same
    shutters_stay other (did a r) = rw r.left
    shutters_stay other (moved a r) = absurd (true≢false (sym (only_type_zero.others m a r.plan) ∙ other))

-- ---- only the own house

neither : (a b : Bool) → (a || b) ≡ false → (a ≡ false) × (b ≡ false)
neither true b e = absurd (true≢false e)
neither false b e = (refl, e)

-- the motion of a plan, if it has one, reaches no place of another house
abbrev Home : Result Plan Refusal → Type 0
Home (Ok (Run a)) = Unit {0}
Home (Ok (Move a)) = (h i : ℕ) → of_house h i ≡ false → reaches a h i ≡ false
Home (Err why) = Unit {0}

motion_home : (u d c : ℕ) → (eqb c 0x05 || eqb c 0x08 || eqb c 0x0A || eqb c 0x0C) ≡ false → Home (motion_plan u d c)
unfolding motion_plan
motion_home u d c out =
    let three = neither (eqb c 0x05 || eqb c 0x08 || eqb c 0x0A) (eqb c 0x0C) out in
    let two = neither (eqb c 0x05 || eqb c 0x08) (eqb c 0x0A) three.0 in
    let one = neither (eqb c 0x05) (eqb c 0x08) two.0 in
    rw (one.0, one.1, two.1, three.1)
    (pick_both Home (eqb c 0x01) _ _ (unit u)
    (pick_both Home (eqb c 0x02) _ _ (unit u)
    (pick_both Home (eqb c 0x03) _ _ (unit u)
    (pick_both Home (eqb c 0x04) _ _ (λ h i other. other)
    (pick_both Home (eqb c 0x07) _ _ (unit u)
    (pick_both Home (eqb c 0x09) _ _ (unit u)
    (pick_both Home (eqb c 0x0B) _ _ (λ h i other. other)
    (pick_both Home (eqb c 0x0E || eqb c 0x0F) _ _ (λ h i other. refl) tt))))))))
  where
    unit : (u h i : ℕ) → of_house h i ≡ false → of_unit h u i ≡ false
    unit u h i other = rw other

home : (m : Message) (a : Motion) → for_every_house m ≡ false → plan_of m ≡ Ok (Move a) → Home (Ok (Move a))
home m a out e = go m out e (only_type_zero.others m a e)
  where
    go : (m : Message) → for_every_house m ≡ false → plan_of m ≡ Ok (Move a) → type_zero m ≡ true → Home (Ok (Move a))
    go (Calls h u) out e type = absurd (true≢false (sym type))
    go (Command h f) out e type = absurd (true≢false (sym type))
    go (Extended h u d c) out e type = let plan : motion_plan u d c ≡ Ok (Move a) = rw type at e in subst Home plan (motion_home u d c out)

pub own_house_only : OwnHouseOnly
own_house_only m room = go (outcome m room)
  where
    go : Outcome m room → OwnHouse m room
    go (stays why e same) = record { modules_as_long = rw same; modules = λ k out. rw same; shutters_as_long = rw same; shutters = λ one k out. rw same }
    go (did a r) =
        let h = house_of m in
        let t = room.modules in
        record {
          modules_as_long = rw r.left (run_length a h t);
          modules = λ k out.
              let records = eqb (k / (UNITS * RECORD_BYTES)) h in
              let apart = neither (records || eqb k (HEARD_AT + h)) (eqb k (LIT_AT + h)) out in
              let behind = neither records (eqb k (HEARD_AT + h)) apart.0 in
              rw r.left
              (run-byte a h t k (eqb-false (k / (UNITS * RECORD_BYTES)) h behind.0) (eqb-false k (HEARD_AT + h) behind.1)
              (eqb-false k (LIT_AT + h) apart.1));
          shutters_as_long = rw r.left;
          shutters = λ one k out. rw r.left;
        }
    go (moved a r) =
        let h = house_of m in
        let size = shutters_size room r.ok in
        record {
          modules_as_long = rw r.left;
          modules = λ k out. rw r.left;
          shutters_as_long = rw r.left (each_shutter a h room.shutters size).long;
          shutters = λ one k out.
              rw r.left (own_shutters_only a h room.shutters k size (home m a one r.plan h) out);
        }

-- ---- records that are not concerned

pub others_stay : OthersStay
others_stay m room i k below small out = go (outcome m room)
  where
    own : House
    own = house_at room.modules (house_of m)

    -- the record stays
    same : (a : Act) → Ran m room (Ok (Run a)) → (b : Bool) → (b && plan_concerns (plan_of m) own (i % UNITS) (record_at room.modules i)) ≡ false
        → pick b (step_record a own (i % UNITS) (record_at room.modules i)) (record_at room.modules i) ≡ record_at room.modules i
    same a r true e =
        step_unreached a own (i % UNITS) (record_at room.modules i)
        (ap (λ p. plan_concerns p own (i % UNITS) (record_at room.modules i)) (sym r.plan) ∙ e)
    same a r false e = refl

    go : Outcome m room → get_or (room_after m room).modules (i * RECORD_BYTES + k) 0 ≡ get_or room.modules (i * RECORD_BYTES + k) 0
    go (stays why e stay) = rw stay
    go (did a r) =
        let h = house_of m in
        let t = room.modules in
        let kept : record_at (room_after m room).modules i ≡ record_at t i =
        rw r.left (run_record a h t i below (modules_size room r.ok) ∙ same a r (eqb (i / UNITS) h) out) in
        modules_laid.byte (room_after m room).modules i k small ∙ ap (λ x. get_or (record_bytes x) k 0) kept ∙ sym (modules_laid.byte t i k small)
    go (moved a r) = rw r.left

-- ---- record by record

pub record_by_record : RecordByRecord
record_by_record m room none = go (outcome m room)
  where
    go : Outcome m room → ByPlan m room
    go (stays why e same) = let z = sym (ap (λ x. (room_report x).number) e) ∙ none in absurd (omega (arith, some_number why))
    go (did a r) =
        let h = house_of m in
        let t = room.modules in
        let house = house_below m r.message in
        let size = modules_size room r.ok in
        record {
          records =
              λ n below.
              let place : (h * UNITS + n) / UNITS ≡ h = omega arith in
              let unit : (h * UNITS + n) % UNITS ≡ n = omega arith in
              rw (r.left, r.plan)
              (run_record a h t (h * UNITS + n) (omega arith) size ∙ simp (eq-eqb ((h * UNITS + n) / UNITS) h place, unit));
          house = rw (r.left, r.plan) (run_house a h t house size);
          shutters = λ i below. rw (r.left, r.plan);
        }
    go (moved a r) =
        record {
          records = λ n below. rw (r.left, r.plan);
          house = rw (r.left, r.plan);
          shutters = λ i below. rw (r.left, r.plan) ((each_shutter a (house_of m) room.shutters (shutters_size room r.ok)).each i below);
        }

-- ---- refusals and the count

pub refused_stays : RefusedStays
refused_stays m room some = go (outcome m room)
  where
    go : Outcome m room → (room_after m room ≡ room) × (changes_of (apply_answer m room) ≡ no_changes)
    go (stays why e same) = (same, rw e)
    go (did a r) = absurd (some (rw r.answer))
    go (moved a r) = absurd (some (rw r.answer))

pub count_at_most_256 : CountAtMost256
count_at_most_256 before after =
    (changed_at_most before.modules after.modules, openings_at_most_256 before.shutters after.shutters)

pub count_at_most_16 : CountAtMost16
count_at_most_16 m room = go (outcome m room)
  where
    go : Outcome m room → (changes_of (apply_answer m room)).levels ≤ UNITS
    go (stays why e same) = rw e (omega arith)
    go (did a r) = rw (r.answer, r.left) (run_changed a (house_of m) room.modules (house_below m r.message) (modules_size room r.ok))
    go (moved a r) = rw (r.answer, r.left) (rw (changed_none room.modules) (omega arith))

-- ---- extended commands

-- the act of a plan leaves each mark of being addressed, and the house's "command heard" byte
abbrev Keeps : Result Plan Refusal → Type 0
Keeps (Ok (Run a)) = ((own : House) (n : ℕ) (r : Record) → (step_record a own n r).addressed ≡ r.addressed) × ((x : ℕ) → heard_after a x ≡ x)
Keeps (Ok (Move a)) = Unit {0}
Keeps (Err why) = Unit {0}

keeps_act : (a : Act) → ((own : House) (n : ℕ) (r : Record) → (acted a own n r).addressed ≡ r.addressed) → ((x : ℕ) → heard_after a x ≡ x)
    → Keeps (Ok (Run a))
unfolding step_record
keeps_act a marks house = (λ own n r. pick_both (λ s. s.addressed ≡ r.addressed) (present r) (acted a own n r) r (marks own n r) refl, house)

-- where one unit is named, its record or another's
keeps_one : (b : Bool) (s r : Record) → s.addressed ≡ r.addressed → (pick b s r).addressed ≡ r.addressed
keeps_one b s r h = pick_both (λ x. x.addressed ≡ r.addressed) b s r h refl

-- a group command, whatever is asked of the members
keeps_group : (g s : ℕ) (ask : GroupAct) → Keeps (Ok (Run (Group g s ask)))
keeps_group g s ask = keeps_act (Group g s ask) (λ own n r. refl) (λ own. refl)

keeps_nothing : Keeps (Ok (Run Nothing))
keeps_nothing = keeps_act Nothing (λ own n r. refl) (λ own. refl)

keeps_extended : (u d c : ℕ) → Keeps (extended_plan u d c)
unfolding extended_plan
keeps_extended u d c =
    let g = group_in d in
    let b = level_in d in
    let gs = groups_in d in
    let s = reference_in d in
    pick_both Keeps (eqb c 0x30) _ _ (keeps_act (Join u g s) (λ own n r. keeps_one (eqb n u) _ r refl) (λ own. refl))
    (pick_both Keeps (eqb c 0x31) _ _ (keeps_act (Level u b) (λ own n r. refl) (λ own. refl))
    (pick_both Keeps (eqb c 0x32) _ _ (keeps_act (JoinAt u g b) (λ own n r. keeps_one (eqb n u) _ r refl) (λ own. refl))
    (pick_both Keeps (eqb c 0x33) _ _ (keeps_act UnitsOn (λ own n r. refl) (λ own. refl))
    (pick_both Keeps (eqb c 0x34) _ _ (keeps_act UnitsOff (λ own n r. refl) (λ own. refl))
    (pick_both Keeps (eqb c 0x35) _ _
    (pick_both Keeps (eqb (d / 16) 0) _ _ (keeps_act (Leave u gs) (λ own n r. keeps_one (eqb n u) _ r refl) (λ own. refl))
    (pick_both Keeps (eqb (d / 16) 15) _ _ (keeps_act (LeaveHouse gs) (λ own n r. refl) (λ own. refl)) tt))
    (pick_both Keeps (eqb c 0x36) _ _ (pick_both Keeps (bit 4 d) _ _ (keeps_group g s _) (keeps_group g s _))
    (pick_both Keeps (eqb c 0x3C) _ _ (pick_both Keeps (bit 4 d) _ _ (keeps_group g s _) (keeps_group g s _))
    (pick_both Keeps (eqb c 0x37) _ _ (pick_both Keeps (not (bit 5 d) || bit 4 d || eqb (d % 16) 0) _ _ keeps_nothing tt)
    (pick_both Keeps (leb 0x38 c && leb c 0x3B) _ _ keeps_nothing tt)))))))))

-- of type 0 too, which asks for no act
keeps_motion : (u d c : ℕ) → Keeps (motion_plan u d c)
unfolding motion_plan
keeps_motion u d c =
    pick_both Keeps (eqb c 0x01) _ _ tt
    (pick_both Keeps (eqb c 0x02) _ _ tt
    (pick_both Keeps (eqb c 0x03) _ _ tt
    (pick_both Keeps (eqb c 0x04) _ _ tt
    (pick_both Keeps (eqb c 0x05) _ _ tt
    (pick_both Keeps (eqb c 0x07) _ _ tt
    (pick_both Keeps (eqb c 0x08) _ _ tt
    (pick_both Keeps (eqb c 0x09) _ _ tt
    (pick_both Keeps (eqb c 0x0A) _ _ tt
    (pick_both Keeps (eqb c 0x0B) _ _ tt
    (pick_both Keeps (eqb c 0x0C) _ _ tt
    (pick_both Keeps (eqb c 0x0E || eqb c 0x0F) _ _ tt tt)))))))))))

keeps_plan : (u d c : ℕ) → Keeps (pick (for_shutters c) (motion_plan u d c) (extended_plan u d c))
keeps_plan u d c = pick_both Keeps (for_shutters c) _ _ (keeps_motion u d c) (keeps_extended u d c)

pub extended_keeps : ExtendedKeeps
extended_keeps h u d c room = go (outcome m room)
  where
    m : Message
    m = Extended h u d c

    go : Outcome m room
        → ((i : ℕ) → i < RECORDS → (record_at (room_after m room).modules i).addressed ≡ (record_at room.modules i).addressed)
        × ((g : ℕ) → g < HOUSES → (house_at (room_after m room).modules g).heard ≡ (house_at room.modules g).heard)
    go (stays why e same) = (λ i below. rw same, λ g there. rw same)
    go (moved a r) = (λ i below. rw r.left, λ g there. rw r.left)
    go (did a r) =
        let t = room.modules in
        let keeps : Keeps (Ok (Run a)) = subst Keeps r.plan (keeps_plan u d c) in (
          λ i below.
              let mark = (record_at t i).addressed in
              let kept = keeps.0 (house_at t h) (i % UNITS) (record_at t i) in
              rw (r.left, run_record a h t i below (modules_size room r.ok))
              (pick_both (λ (x : Record). x.addressed ≡ mark) (eqb (i / UNITS) h) _ _ kept refl),
          λ g there. rw r.left (heard g there (ℕ_discrete g h) a r keeps.1),
        )
      where
        heard : (g : ℕ) → g < HOUSES → Dec (g ≡ h) → (a : Act) → Ran m room (Ok (Run a)) → ((x : ℕ) → heard_after a x ≡ x)
            → (house_at (run_act a h room.modules) g).heard ≡ (house_at room.modules g).heard
        heard g there (yes own) a r keeps =
            let t = room.modules in
            rw own
            (ap (λ (x : House). x.heard) (run_house a h t (house_below m r.message) (modules_size room r.ok)) ∙ keeps (house_at t h).heard)
        heard g there (no other) a r keeps =
            ap (λ (x : House). x.heard) (run_house_other a h room.modules (house_below m r.message) g there other)
