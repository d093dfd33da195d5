-- Whom a group command reaches, and what is joined and left.
--
--     member_present                       a member of a group is there
--     reached_does, unreached_stays        one that is reached does what is asked, and another stays as it is
--     execute_plan_lem, step_plan_lem      36 and 3C ask for a group command
--     after_is                             a record of the house after an extended message that asks for an act
--     groups_alone                         of a message that asks for groups alone, all else stays
--     who_is_reached, what_is_joined       WhoIsReached, WhatIsJoined
use Rattle.std.specs.Prelude.{Result, Ok, Err}
use mathlib.Core.Path.{◌≡◌, refl, sym, ap, subst, ◌∙◌}
use mathlib.Core.Bool.{Bool, true, false, ◌&&◌, ◌||◌, false≢true, and-eq-true_iff, and-false, or-true}
use Prim.Native.Nat.{ℕ, ◌+◌, ◌*◌, ◌/◌, ◌%◌, ◌≤◌, ◌<◌}
use native.Mathlib.Decide.{ℕ_discrete}
use native.Mathlib.Omega.{arith}
use borrow.Author.Tests.{eqb-true, eq-eqb, ne_eqb, le-leb}
use lib.Dec.{eqb, leb}
use Rattle.ground.specs.Choice.{pick}
use Rattle.ground.proofs.Choices.{pick_both}
use Rattle.message.specs.Messages.{message_ok}
use Rattle.message.specs.declared.Message.{Message}
use Rattle.message.specs.declared.Message.TheVariants.{Extended}
use Rattle.plan.specs.Plans.{bit, level_in, group_in, groups_in, reference_in, house_of, plan_of, extended_plan, ABSOLUTE}
use Rattle.plan.specs.declared.Act.{Act}
use Rattle.plan.specs.declared.Act.TheVariants.{Join, JoinAt, Leave, LeaveHouse, Group}
use Rattle.plan.specs.declared.GroupAct.{GroupAct}
use Rattle.plan.specs.declared.Plan.{Plan}
use Rattle.plan.specs.declared.Plan.TheVariants.{Run, Move}
use Rattle.plan.proofs.PlanLaws.{which_reference}
use Rattle.record.specs.Layout.{UNITS, HOUSES, record_at, house_at, present, membership, member, reference, with_level, with_groups}
use Rattle.record.specs.ModuleTable.{all_zeros, record_ok, reached, asked, joined_as, acted, step_record}
use Rattle.record.specs.declared.House.{House}
use Rattle.record.specs.declared.Record.{Record}
use Rattle.record.specs.Parts.{keeps_groups}
use Rattle.record.proofs.RecordLaws.{good, each_of_four, memberships, rest_kept}
use Rattle.room.specs.Rooms.{Room, room_ok, room_after}
use Rattle.room.proofs.ApplyLaws.{Outcome, stays, did, moved, outcome}
use Rattle.room_laws.specs.Groups.{asks, unit_before, unit_after, Reaches, WhoIsReached, WhatIsJoined}
use Rattle.room_laws.proofs.LitLaws.{kept}
use Rattle.room_laws.proofs.ReachLaws.{step_unreached}
use Rattle.room_laws.proofs.Press.{done}
use Rattle.room_laws.proofs.Theorems.{record_by_record}
use Rattle.ground.specs.declared.Refusal.{Refusal}

-- a place with no module is in no group
member_present : (g : ℕ) (r : Record) → record_ok r ≡ true → g < 4 → member g r ≡ true → present r ≡ true
member_present g r ok low in-it = go (present r) refl
  where
    go : (b : Bool) → present r ≡ b → present r ≡ true
    go true here = here
    go false gone =
        let zeros : all_zeros r ≡ true = rw gone at (good r ok).zeros in
        let first = ((and-eq-true_iff (eqb r.level 0 && eqb r.addressed 0 && eqb r.groups.mask 0) _).0 zeros).0 in
        let none = eqb-true r.groups.mask 0 ((and-eq-true_iff (eqb r.level 0 && eqb r.addressed 0) (eqb r.groups.mask 0)).0 first).1 in
        absurd (false≢true (sym (no_bit g low) ∙ ap (bit g) (sym none) ∙ in-it))
      where
        no_bit : (k : ℕ) → k < 4 → bit k 0 ≡ false
        no_bit k h = each_of_four (λ j. bit j 0 ≡ false) refl refl refl refl k h

module _ (ask : GroupAct) (g s : ℕ) (own : House) (n : ℕ) (r : Record) where
  reached_does : present r ≡ true → reached g s r ≡ true → step_record (Group g s ask) own n r ≡ with_level (asked ask g r) r
  unfolding step_record
  reached_does here is = rw (here, is)

  unreached_stays : reached g s r ≡ false → step_record (Group g s ask) own n r ≡ r
  unreached_stays out = step_unreached (Group g s ask) own n r (rw out (and-false (present r)))

-- one of two things asked
either : (b : Bool) (g s : ℕ) (x y : GroupAct) → pick {A = Result Plan Refusal} b (Ok (Run (Group g s x))) (Ok (Run (Group g s y))) ≡ Ok (Run (Group g s (pick b x y)))
either true g s x y = refl
either false g s x y = refl

module _ (h u d : ℕ) where
  execute_plan_lem : plan_of (Extended h u d 0x36) ≡ Ok (Run (Group (group_in d) (reference_in d) (asks 0x36 d)))
  unfolding extended_plan
  execute_plan_lem = either (bit 4 d) _ _ _ _

  step_plan_lem : plan_of (Extended h u d 0x3C) ≡ Ok (Run (Group (group_in d) (reference_in d) (asks 0x3C d)))
  unfolding extended_plan
  step_plan_lem = either (bit 4 d) _ _ _ _

-- what the two reaches are, by the data and by the record's reference
module _ (d : ℕ) (r : Record) where
  abbrev g : ℕ
  g = group_in d

  relative : bit 5 d ≡ true → reached g (reference_in d) r ≡ (member g r && (eqb (reference g r) ABSOLUTE || eqb (reference g r) (d % 16)))
  relative set = rw (which_reference.relative d set).0

  absolute : bit 5 d ≡ false → reached g (reference_in d) r ≡ (member g r && (eqb (reference g r) ABSOLUTE || eqb (reference g r) ABSOLUTE))
  absolute clear = rw (which_reference.absolute d clear)

  by_reference : bit 5 d ≡ true → member g r ≡ true → reference g r ≡ d % 16 → reached g (reference_in d) r ≡ true
  by_reference set in-it same = relative set ∙ rw (in-it, eq-eqb (reference g r) (d % 16) same) (or-true (eqb (reference g r) ABSOLUTE))

  by_absolute : member g r ≡ true → reference g r ≡ ABSOLUTE → reached g (reference_in d) r ≡ true
  by_absolute in-it same = rw (in-it, eq-eqb (reference g r) ABSOLUTE same)

  not_another : bit 5 d ≡ true → (reference g r ≡ d % 16 → ⊥) → (reference g r ≡ ABSOLUTE → ⊥) → reached g (reference_in d) r ≡ false
  not_another set other far = relative set ∙ rw (ne_eqb _ _ other, ne_eqb _ _ far) (and-false (member g r))

  not_relative : bit 5 d ≡ false → (reference g r ≡ ABSOLUTE → ⊥) → reached g (reference_in d) r ≡ false
  not_relative clear far = absolute clear ∙ rw (ne_eqb _ _ far) (and-false (member g r))

-- a record of the house after an extended message that asks for an act
module _ (h u d : ℕ) (room : Room) (ok : room_ok room ≡ true) (house : h < HOUSES) (unit : u ≤ 15) (byte : d ≤ 255) where
  after_is : (c n : ℕ) (a : Act) → leb c 255 ≡ true → plan_of (Extended h u d c) ≡ Ok (Run a) → n < UNITS
      → unit_after room h u d c n ≡ step_record a (house_at room.modules h) n (unit_before room h n)
  after_is c n a low plan below =
      let valid : message_ok (Extended h u d c) ≡ true = rw (le-leb h 15 (omega arith), le-leb u 15 unit, le-leb d 255 byte, low) in
      (done (Extended h u d c) room ok valid (rw plan) (rw plan)).records n below ∙ rw plan

pub who_is_reached : WhoIsReached
who_is_reached h u d c n room ok house unit byte is below = go (ℕ_discrete c 0x36) (ℕ_discrete c 0x3C)
  where
    r : Record
    r = unit_before room h n

    Goal : ℕ → Type 0
    Goal k = Reaches k d r (unit_after room h u d k n)

    here : member (group_in d) r ≡ true → present r ≡ true
    here = member_present (group_in d) r (kept h room house ok n below) (omega arith)

    -- by what the command asks for
    by : (k : ℕ) → leb k 255 ≡ true → plan_of (Extended h u d k) ≡ Ok (Run (Group (group_in d) (reference_in d) (asks k d))) → Goal k
    by k low plan =
        let own = house_at room.modules h in
        let left = after_is h u d room ok house unit byte k n _ low plan below in
        record {
          with_reference = λ set in-it same. left ∙ reached_does _ _ _ own n r (here in-it) (by_reference d r set in-it same);
          absolute_member = λ in-it same. left ∙ reached_does _ _ _ own n r (here in-it) (by_absolute d r in-it same);
          another_reference = λ set other far. left ∙ unreached_stays _ _ _ own n r (not_another d r set other far);
          relative_member = λ clear far. left ∙ unreached_stays _ _ _ own n r (not_relative d r clear far);
          no_member = λ out. left ∙ unreached_stays _ _ _ own n r (rw out);
        }

    go : Dec (c ≡ 0x36) → Dec (c ≡ 0x3C) → Goal c
    go (yes e) _ = subst Goal (sym e) (by 0x36 refl (execute_plan_lem h u d))
    go (no _) (yes e) = subst Goal (sym e) (by 0x3C refl (step_plan_lem h u d))
    go (no a) (no b) = absurd (false≢true (rw (ne_eqb _ _ a, ne_eqb _ _ b) at is))

-- what 30, 32 and the two forms of 35 ask for
module _ (h u d : ℕ) where
  join_plan : plan_of (Extended h u d 0x30) ≡ Ok (Run (Join u (group_in d) (reference_in d)))
  unfolding extended_plan
  join_plan = refl

  join_at_plan : plan_of (Extended h u d 0x32) ≡ Ok (Run (JoinAt u (group_in d) (level_in d)))
  unfolding extended_plan
  join_at_plan = refl

  leave_plan_lem : d / 16 ≡ 0 → plan_of (Extended h u d 0x35) ≡ Ok (Run (Leave u (groups_in d)))
  unfolding extended_plan
  leave_plan_lem e = rw e

  leave_house_plan : d / 16 ≡ 15 → plan_of (Extended h u d 0x35) ≡ Ok (Run (LeaveHouse (groups_in d)))
  unfolding extended_plan
  leave_house_plan e = rw e

-- ---- groups and nothing else

-- whether what is asked keeps the groups
abbrev plan_keeps : Result Plan Refusal → Bool
plan_keeps (Ok (Run a)) = keeps_groups a
plan_keeps (Ok (Move a)) = false
plan_keeps (Err why) = false

step_groups : (a : Act) (own : House) (n : ℕ) (r : Record) → keeps_groups a ≡ false → step_record a own n r ≡ with_groups (step_record a own n r).groups r
unfolding step_record
step_groups a own n r leaves = go (present r)
  where
    go : (b : Bool) → pick b (acted a own n r) r ≡ with_groups (pick b (acted a own n r) r).groups r
    go true = sym (rest_kept a own n r leaves)
    go false = refl

-- of a message that asks for no other act, refused or not
groups_alone : (m : Message) (room : Room) (n : ℕ) → n < UNITS → plan_keeps (plan_of m) ≡ false
    → let after = record_at (room_after m room).modules (house_of m * UNITS + n) in
    after ≡ with_groups after.groups (record_at room.modules (house_of m * UNITS + n))
groups_alone m room n below leaves = go (outcome m room)
  where
    before : Record
    before = record_at room.modules (house_of m * UNITS + n)

    Alone : Record → Type 0
    Alone after = after ≡ with_groups after.groups before

    go : Outcome m room → Alone (record_at (room_after m room).modules (house_of m * UNITS + n))
    go (stays why e same) = rw same
    go (did a r) =
        let own = house_at room.modules (house_of m) in
        let left : record_at (room_after m room).modules (house_of m * UNITS + n) ≡ step_record a own n before =
        (record_by_record m room (rw r.answer)).records n below ∙ rw r.plan in
        subst Alone (sym left) (step_groups a own n before (sym (ap plan_keeps r.plan) ∙ leaves))
    go (moved a r) = rw r.left

module _ (h u d : ℕ) where
  -- 30, 32 and 35 ask for none
  asks_for_groups : (c : ℕ) → (eqb c 0x30 || eqb c 0x32 || eqb c 0x35) ≡ true → plan_keeps (plan_of (Extended h u d c)) ≡ false
  unfolding extended_plan
  asks_for_groups c is = go (ℕ_discrete c 0x30) (ℕ_discrete c 0x32) (ℕ_discrete c 0x35)
    where
      go : Dec (c ≡ 0x30) → Dec (c ≡ 0x32) → Dec (c ≡ 0x35) → plan_keeps (plan_of (Extended h u d c)) ≡ false
      go (yes e) _ _ = rw e
      go (no _) (yes e) _ = rw e
      go (no _) (no _) (yes e) =
          rw e (pick_both (λ p. plan_keeps p ≡ false) (eqb (d / 16) 0) _ _ refl (pick_both (λ p. plan_keeps p ≡ false) (eqb (d / 16) 15) _ _ refl refl))
      go (no a) (no b) (no c') = absurd (false≢true (rw (ne_eqb _ _ a, ne_eqb _ _ b, ne_eqb _ _ c') at is))

pub what_is_joined : WhatIsJoined
what_is_joined h u d g room ok house unit byte below =
    record {
      relative = λ here set.
          let named = which_reference.relative d set in
          groups (after 0x30 u _ refl (join_plan h u d) (omega arith))
          ∙ (memberships own u g r here below).joins (group_in d) (reference_in d) (omega (arith, named.1))
          ∙ ap (λ (s : ℕ). pick (eqb (group_in d) g) (joined_as r.level s) (membership g r.groups)) named.0;
      absolute = λ here clear.
          let named = which_reference.absolute d clear in
          groups (after 0x30 u _ refl (join_plan h u d) (omega arith))
          ∙ (memberships own u g r here below).joins (group_in d) (reference_in d) (omega (arith, named))
          ∙ ap (λ (s : ℕ). pick (eqb (group_in d) g) (joined_as r.level s) (membership g r.groups)) named;
      with_preset = λ here.
          groups (after 0x32 u _ refl (join_at_plan h u d) (omega arith)) ∙ (memberships own u g r here below).joins_at (group_in d) (level_in d);
      leaves = λ here e. groups (after 0x35 u _ refl (leave_plan_lem h u d e) (omega arith)) ∙ (memberships own u g r here below).leaves (groups_in d);
      all_leave = λ e n low there.
          groups (after 0x35 n _ refl (leave_house_plan h u d e) low) ∙ (memberships own u g (unit_before room h n) there below).leaves_house (groups_in d) n;
      groups_only = λ c n is low. groups_alone (Extended h u d c) room n low (asks_for_groups h u d c is);
    }
  where
    own : House
    own = house_at room.modules h

    r : Record
    r = unit_before room h u

    after : (c n : ℕ) (a : Act) → leb c 255 ≡ true → plan_of (Extended h u d c) ≡ Ok (Run a) → n < UNITS
        → unit_after room h u d c n ≡ step_record a own n (unit_before room h n)
    after = after_is h u d room ok house unit byte

    -- what follows for the group
    groups : {s q : Record} → s ≡ q → membership g s.groups ≡ membership g q.groups
    groups e = ap (λ (x : Record). membership g x.groups) e
