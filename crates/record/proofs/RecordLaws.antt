-- Laws of one record and of a house's own bytes: whatever the act, what keeps the rules keeps them.
--
--     each_of_four                                   what holds of each of the four groups
--     Good, good, good_is_ok, bare_ok                the rules of a record, one by one; an absent module in no group has no preset and no reference
--     full_ok, dark_ok, lit_ok_lem, dimmed_ok, brightened_ok, level_for-ok, preset_ok_lem     levels that a module can have
--     bits_of_lem, mask_low, bit_back, regroup_at, regroup_ext      a mask by its bits; a record is in each group what was told of it
--     shifted, no_bit_of, only_bit, filled, filled_all          one group as a bit; four numbers put one after the other
--     relevel_good, readdress_good, regroup_good     the three ways in which a record changes
--     joined_good, left_good, obeyed_good, acted_good
--     record_stays_valid, absent_stays, stays_four, memberships, house_stays_valid      the statements
--     groups_kept, rest_kept, level_kept, addressed_kept, obeyed_groups, chosen_groups      what an act leaves of a record: GroupsKept, RestKept
use mathlib.Core.Path.{◌≡◌, refl, sym, ap, subst, ◌∙◌}
use mathlib.Core.Bool.{Bool, true, false, not, ◌&&◌, ◌||◌, and-eq-true_iff, or-true, and-true, and-false, true≢false}
use mathlib.Core.List.{List, [], ◌∷◌}
use Prim.Native.Nat.{ℕ, zero, suc, ◌+◌, ◌*◌, ◌/◌, ◌%◌, ◌^◌, ◌≤◌, ◌<◌, min}
use native.Mathlib.Decide.{dec_lt}
use native.Mathlib.Omega.{arith}
use borrow.Author.Tests.{leb-true, eqb-true, eq-eqb, ne_eqb, le-leb, lt-leb}
use lib.Dec.{eqb, leb}
use lib.ListN.{get_or, set, get_or-eq_default}
use Rattle.ground.specs.Choice.{pick}
use Rattle.ground.specs.Records.{all_below, sum_below}
use Rattle.ground.proofs.Choices.{pick_both, both}
use Rattle.ground.proofs.Records.{below_at, below_all}
use Rattle.message.specs.declared.Function.{Function}
use Rattle.message.specs.declared.Function.TheVariants.{AllUnitsOff, AllLightsOn, On, Off, Dim, Bright, AllLightsOff}
use Rattle.message.specs.declared.Function.TheVariants.{HailRequest, HailAcknowledge, StatusOn, StatusOff, StatusRequest}
use Rattle.plan.specs.Plans.{bit, ABSOLUTE}
use Rattle.plan.specs.declared.Act.{Act}
use Rattle.plan.specs.declared.Act.TheVariants.{Nothing, Address, Obey, Join, Level, JoinAt, UnitsOn, UnitsOff}
use Rattle.plan.specs.declared.Act.TheVariants.{Leave, LeaveHouse, Group}
use Rattle.plan.specs.declared.GroupAct.{GroupAct}
use Rattle.plan.specs.declared.GroupAct.TheVariants.{Execute, PutOff, StepDim, StepBright}
use Rattle.record.specs.declared.Record.{Record}
use Rattle.record.specs.declared.Groups.{Groups}
use Rattle.record.specs.declared.Membership.{Membership}
use Rattle.record.specs.declared.House.{House}
use Rattle.record.specs.Layout.{GROUPS, present, lamp, appliance, membership, member, preset, reference, bit_of, mask_of, four_of}
use Rattle.record.specs.Layout.{regroup, with_level, with_addressed, with_groups}
use Rattle.record.specs.ModuleTable.{level_ok, preset_ok, reference_ok, group_ok, groups_ok, fields_ok, all_zeros, record_ok, heard_ok, relevel, lit_level}
use Rattle.record.specs.ModuleTable.{dimmed, brightened, addressed, obeyed, level_for, reached, asked, joined_as, joined, left, acted}
use Rattle.record.specs.ModuleTable.{step_record, heard_after}
use Rattle.record.specs.Parts.{keeps_groups, GroupsKept, RestKept}
use Rattle.record.specs.Statements.{FourEach, StaysFour, RecordStaysValid, Memberships, HouseStaysValid, AbsentStays}

-- ---- the rules, one by one

-- what holds of each of the four
pub each_of_four : (P : ℕ → Type 0) → P 0 → P 1 → P 2 → P 3 → (g : ℕ) → g < GROUPS → P g
each_of_four P a b c d zero h = a
each_of_four P a b c d (suc zero) h = b
each_of_four P a b c d (suc (suc zero)) h = c
each_of_four P a b c d (suc (suc (suc zero))) h = d
each_of_four P a b c d (suc (suc (suc (suc g)))) h = absurd (omega arith)

-- what a module of the kind is in a group
abbrev MembershipOk : ℕ → Membership → Type 0
MembershipOk kind m = group_ok kind m.member m.preset m.reference ≡ true

pub record Good (r : Record) : Type 0 where
  pub kind : leb r.kind 2 ≡ true
  pub level : level_ok r.kind r.level ≡ true
  pub mark : leb r.addressed 1 ≡ true
  pub mask : leb r.groups.mask 15 ≡ true
  pub groups : (g : ℕ) → g < GROUPS → MembershipOk r.kind (membership g r.groups)
  pub zeros : (present r || all_zeros r) ≡ true

pub good : (r : Record) → record_ok r ≡ true → Good r
unfolding record_ok
good r e =
    let all = (and-eq-true_iff (fields_ok r.kind r.level r.addressed r.groups.mask && groups_ok GROUPS r) (present r || all_zeros r)).0 e in
    let most = (and-eq-true_iff (fields_ok r.kind r.level r.addressed r.groups.mask) (groups_ok GROUPS r)).0 all.0 in
    let fields = (and-eq-true_iff (leb r.kind 2 && level_ok r.kind r.level && leb r.addressed 1) (leb r.groups.mask 15)).0 most.0 in
    let three = (and-eq-true_iff (leb r.kind 2 && level_ok r.kind r.level) (leb r.addressed 1)).0 fields.0 in
    let two = (and-eq-true_iff (leb r.kind 2) (level_ok r.kind r.level)).0 three.0 in
    record {
      kind = two.0;
      level = two.1;
      mark = three.1;
      mask = fields.1;
      groups = below_at (λ g. group_ok r.kind (member g r) (preset g r) (reference g r)) GROUPS most.1;
      zeros = all.1;
    }

pub good_is_ok : (r : Record) → Good r → record_ok r ≡ true
unfolding record_ok
good_is_ok r g =
    let fields = both (both (both g.kind g.level) g.mark) g.mask in
    both (both fields (below_all (λ k. group_ok r.kind (member k r) (preset k r) (reference k r)) GROUPS g.groups)) g.zeros

-- an absent module in no group has no preset and no reference by the rules of groups
pub bare_ok : (r : Record)
    → (fields_ok r.kind r.level r.addressed r.groups.mask && groups_ok GROUPS r
    && (present r || (eqb r.level 0 && eqb r.addressed 0 && eqb r.groups.mask 0))) ≡ record_ok r
unfolding record_ok
bare_ok r = go (groups_ok GROUPS r) refl (eqb r.groups.mask 0) refl
  where
    fields : Bool
    fields = fields_ok r.kind r.level r.addressed r.groups.mask

    first : Bool
    first = eqb r.level 0 && eqb r.addressed 0

    none : Bool
    none = all_below GROUPS (λ g. eqb (preset g r) 0 && eqb (reference g r) 0)

    -- in no group
    no_member : r.groups.mask ≡ 0 → (g : ℕ) → g < GROUPS → member g r ≡ false
    no_member e g below = rw e (each_of_four (λ k. bit k 0 ≡ false) refl refl refl refl g below)

    group_zero : (g : ℕ) → group_ok r.kind false (preset g r) (reference g r) ≡ true → (eqb (preset g r) 0 && eqb (reference g r) 0) ≡ true
    group_zero g e =
        let parts = (and-eq-true_iff (preset_ok r.kind false (preset g r)) (reference_ok false (reference g r))).0 e in
        both ((and-eq-true_iff (level_ok r.kind (preset g r)) (eqb (preset g r) 0)).0 parts.0).1
        ((and-eq-true_iff (leb (reference g r) ABSOLUTE) (eqb (reference g r) 0)).0 parts.1).1

    go : (ok : Bool) → groups_ok GROUPS r ≡ ok → (bare : Bool) → eqb r.groups.mask 0 ≡ bare
        → (fields && groups_ok GROUPS r && (present r || (first && eqb r.groups.mask 0)))
        ≡ (fields && groups_ok GROUPS r && (present r || (first && eqb r.groups.mask 0 && none)))
    go false e bare f =
        let gone = and-false fields in
        rw e (ap (λ (b : Bool). b && (present r || (first && eqb r.groups.mask 0))) gone
        ∙ sym (ap (λ (b : Bool). b && (present r || (first && eqb r.groups.mask 0 && none))) gone))
    go true e false f =
        let gone = and-false first in
        rw f (ap (λ (b : Bool). fields && groups_ok GROUPS r && (present r || b)) (gone ∙ sym (ap (λ (b : Bool). b && none) gone)))
    go true e true f =
        let zero : none ≡ true =
        below_all (λ g. eqb (preset g r) 0 && eqb (reference g r) 0) GROUPS
        (λ g below. group_zero g
        (subst (λ (b : Bool). group_ok r.kind b (preset g r) (reference g r) ≡ true) (no_member (eqb-true r.groups.mask 0 f) g below)
        (below_at (λ k. group_ok r.kind (member k r) (preset k r) (reference k r)) GROUPS e g below))) in
        rw zero (ap (λ (b : Bool). fields && groups_ok GROUPS r && (present r || b)) (sym (and-true (first && eqb r.groups.mask 0))))

-- ---- levels that a module can have

pub full_ok : (r : Record) → level_ok r.kind 63 ≡ true
full_ok r = or-true (not (appliance r) || false)

pub dark_ok : (r : Record) → level_ok r.kind 0 ≡ true
dark_ok r = go (appliance r)
  where
    go : (b : Bool) → (not b || true || false) ≡ true
    go true = refl
    go false = refl

pub lit_ok_lem : (r : Record) (l : ℕ) → level_ok r.kind l ≡ true → level_ok r.kind (lit_level l) ≡ true
lit_ok_lem r l e = pick_both (λ x. level_ok r.kind x ≡ true) (eqb l 0) 63 l (full_ok r) e

-- a lamp can have any level up to 63
lamp_ok : (r : Record) (x : ℕ) → lamp r ≡ true → x ≤ 63 → level_ok r.kind x ≡ true
lamp_ok r x e h = rw (le-leb x 63 h, eqb-true r.kind 1 e)

-- a level that a module can have is at most 63
at_most : (r : Record) (x : ℕ) → level_ok r.kind x ≡ true → x ≤ 63
at_most r x e = leb-true x 63 ((and-eq-true_iff (leb x 63) (not (appliance r) || eqb x 0 || eqb x 63)).0 e).0

pub dimmed_ok : (r : Record) → lamp r ≡ true → level_ok r.kind r.level ≡ true → level_ok r.kind (dimmed r.level) ≡ true
dimmed_ok r e h =
    let low : lit_level r.level ≤ 63 = at_most r (lit_level r.level) (lit_ok_lem r r.level h) in
    lamp_ok r (dimmed r.level) e (omega arith)

pub brightened_ok : (r : Record) → lamp r ≡ true → level_ok r.kind (brightened r.level) ≡ true
brightened_ok r e = lamp_ok r (brightened r.level) e (omega arith)

pub level_for-ok : (b : ℕ) (r : Record) → level_ok r.kind (level_for b r) ≡ true
level_for-ok b r = go (appliance r) refl (eqb b 0) refl
  where
    low : leb (min 63 b) 63 ≡ true
    low = le-leb (min 63 b) 63 (omega arith)

    go : (a : Bool) → appliance r ≡ a → (z : Bool) → eqb b 0 ≡ z → level_ok r.kind (level_for b r) ≡ true
    go true e true z = let none : min 63 b ≡ 0 = omega (arith, eqb-true b 0 z) in simp (e, z, none)
    go true e false z = simp (e, z)
    go false e z f = simp (e, low)

-- a preset of a group is such a level; beyond the four groups there is 0
pub preset_ok_lem : (r : Record) → Good r → FourEach r → (g : ℕ) → level_ok r.kind (preset g r) ≡ true
preset_ok_lem r good four g = go (dec_lt g GROUPS)
  where
    go : Dec (g < GROUPS) → level_ok r.kind (preset g r) ≡ true
    go (yes below) =
        let preset' = ((and-eq-true_iff (preset_ok r.kind (member g r) (preset g r)) (reference_ok (member g r) (reference g r))).0 (good.groups g below)).0 in
        ((and-eq-true_iff (level_ok r.kind (preset g r)) (member g r || eqb (preset g r) 0)).0 preset').0
    go (no beyond) =
        let none : preset g r ≡ 0 = get_or-eq_default r.groups.presets 0 (omega (arith, four.0)) in
        rw none (dark_ok r)

-- ---- the three ways in which a record changes

module _ (r : Record) (g : Good r) (here : present r ≡ true) where
  -- another level, where the test holds
  pub relevel_good : (b : Bool) (x : ℕ) → (b ≡ true → level_ok r.kind x ≡ true) → Good (relevel b x r)
  relevel_good true x h =
      record { kind = g.kind; level = h refl; mark = g.mark; mask = g.mask; groups = g.groups; zeros = rw here }
  relevel_good false x h = g

  -- another mark of being addressed
  pub readdress_good : (x : ℕ) → leb x 1 ≡ true → Good (with_addressed x r)
  readdress_good x h =
      record { kind = g.kind; level = g.level; mark = h; mask = g.mask; groups = g.groups; zeros = rw here }

-- ---- the four groups

-- a bit of a mask, as 1 or 0
abbrev one : Bool → ℕ
one b = pick b 1 0

weighed : (b : Bool) (w : ℕ) → pick b w 0 ≡ one b * w
weighed true w = omega arith
weighed false w = omega arith

one_low : (b : Bool) → one b ≤ 1
one_low true = omega arith
one_low false = omega arith

one_told : (b : Bool) → eqb (one b) 1 ≡ b
one_told true = refl
one_told false = refl

-- a mask is the sum of its bits
module _ (told : ℕ → Bool) where
  bits_of_lem : (mask_of told ≡ one (told 0) + one (told 1) * 2 + one (told 2) * 4 + one (told 3) * 8)
      × (one (told 0) ≤ 1) × (one (told 1) ≤ 1) × (one (told 2) ≤ 1) × (one (told 3) ≤ 1)
  unfolding sum_below
  bits_of_lem = (
    omega (arith, weighed (told 0) 1, weighed (told 1) 2, weighed (told 2) 4, weighed (told 3) 8),
    one_low (told 0),
    one_low (told 1),
    one_low (told 2),
    one_low (told 3),
  )

  mask_low : leb (mask_of told) 15 ≡ true
  mask_low = let is = bits_of_lem in le-leb (mask_of told) 15 (omega (arith, is.0, is.1, is.2, is.3, is.4))

  -- and they are read back
  bit_back : (g : ℕ) → g < GROUPS → bit g (mask_of told) ≡ told g
  bit_back =
      let is = bits_of_lem in
      let back : (b : Bool) (x : ℕ) → x ≡ one b → eqb x 1 ≡ b = λ b x e. rw e (one_told b) in
      each_of_four (λ g. bit g (mask_of told) ≡ told g)
      (back (told 0) (mask_of told / 1 % 2) (omega (arith, is.0, is.1, is.2, is.3, is.4)))
      (back (told 1) (mask_of told / 2 % 2) (omega (arith, is.0, is.1, is.2, is.3, is.4)))
      (back (told 2) (mask_of told / 4 % 2) (omega (arith, is.0, is.1, is.2, is.3, is.4)))
      (back (told 3) (mask_of told / 8 % 2) (omega (arith, is.0, is.1, is.2, is.3, is.4)))

-- a bit by a shift, and which bit it is
pub shifted : (g : ℕ) → g ≤ 3 → (1 * 2 ^ g % 256 ≡ bit_of g) × (1 * 2 ^ g % 256 ≤ 8)
shifted g low =
    each_of_four (λ g. (1 * 2 ^ g % 256 ≡ bit_of g) × (1 * 2 ^ g % 256 ≤ 8)) (refl, omega arith) (refl, omega arith) (refl, omega arith) (refl, omega arith)
    g (omega arith)

pub no_bit_of : (g : ℕ) → (g ≤ 3 → ⊥) → (0 ≡ bit_of g)
no_bit_of g high = rw (lt-leb g 3 (omega arith))

pub only_bit : (g k : ℕ) → k < GROUPS → bit k (bit_of g) ≡ eqb g k
only_bit g k below = go (dec_lt g GROUPS)
  where
    go : Dec (g < GROUPS) → bit k (bit_of g) ≡ eqb g k
    go (yes low) =
        each_of_four (λ j. (i : ℕ) → i < GROUPS → bit i (bit_of j) ≡ eqb j i) (each_of_four _ refl refl refl refl) (each_of_four _ refl refl refl refl)
        (each_of_four _ refl refl refl refl) (each_of_four _ refl refl refl refl) g low k below
    go (no high) =
        rw (sym (no_bit_of g (λ e. omega arith)), ne_eqb g k (λ e. omega arith))
        (each_of_four (λ i. bit i 0 ≡ false) refl refl refl refl k below)

-- what is told of the groups matters for the four alone
pub regroup_ext : (f h : ℕ → Membership) → ((k : ℕ) → k < GROUPS → f k ≡ h k) → regroup f ≡ regroup h
unfolding regroup sum_below
regroup_ext f h e = rw (e 0 (omega arith), e 1 (omega arith), e 2 (omega arith), e 3 (omega arith))

-- four numbers put one after the other
unfoldable pub filled : ℕ → (ℕ → ℕ) → List ℕ
filled zero f = 0 ∷ 0 ∷ 0 ∷ 0 ∷ []
filled (suc k) f = set (filled k f) k (f k)

pub filled_all : (f : ℕ → ℕ) → filled GROUPS f ≡ four_of f
unfolding filled
filled_all f = refl

-- a record is in each group what was told of it
pub regroup_at : (told : ℕ → Membership) (g : ℕ) → g < GROUPS → membership g (regroup told) ≡ told g
unfolding regroup
regroup_at told g below =
    ap (λ (b : Bool). record { member = b; preset = get_or (four_of (λ k. (told k).preset)) g 0; reference = get_or (four_of (λ k. (told k).reference)) g 0 })
    (bit_back (λ k. (told k).member) g below)
    ∙ each_of_four
    (λ k. record {
      member = (told k).member;
      preset = get_or (four_of (λ j. (told j).preset)) k 0;
      reference = get_or (four_of (λ j. (told j).reference)) k 0;
    } ≡ told k) refl refl refl refl g below

module _ (r : Record) (g : Good r) (here : present r ≡ true) where
  low : (told : ℕ → Membership) → leb (regroup told).mask 15 ≡ true
  unfolding regroup
  low told = mask_low (λ k. (told k).member)

  -- other memberships
  pub regroup_good : (told : ℕ → Membership) → ((k : ℕ) → k < GROUPS → MembershipOk r.kind (told k)) → Good (with_groups (regroup told) r)
  regroup_good told h =
      record {
        kind = g.kind;
        level = g.level;
        mark = g.mark;
        mask = low told;
        groups = λ k below. subst (MembershipOk r.kind) (sym (regroup_at told k below)) (h k below);
        zeros = rw here;
      }

  pub joined_good : (j x s : ℕ) → level_ok r.kind x ≡ true → Good (with_groups (joined j x s r.groups) r)
  unfolding joined
  joined_good j x s h =
      regroup_good _
      (λ k below. pick_both (MembershipOk r.kind) (eqb j k) _ _ (rw (h, le-leb (min ABSOLUTE s) ABSOLUTE (omega arith))) (g.groups k below))

  pub left_good : (gs : ℕ) → Good (with_groups (left gs r.groups) r)
  unfolding left
  left_good gs =
      regroup_good _
      (λ k below. pick_both (MembershipOk r.kind) (bit k gs) _ _ (rw (dark_ok r)) (g.groups k below))

  -- ---- the acts

  -- a step is for lamps
  step_ok : (x : ℕ) → (lamp r ≡ true → level_ok r.kind x ≡ true) → level_ok r.kind (pick (lamp r) x r.level) ≡ true
  step_ok x h = go (lamp r) refl
    where
      go : (b : Bool) → lamp r ≡ b → level_ok r.kind (pick b x r.level) ≡ true
      go true e = h e
      go false e = g.level

  asked_ok : FourEach r → (ask : GroupAct) (j : ℕ) → level_ok r.kind (asked ask j r) ≡ true
  asked_ok four Execute j = preset_ok_lem r g four j
  asked_ok four PutOff j = dark_ok r
  asked_ok four StepDim j = step_ok (dimmed r.level) (λ e. dimmed_ok r e g.level)
  asked_ok four StepBright j = step_ok (brightened r.level) (λ e. brightened_ok r e)

  pub obeyed_good : (f : Function) → Good (obeyed f r)
  obeyed_good On = relevel_good r g here (addressed r) (lit_level r.level) (λ e. lit_ok_lem r r.level g.level)
  obeyed_good Off = relevel_good r g here (addressed r) 0 (λ e. dark_ok r)
  obeyed_good Dim =
      relevel_good r g here (addressed r && lamp r) (dimmed r.level)
      (λ e. dimmed_ok r ((and-eq-true_iff (addressed r) (lamp r)).0 e).1 g.level)
  obeyed_good Bright =
      relevel_good r g here (addressed r && lamp r) (brightened r.level)
      (λ e. brightened_ok r ((and-eq-true_iff (addressed r) (lamp r)).0 e).1)
  obeyed_good AllLightsOn = relevel_good r g here (lamp r) 63 (λ e. full_ok r)
  obeyed_good AllLightsOff = relevel_good r g here (lamp r) 0 (λ e. dark_ok r)
  obeyed_good AllUnitsOff = readdress_good (with_level 0 r) (relevel_good r g here true 0 (λ e. dark_ok r)) here 0 refl
  obeyed_good HailRequest = g
  obeyed_good HailAcknowledge = g
  obeyed_good StatusOn = g
  obeyed_good StatusOff = g
  obeyed_good StatusRequest = g

  pub acted_good : FourEach r → (a : Act) (own : House) (n : ℕ) → Good (acted a own n r)
  acted_good four Nothing own n = g
  acted_good four (Address u) own n =
      readdress_good r g here (pick (eqb n u) 1 (pick (eqb own.heard 1) 0 r.addressed))
      (pick_both (λ x. leb x 1 ≡ true) (eqb n u) 1 (pick (eqb own.heard 1) 0 r.addressed) refl
      (pick_both (λ x. leb x 1 ≡ true) (eqb own.heard 1) 0 r.addressed refl g.mark))
  acted_good four (Obey f) own n = obeyed_good f
  acted_good four (Join u j s) own n = pick_both Good (eqb n u) _ _ (joined_good j r.level s g.level) g
  acted_good four (Level u b) own n = relevel_good r g here (eqb n u) (level_for b r) (λ e. level_for-ok b r)
  acted_good four (JoinAt u j b) own n = pick_both Good (eqb n u) _ _ (joined_good j (level_for b r) ABSOLUTE (level_for-ok b r)) g
  acted_good four UnitsOn own n = relevel_good r g here true 63 (λ e. full_ok r)
  acted_good four UnitsOff own n = relevel_good r g here true 0 (λ e. dark_ok r)
  acted_good four (Leave u gs) own n = pick_both Good (eqb n u) _ _ (left_good gs) g
  acted_good four (LeaveHouse gs) own n = left_good gs
  acted_good four (Group j s ask) own n = relevel_good r g here (reached j s r) (asked ask j r) (λ e. asked_ok four ask j)

pub absent_stays : AbsentStays
unfolding step_record
absent_stays a own n r gone = rw gone

pub record_stays_valid : RecordStaysValid
unfolding step_record
record_stays_valid a own n r four e = go (present r) refl
  where
    go : (b : Bool) → present r ≡ b → record_ok (pick b (acted a own n r) r) ≡ true
    go true here = good_is_ok (acted a own n r) (acted_good r (good r e) here four a own n)
    go false gone = e

-- ---- the presets and references are four each

-- a function leaves the kind and the groups
obeyed_rest : (f : Function) (r : Record) → with_level (obeyed f r).level (with_addressed (obeyed f r).addressed r) ≡ obeyed f r
obeyed_rest On r = refl
obeyed_rest Off r = refl
obeyed_rest Dim r = refl
obeyed_rest Bright r = refl
obeyed_rest AllLightsOn r = refl
obeyed_rest AllLightsOff r = refl
obeyed_rest AllUnitsOff r = refl
obeyed_rest HailRequest r = refl
obeyed_rest HailAcknowledge r = refl
obeyed_rest StatusOn r = refl
obeyed_rest StatusOff r = refl
obeyed_rest StatusRequest r = refl

regroup_four : (told : ℕ → Membership) (r : Record) → FourEach (with_groups (regroup told) r)
unfolding regroup
regroup_four told r = (refl, refl)

obeyed_four : (f : Function) (r : Record) → FourEach r → FourEach (obeyed f r)
obeyed_four f r four = subst FourEach (obeyed_rest f r) four

acted_four : (a : Act) (own : House) (n : ℕ) (r : Record) → FourEach r → FourEach (acted a own n r)
unfolding joined left
acted_four Nothing own n r four = four
acted_four (Address u) own n r four = four
acted_four (Obey f) own n r four = obeyed_four f r four
acted_four (Join u g s) own n r four = pick_both FourEach (eqb n u) _ _ (regroup_four _ r) four
acted_four (Level u b) own n r four = four
acted_four (JoinAt u g b) own n r four = pick_both FourEach (eqb n u) _ _ (regroup_four _ r) four
acted_four UnitsOn own n r four = four
acted_four UnitsOff own n r four = four
acted_four (Leave u gs) own n r four = pick_both FourEach (eqb n u) _ _ (regroup_four _ r) four
acted_four (LeaveHouse gs) own n r four = regroup_four _ r
acted_four (Group g s ask) own n r four = four

pub stays_four : StaysFour
unfolding step_record
stays_four a own n r four = pick_both FourEach (present r) _ _ (acted_four a own n r four) four

-- ---- the two parts of a record

-- a part of a record where no module is there, or else of what the act makes of it
pub part_after : {A : Type 0} (b : Bool) (f : Record → A) (s r : Record) → pick b (f r) (f s) ≡ f (pick (not b) s r)
part_after true f s r = refl
part_after false f s r = refl

pub groups_kept : GroupsKept
groups_kept Nothing own n r e = refl
groups_kept (Address u) own n r e = refl
groups_kept (Obey f) own n r e = obeyed_rest f r
groups_kept (Join u g s) own n r e = absurd (true≢false (sym e))
groups_kept (Level u b) own n r e = refl
groups_kept (JoinAt u g b) own n r e = absurd (true≢false (sym e))
groups_kept UnitsOn own n r e = refl
groups_kept UnitsOff own n r e = refl
groups_kept (Leave u gs) own n r e = absurd (true≢false (sym e))
groups_kept (LeaveHouse gs) own n r e = absurd (true≢false (sym e))
groups_kept (Group g s ask) own n r e = refl

pub obeyed_groups : (f : Function) (r : Record) → r.groups ≡ (obeyed f r).groups
obeyed_groups f r = ap (λ (s : Record). s.groups) (obeyed_rest f r)

-- other groups, where the test holds
pub chosen_groups : (b : Bool) (of : Groups) (r : Record) → pick b of r.groups ≡ (pick b (with_groups of r) r).groups
chosen_groups true of r = refl
chosen_groups false of r = refl

chosen : (b : Bool) (of : Groups) (r : Record) → with_groups (pick b (with_groups of r) r).groups r ≡ pick b (with_groups of r) r
chosen true of r = refl
chosen false of r = refl

pub rest_kept : RestKept
rest_kept Nothing own n r e = absurd (true≢false e)
rest_kept (Address u) own n r e = absurd (true≢false e)
rest_kept (Obey f) own n r e = absurd (true≢false e)
rest_kept (Join u g s) own n r e = chosen (eqb n u) _ r
rest_kept (Level u b) own n r e = absurd (true≢false e)
rest_kept (JoinAt u g b) own n r e = chosen (eqb n u) _ r
rest_kept UnitsOn own n r e = absurd (true≢false e)
rest_kept UnitsOff own n r e = absurd (true≢false e)
rest_kept (Leave u gs) own n r e = chosen (eqb n u) _ r
rest_kept (LeaveHouse gs) own n r e = refl
rest_kept (Group g s ask) own n r e = absurd (true≢false e)

pub level_kept : (a : Act) (own : House) (n : ℕ) (r : Record) → keeps_groups a ≡ false → (acted a own n r).level ≡ r.level
level_kept a own n r e = sym (ap (λ (s : Record). s.level) (rest_kept a own n r e))

pub addressed_kept : (a : Act) (own : House) (n : ℕ) (r : Record) → keeps_groups a ≡ false → (acted a own n r).addressed ≡ r.addressed
addressed_kept a own n r e = sym (ap (λ (s : Record). s.addressed) (rest_kept a own n r e))

-- ---- joining and leaving, group by group

pub memberships : Memberships
unfolding step_record joined left
memberships own u g r here below =
    let same : eqb u u ≡ true = eq-eqb u u refl in
    record {
      joins = λ k s low.
          let least : min ABSOLUTE s ≡ s = omega arith in
          rw (here, same) (regroup_at _ g below ∙ ap (λ (x : ℕ). pick (eqb k g) (joined_as r.level x) (membership g r.groups)) least);
      joins_at = λ k b. rw (here, same) (regroup_at _ g below);
      leaves = λ gs. rw (here, same) (regroup_at _ g below);
      leaves_house = λ gs n. rw here (regroup_at _ g below);
    }

-- ---- a house's own bytes

heard_stays : (a : Act) (x : ℕ) → heard_ok x ≡ true → heard_ok (heard_after a x) ≡ true
heard_stays Nothing x e = e
heard_stays (Address u) x e = refl
heard_stays (Obey f) x e = refl
heard_stays (Join u g s) x e = e
heard_stays (Level u b) x e = e
heard_stays (JoinAt u g b) x e = e
heard_stays UnitsOn x e = e
heard_stays UnitsOff x e = e
heard_stays (Leave u gs) x e = e
heard_stays (LeaveHouse gs) x e = e
heard_stays (Group g s ask) x e = e

pub house_stays_valid : HouseStaysValid
house_stays_valid a own before above e =
    let heard = ((and-eq-true_iff (heard_ok own.heard) (eqb own.lit before)).0 e).0 in
    (and-eq-true_iff (heard_ok (heard_after a own.heard)) (eqb above above)).1 (heard_stays a own.heard heard, eq-eqb above above refl)
