-- Laws of a record that an act leaves as it is, or in part.
--
--     unlevelled, unlevelled_both, unchosen            a level that is not changed, a record that is not chosen
--     unpassed, uncalled, elsewhere, unaddressed       a record that is not among those that an act may change
--     still                                            what the act would leave, stepping it leaves
--     alone, relevelled, regrouped, kept               a record stepped in a table: left, in two bytes, in its groups, passed over
use mathlib.Core.Path.{◌≡◌, refl, sym, ap, ap₂, ◌∙◌}
use mathlib.Core.Bool.{Bool, true, false, ◌&&◌, ◌||◌, true≢false}
use mathlib.Core.List.{List}
use mathlib.Core.Logic.{⊎_elim}
use Prim.Native.Nat.{ℕ, ◌+◌, ◌*◌, ◌≤◌, ◌<◌}
use native.Mathlib.Omega.{arith}
use borrow.Author.Tests.{leb-false, eq-eqb, ne_eqb}
use lib.Dec.{eqb, leb}
use lib.ListN.{length, get_or, set, length-set}
use lib.Seq.{get_or-set_same, get_or-set_other}
use Rattle.ground.specs.Choice.{pick}
use Rattle.ground.specs.Records.{bytes_at, Stepped}
use Rattle.ground.proofs.Choices.{pick_both}
use Rattle.ground.proofs.Lists.{bytes_same}
use Rattle.ground.proofs.Records.{Apart, put_as}
use Rattle.plan.specs.declared.Act.{Act}
use Rattle.plan.specs.declared.Act.TheVariants.{Address}
use Rattle.record.specs.declared.Record.{Record}
use Rattle.record.specs.declared.Groups.{Groups}
use Rattle.record.specs.declared.House.{House}
use Rattle.record.specs.Layout.{GROUPS, RECORD_BYTES, RECORDS, TABLE_BYTES, record_at, modules, put, present, with_level, with_addressed, with_groups}
use Rattle.record.specs.ModuleTable.{relevel, addressed, acted, step_record, level_of}
use Rattle.record.specs.Parts.{keeps_groups}
use Rattle.record.proofs.RecordLaws.{groups_kept, rest_kept, level_kept}
use Rattle.module_table.specs.Reaches.{may_change, Spares}
use Rattle.module_table.specs.declared.Reach.{Reach}
use Rattle.module_table.proofs.TableLaws.{modules_laid}

pub unlevelled : (b : Bool) (x : ℕ) (r : Record) → b ≡ false → relevel b x r ≡ r
unlevelled b x r e = rw e

-- by two tests of which the first fails
pub unlevelled_both : (a b : Bool) (x : ℕ) (r : Record) → a ≡ false → relevel (a && b) x r ≡ r
unlevelled_both a b x r e = rw e

pub unchosen : (b : Bool) (s r : Record) → b ≡ false → pick b s r ≡ r
unchosen b s r e = rw e

-- the "addressed" byte and the unit of a record that is passed over
passed : (x n u floor : ℕ) → (leb floor x || eqb n u) ≡ false → (x < floor) × (eqb n u ≡ false)
passed x n u floor = go (leb floor x) refl (eqb n u)
  where
    go : (a : Bool) → leb floor x ≡ a → (b : Bool) → (a || b) ≡ false → (x < floor) × (b ≡ false)
    go true e b q = absurd (true≢false q)
    go false e b q = (leb-false floor x e, q)

-- none, by an act that may change any
pub unpassed : (n : ℕ) (r : Record) → (leb 0 r.addressed || eqb n 255) ≡ false → ⊥
unpassed n r q = let low : r.addressed < 0 = (passed r.addressed n 255 0 q).0 in omega arith

-- one that is not addressed, by a function for those that are
pub uncalled : (n : ℕ) (r : Record) → (leb 1 r.addressed || eqb n 255) ≡ false → addressed r ≡ false
uncalled n r q = let low : r.addressed < 1 = (passed r.addressed n 255 1 q).0 in ne_eqb r.addressed 1 (λ e. omega arith)

-- one of another unit, by an act for one unit
pub elsewhere : (n u : ℕ) (r : Record) → (leb 2 r.addressed || eqb n u) ≡ false → eqb n u ≡ false
elsewhere n u r q = (passed r.addressed n u 2 q).1

-- one of another unit that is not addressed, or of a house that has heard no function since, by an address
pub unaddressed : (u n : ℕ) (own : House) (r : Record) → (leb (pick (eqb own.heard 1) 1 2) r.addressed || eqb n u) ≡ false
    → acted (Address u) own n r ≡ r
unaddressed u n own r q =
    let told = passed r.addressed n u (pick (eqb own.heard 1) 1 2) q in
    rw told.1 (go (eqb own.heard 1) told.0)
  where
    go : (b : Bool) → r.addressed < pick b 1 2 → with_addressed (pick b 0 r.addressed) r ≡ r
    go true low = ap (λ (x : ℕ). with_addressed x r) (omega arith)
    go false low = refl

pub still : (a : Act) (own : House) (n : ℕ) (r : Record) → acted a own n r ≡ r → step_record a own n r ≡ r
unfolding step_record
still a own n r e = pick_both (λ (s : Record). s ≡ r) (present r) (acted a own n r) r e refl

there : (a : Act) (own : House) (n : ℕ) (r : Record) → present r ≡ true → step_record a own n r ≡ acted a own n r
unfolding step_record
there a own n r here = rw here

-- two bytes stored are a record put
put_two : (t : List ℕ) (i x y : ℕ) → length t ≡ TABLE_BYTES → i < RECORDS
    → put t i (with_level x (with_addressed y (record_at t i))) ≡ set (set t (i * RECORD_BYTES + 1) x) (i * RECORD_BYTES + 2) y
unfolding record_at
put_two t i x y whole low =
    let stored : record_at u i ≡ with_level x (with_addressed y (record_at t i)) =
    rw (
      other at (λ e. omega arith) (λ e. omega arith),
      get_or-set_other (set t (at + 1) x) (at + 2) (at + 1) y 0 (λ e. omega arith),
      get_or-set_same t (at + 1) x 0 (omega arith),
      get_or-set_same (set t (at + 1) x) (at + 2) y 0 (omega (arith, length-set t (at + 1) x)),
      other (at + 3) (λ e. omega arith) (λ e. omega arith),
      behind 4 (omega arith),
      behind 8 (omega arith),
    ) in
    ap (λ (s : Record). put t i s) (sym stored)
    ∙ put_as modules modules_laid t u i (omega arith) (length-set (set t (at + 1) x) (at + 2) y ∙ length-set t (at + 1) x)
    (λ j apart. other j (λ e. beyond j apart (omega arith)) (λ e. beyond j apart (omega arith)))
  where
    at : ℕ
    at = i * RECORD_BYTES

    u : List ℕ
    u = set (set t (at + 1) x) (at + 2) y

    other : (j : ℕ) → (j ≡ at + 1 → ⊥) → (j ≡ at + 2 → ⊥) → get_or u j 0 ≡ get_or t j 0
    other j one two = get_or-set_other (set t (at + 1) x) (at + 2) j y 0 two ∙ get_or-set_other t (at + 1) j x 0 one

    -- four bytes behind them
    behind : (k : ℕ) → 4 ≤ k → bytes_at u at k GROUPS ≡ bytes_at t at k GROUPS
    behind k far = bytes_same u t at at k GROUPS (λ j below. other (at + (k + j)) (λ e. omega arith) (λ e. omega arith))

    beyond : (j : ℕ) → Apart modules i j → (at ≤ j) × (j < at + RECORD_BYTES) → ⊥
    beyond j = ⊎_elim (λ before within. omega arith) (λ behind within. omega arith)

module _ (a : Act) (own : House) (n i : ℕ) (t : List ℕ) (whole : length t ≡ TABLE_BYTES) (low : i < RECORDS) where
  abbrev r : Record
  r = record_at t i

  -- a record that stays is stepped by leaving it
  pub alone : step_record a own n (record_at t i) ≡ record_at t i → Stepped modules level_of (step_record a own n) i t t 0
  alone stays =
      record {
        table = sym (ap (λ (s : Record). put t i s) stays ∙ put_as modules modules_laid t t i (omega arith) refl (λ j apart. refl));
        count = rw (stays, eq-eqb (record_at t i).level (record_at t i).level refl);
        small = omega arith;
      }

  -- where a module is, by the record s that was read
  module _ (here : present (record_at t i) ≡ true) (s : Record) (read : s ≡ record_at t i) where
    -- by an act that keeps the groups: two bytes
    pub relevelled : (x y answer : ℕ) → keeps_groups a ≡ true → x ≡ (step_record a own n s).level → y ≡ (step_record a own n s).addressed
        → (answer ≡ pick (eqb s.level x) 0 1) × (answer ≤ 1)
        → Stepped modules level_of (step_record a own n) i t (set (set t (i * RECORD_BYTES + 1) x) (i * RECORD_BYTES + 2) y) answer
    relevelled x y answer keeps level mark counted =
        let level' : x ≡ (step_record a own n r).level = level ∙ ap (λ (q : Record). (step_record a own n q).level) read in
        let mark' : y ≡ (step_record a own n r).addressed = mark ∙ ap (λ (q : Record). (step_record a own n q).addressed) read in
        let is = there a own n r here in
        let same : with_level x (with_addressed y r) ≡ step_record a own n r =
        ap₂ (λ (l m : ℕ). with_level l (with_addressed m r)) level' mark'
        ∙ ap (λ (q : Record). with_level q.level (with_addressed q.addressed r)) is ∙ groups_kept a own n r keeps ∙ sym is in
        record {
          table = sym (put_two t i x y whole low) ∙ ap (λ (q : Record). put t i q) same;
          count = counted.0 ∙ ap₂ (λ (q v : Record). pick (eqb q.level v.level) 0 1) read same;
          small = counted.1;
        }

    -- by one that does not: no level changes
    pub regrouped : (of : Groups) (u : List ℕ) → keeps_groups a ≡ false → of ≡ (step_record a own n s).groups → u ≡ put t i (with_groups of s)
        → Stepped modules level_of (step_record a own n) i t u 0
    regrouped of u leaves groups stored =
        let is = there a own n r here in
        let same : with_groups of s ≡ step_record a own n r =
        ap (λ (q : Groups). with_groups q s) groups ∙ ap (λ (q : Record). with_groups (step_record a own n q).groups q) read
        ∙ ap (λ (q : Record). with_groups q.groups r) is ∙ rest_kept a own n r leaves ∙ sym is in
        let level : (step_record a own n r).level ≡ r.level = ap (λ (q : Record). q.level) is ∙ level_kept a own n r leaves in
        record {
          table = stored ∙ ap (λ (q : Record). put t i q) same;
          count = sym (ap (λ (b : Bool). pick b 0 1) (eq-eqb r.level (step_record a own n r).level (sym level)));
          small = omega arith;
        }

-- what is left of a record that is not among those told
pub kept : (a : Act) (own : House) (n i : ℕ) (t : List ℕ) (o : Reach) → length t ≡ TABLE_BYTES → i < RECORDS → Spares a own o
    → may_change o n (record_at t i) ≡ false → Stepped modules level_of (step_record a own n) i t t 0
kept a own n i t o whole low spares q = alone a own n i t whole low (spares.stays n (record_at t i) q)
