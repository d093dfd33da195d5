-- Laws of a module table's bytes: how the records lie in them, the houses' own bytes beside them, and an act run. What holds of any table of
-- records is in ground's Records.
--
--     modules_laid, record_sound                                                          what holds of any table of records holds of a module table's
--     preset_at, reference_at, judged_group, read_four                                    a record's presets and references, from where they lie
--     step_keeps, step_sound                                                              every act keeps to it
--     four_stored, stored                                                                 a record put by its parts
--     zeros_ok, zeros_dark                                                                a record of zeros keeps the rules, at level 0
--     length-put_house, byte_put_house, record_put_house, house_put_own, house_put_other  records and houses' own bytes do not meet
--     lit_ext, lit_put_house                                                              the number of lit modules is made of the records alone
--     lit_next, lit_put, lit_none                                                         one unit more; a record put behind those counted; no level above 0
--     by_houses                                                                           a table is judged house by house
--     changed_ext, changed_none                                                           ground's laws, of the count of changed levels
--     ran                                                                                 an act run on a table
use mathlib.Core.Path.{◌≡◌, refl, sym, ap, ap₂, subst, ◌∙◌}
use mathlib.Core.Bool.{Bool, true, ◌&&◌, and_assoc, and_comm}
use mathlib.Core.List.{List, []}
use Prim.Native.Nat.{ℕ, ◌+◌, ◌*◌, ◌≤◌, ◌<◌}
use native.Mathlib.Nat.{add_assoc}
use native.Mathlib.Numerals.{add-one, towards_suc}
use native.Mathlib.Omega.{arith}
use lib.ListN.{length, get_or, set, length-set}
use lib.Seq.{sets, get_or-set_same, get_or-set_other}
use lib.Dec.{eqb}
use Rattle.ground.specs.Choice.{pick}
use Rattle.ground.specs.Records.{bytes_at, Sound, step_each, all_below, each_ok, sum_below}
use Rattle.ground.proofs.Lists.{sets-append, bytes_at_lem, bytes_whole, sets-bytes}
use Rattle.ground.proofs.Records.{laid_by_bytes, put_other, below_at, below_and, below_runs, sum-ext, sum-none, differing_ext, differing_none}
use Rattle.plan.specs.Plans.{bit}
use Rattle.plan.specs.declared.Act.{Act}
use Rattle.record.specs.Layout.{GROUPS, RECORD_BYTES, UNITS, HOUSES, RECORDS, HEARD_AT, LIT_AT, TABLE_BYTES}
use Rattle.record.specs.Layout.{record_at, record_bytes, modules, put, lit_byte, house_at, put_house, member, preset, reference, with_groups}
use Rattle.record.specs.ModuleTable.{group_ok, record_ok, heard_ok, lit_of, lit_to, lit_in, lit_ok, records_ok, houses_ok, step_record, house_after}
use Rattle.record.specs.ModuleTable.{run_act, level_of, changed}
use Rattle.record.specs.Statements.{FourEach}
use Rattle.record.specs.declared.Record.{Record}
use Rattle.record.specs.declared.House.{House}
use Rattle.record.proofs.RecordLaws.{stays_four}
use Rattle.module_table.specs.ModuleRuns.{ModulesLaid, ModulesSound}
use Rattle.module_table.specs.Units.{units_ok}

-- ---- how the records lie

pub modules_laid : ModulesLaid
unfolding record_at
modules_laid = laid_by_bytes modules 11 refl (λ t i. refl) (λ t i. refl)

-- the presets and references, from where they lie
pub preset_at : (t : List ℕ) (i g : ℕ) → g < GROUPS → preset g (record_at t i) ≡ get_or t (i * RECORD_BYTES + 4 + g) 0
unfolding record_at
preset_at t i g h = bytes_at_lem t (i * RECORD_BYTES) 4 GROUPS g h ∙ ap (λ (n : ℕ). get_or t n 0) (sym (add_assoc (i * RECORD_BYTES) 4 g))

pub reference_at : (t : List ℕ) (i g : ℕ) → g < GROUPS → reference g (record_at t i) ≡ get_or t (i * RECORD_BYTES + 8 + g) 0
unfolding record_at
reference_at t i g h = bytes_at_lem t (i * RECORD_BYTES) 8 GROUPS g h ∙ ap (λ (n : ℕ). get_or t n 0) (sym (add_assoc (i * RECORD_BYTES) 8 g))

-- what `groups_ok` asks of group g
pub judged_group : (t : List ℕ) (i g : ℕ) → g < GROUPS
    → let at = i * RECORD_BYTES in let r = record_at t i in
    group_ok (get_or t at 0) (bit g (get_or t (at + 3) 0)) (get_or t (at + 4 + g) 0) (get_or t (at + 8 + g) 0)
    ≡ group_ok r.kind (member g r) (preset g r) (reference g r)
unfolding record_at
judged_group t i g h =
    ap₂ (λ (x s : ℕ). group_ok (get_or t (i * RECORD_BYTES) 0) (bit g (get_or t (i * RECORD_BYTES + 3) 0)) x s)
    (sym (preset_at t i g h)) (sym (reference_at t i g h))

pub read_four : (t : List ℕ) (i : ℕ) → FourEach (record_at t i)
unfolding record_at
read_four t i = (refl, refl)

pub record_sound : ModulesSound
unfolding record_at
record_sound r four = subst (λ (x : Record). Sound modules x) same (record { size = refl; back = refl })
  where
    presets : List ℕ
    presets = bytes_at r.groups.presets 0 0 GROUPS

    references : List ℕ
    references = bytes_at r.groups.references 0 0 GROUPS

    s : Record
    s = with_groups (record { mask = r.groups.mask; presets = presets; references = references }) r

    same : s ≡ r
    same = rw (bytes_whole r.groups.presets GROUPS four.0, bytes_whole r.groups.references GROUPS four.1)

pub step_keeps : (a : Act) (own : House) (k : ℕ) (r : Record) → Sound modules r → Sound modules (step_record a own k r)
step_keeps a own k r sound =
    record_sound (step_record a own k r) (stays_four a own k r (subst FourEach sound.back (read_four (record_bytes r) 0)))

-- a record that is read and stepped
pub step_sound : (a : Act) (own : House) (k i : ℕ) (t : List ℕ) → Sound modules (step_record a own k (record_at t i))
step_sound a own k i t = record_sound (step_record a own k (record_at t i)) (stays_four a own k (record_at t i) (read_four t i))

-- ---- a record stored

-- four bytes, one after the other
pub four_stored : (t : List ℕ) (at : ℕ) (xs : List ℕ) → length xs ≡ GROUPS
    → set (set (set (set t at (get_or xs 0 0)) (at + 1) (get_or xs 1 0)) (at + 2) (get_or xs 2 0)) (at + 3) (get_or xs 3 0) ≡ sets t at xs
four_stored t at xs four = simp towards_suc (sets-bytes t at xs GROUPS four)

-- four bytes, the presets and the references
pub stored : (t : List ℕ) (at : ℕ) (r : Record) → length r.groups.presets ≡ GROUPS
    → sets (sets (set (set (set (set t at r.kind) (at + 1) r.level) (at + 2) r.addressed) (at + 3) r.groups.mask) (at + 4) r.groups.presets)
    (at + 8) r.groups.references
    ≡ sets t at (record_bytes r)
stored t at r four =
    let place : at + 8 ≡ at + 4 + length r.groups.presets = omega arith in
    rw place (sym (sets-append _ (at + 4) r.groups.presets r.groups.references) ∙ simp towards_suc)

pub zeros_ok : record_ok (record_at [] 0) ≡ true
unfolding record_ok record_at all_below
zeros_ok = refl

pub zeros_dark : eqb (record_at [] 0).level 0 ≡ true
unfolding record_at
zeros_dark = refl

-- ---- a house's own bytes

pub length-put_house : (t : List ℕ) (h : ℕ) (own : House) → length (put_house t h own) ≡ length t
unfolding put_house
length-put_house t h own = length-set (set t (HEARD_AT + h) own.heard) (LIT_AT + h) own.lit ∙ length-set t (HEARD_AT + h) own.heard

pub byte_put_house : (t : List ℕ) (h k : ℕ) (own : House) → (k ≡ HEARD_AT + h → ⊥) → (k ≡ LIT_AT + h → ⊥) → get_or (put_house t h own) k 0 ≡ get_or t k 0
unfolding put_house
byte_put_house t h k own heard lit =
    get_or-set_other (set t (HEARD_AT + h) own.heard) (LIT_AT + h) k own.lit 0 lit ∙ get_or-set_other t (HEARD_AT + h) k own.heard 0 heard

pub record_put_house : (t : List ℕ) (i h : ℕ) (own : House) → i < RECORDS → record_at (put_house t h own) i ≡ record_at t i
record_put_house t i h own hi =
    modules_laid.same (put_house t h own) t i i (λ k hk. byte_put_house t h (i * RECORD_BYTES + k) own (λ e. omega arith) (λ e. omega arith))

pub house_put_own : (t : List ℕ) (h : ℕ) (own : House) → h < HOUSES → length t ≡ TABLE_BYTES → house_at (put_house t h own) h ≡ own
unfolding house_at put_house
house_put_own t h own house size =
    let heard = set t (HEARD_AT + h) own.heard in
    let long : length heard ≡ length t = length-set t (HEARD_AT + h) own.heard in
    ap₂ (λ (x y : ℕ). record { heard = x; lit = y })
    (get_or-set_other heard (LIT_AT + h) (HEARD_AT + h) own.lit 0 (λ e. omega arith) ∙ get_or-set_same t (HEARD_AT + h) own.heard 0 (omega arith))
    (get_or-set_same heard (LIT_AT + h) own.lit 0 (omega arith))

pub house_put_other : (t : List ℕ) (h g : ℕ) (own : House) → h < HOUSES → g < HOUSES → (g ≡ h → ⊥) → house_at (put_house t h own) g ≡ house_at t g
unfolding house_at
house_put_other t h g own house there other =
    ap₂ (λ (x y : ℕ). record { heard = x; lit = y })
    (byte_put_house t h (HEARD_AT + g) own (λ e. other (omega arith)) (λ e. omega arith))
    (byte_put_house t h (LIT_AT + g) own (λ e. omega arith) (λ e. other (omega arith)))

-- ---- how many modules are lit

pub lit_ext : (t u : List ℕ) (h n : ℕ) → ((k : ℕ) → k < n → record_at t (h * UNITS + k) ≡ record_at u (h * UNITS + k)) → lit_to t h n ≡ lit_to u h n
lit_ext t u h n e = sum-ext _ _ n (λ k below. ap lit_of (e k below))

pub lit_put_house : (t : List ℕ) (g h : ℕ) (own : House) → g < HOUSES → lit_in (put_house t h own) g ≡ lit_in t g
lit_put_house t g h own there = lit_ext (put_house t h own) t g UNITS (λ k below. record_put_house t (g * UNITS + k) h own (omega arith))

-- one unit more
pub lit_next : (t : List ℕ) (h n lit more : ℕ) → lit ≡ lit_to t h n → more ≡ lit_of (record_at t (h * UNITS + n)) → lit + more ≡ lit_to t h (n + 1)
unfolding sum_below
lit_next t h n lit more so_far last = rw (add-one) (ap₂ ◌+◌ so_far last)

-- and those before it are as they were, where its record is put
pub lit_put : (t u : List ℕ) (h n : ℕ) (r : Record) → Sound modules r → u ≡ put t (h * UNITS + n) r → lit_to t h n ≡ lit_to u h n
lit_put t u h n r sound stored =
    lit_ext t u h n
    (λ k below. sym (ap (λ (l : List ℕ). record_at l (h * UNITS + k)) stored
    ∙ put_other modules modules_laid t (h * UNITS + n) (h * UNITS + k) r sound (λ e. omega arith)))

-- none where each level is 0
pub lit_none : (t : List ℕ) (h n : ℕ) → each_ok modules (λ r. eqb r.level 0) (h * UNITS) n t ≡ true → lit_to t h n ≡ 0
lit_none t h n dark =
    sum-none (λ k. lit_of (record_at t (h * UNITS + k))) n
    (λ k below. ap (λ (b : Bool). pick b 0 1) (below_at (λ j. eqb (record_at t (h * UNITS + j)).level 0) n dark k below))

-- ---- a table judged house by house

pub by_houses : (t : List ℕ) → (all_below HOUSES (units_ok t) && all_below HOUSES (λ h. heard_ok (house_at t h).heard)) ≡ (records_ok RECORDS t && houses_ok HOUSES t)
unfolding house_at
by_houses t =
    let ok : ℕ → Bool = λ i. record_ok (record_at t i) in
    let heard : ℕ → Bool = λ h. heard_ok (house_at t h).heard in
    let lit : ℕ → Bool = λ h. lit_ok (lit_in t h) (lit_byte t h) in
    let all = all_below HOUSES in
    let each : ℕ → Bool = λ h. all_below UNITS (λ k. ok (h * UNITS + k)) in
    ap (λ (b : Bool). b && all heard) (below_and each lit HOUSES ∙ ap (λ (b : Bool). b && all lit) (below_runs ok HOUSES UNITS))
    ∙ and_assoc (records_ok RECORDS t) (all lit) (all heard)
    ∙ ap (λ (b : Bool). records_ok RECORDS t && b) (and_comm (all lit) (all heard) ∙ sym (below_and heard lit HOUSES))

-- ---- the count of changed levels

pub changed_ext : (b t u : List ℕ) → ((i : ℕ) → i < RECORDS → record_at t i ≡ record_at u i) → changed b t ≡ changed b u
changed_ext b t u e = differing_ext modules level_of RECORDS b t u (λ i h. ap level_of (e i h))

pub changed_none : (t : List ℕ) → changed t t ≡ 0
changed_none t = differing_none modules level_of RECORDS t

-- ---- an act run

pub ran : (a : Act) (own next : House) (h lit : ℕ) (t u v : List ℕ) (count : ℕ) → own ≡ house_at t h → next ≡ house_after a lit own
    → (u ≡ step_each modules (step_record a own) (h * UNITS) UNITS t) × (count ≡ changed t u) × (lit ≡ lit_in u h) × (lit ≤ UNITS) → v ≡ put_house u h next
    → (v ≡ run_act a h t) × (count ≡ changed t v)
unfolding run_act
ran a own next h lit t u v count mine after stepped put = (
  put ∙ rw (after, stepped.2, stepped.0, mine),
  stepped.1 ∙ sym (changed_ext t v u (λ i hi. ap (λ (l : List ℕ). record_at l i) put ∙ record_put_house u i h next hi)),
)
