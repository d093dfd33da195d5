-- Laws of a shutter table.
--
--     shutters_laid                                                 ShuttersLaid
--     mark_at_lem, opening_at_lem                                   a shutter's marks and openings, from where they lie
--     judged_absent, judged_fields, judged_styles                   what is answered of an absent shutter, and of another
--     eight_stored, stored, fields_stored                           a shutter put by its parts
--     eight_sound, sound_eight                                      a shutter is sound exactly where its marks and openings are eight each
--     step_keeps, after_keeps                                       a motion leaves a sound shutter sound
--     moved_keeps, moved_stored                                     a motion that leaves the lifestyles
--     zeros_ok                                                      a shutter of zeros keeps the rules
--     each_shutter                                                  EachShutter
--     stepped_at, absent_at                                         one shutter stepped
--     run_of                                                        the places that a motion covers, each stepped, are the table after it
--     Whole, whole_table                                            what a valid table is
--     shutters_stay_valid, own_shutters_only, openings_at_most_256  ShuttersStayValid, OwnShuttersOnly, OpeningsAtMost256
--     openings_none                                                 a table that is left has no opening that differs
use mathlib.Core.Path.{◌≡◌, refl, sym, ap, subst, ◌∙◌}
use mathlib.Core.Bool.{Bool, true, false, ◌&&◌, true≢false, false≢true, and-eq-true_iff}
use mathlib.Core.List.{List, [], ◌∷◌}
use mathlib.Core.Logic.{⊎_elim}
use Prim.Native.Nat.{ℕ, ◌+◌, ◌-◌, ◌*◌, ◌/◌, ◌%◌, ◌≤◌, ◌<◌}
use native.Mathlib.Nat.{add_assoc, zero-add}
use native.Mathlib.Decide.{dec_lt}
use native.Mathlib.Numerals.{towards_suc}
use native.Mathlib.Omega.{arith}
use borrow.Author.Tests.{eqb-true, eqb-false, eq-eqb, ne_eqb, leb-true, ltb-true, le-leb, lt-ltb}
use lib.Dec.{eqb, leb, ltb}
use lib.ListN.{length, get_or, set, get_or-eq_default}
use lib.Seq.{sets, length-sets}
use Rattle.ground.specs.Choice.{pick}
use Rattle.ground.specs.Records.{bytes_at, put_at, step_each, Stepped, all_below, Sound}
use Rattle.ground.proofs.Choices.{pick_both, both}
use Rattle.ground.proofs.Lists.{sets-append, bytes_at_lem, bytes_same, bytes_whole, sets-bytes}
use Rattle.ground.proofs.Records.{laid_by_bytes, Apart, get_d_sets_before, get_d_sets_after, get_d_sets_in}
use Rattle.ground.proofs.Records.{put_as, each-length, each_other, each_at, same_records, differing_none, differing_at_most, below_at, below_all}
use Rattle.plan.specs.declared.Motion.{Motion}
use Rattle.plan.specs.declared.Motion.TheVariants.{SelfTest, OpenProtected, Limit, OpenUnprotected, OpenHouse, OpenAll}
use Rattle.plan.specs.declared.Motion.TheVariants.{Include, Begin, Exclude, ExcludeAll, CloseHouse, CloseAll}
use Rattle.shutter.specs.declared.Shutter.{Shutter}
use Rattle.shutter.specs.Shutters.{LIFESTYLES, present, fields_ok, lifestyles_ok, no_lifestyles, shutter_ok, of_house, reaches, included, moved, step_shutter}
use Rattle.shutter.specs.Statements.{EightEach}
use Rattle.shutter.proofs.ShutterLaws.{absent_ok, present_ok, absent_shutter_stays, stays_eight, shutter_stays_valid, moved_present}
use Rattle.shutter_table.specs.Covers.{Covers}
use Rattle.shutter_table.specs.Kept.{keeps_lifestyles}
use Rattle.shutter_table.specs.ShutterTable.{SHUTTER_BYTES, SHUTTERS, SHUTTER_TABLE_BYTES, shutter_at, shutter_bytes, shutters, shutters_ok}
use Rattle.shutter_table.specs.ShutterTable.{shutter_after, move_all, opening_of, openings_changed}
use Rattle.shutter_table.specs.Statements.{ShuttersLaid, ShuttersSound, ShutterByShutter, EachShutter, ShuttersStayValid, OwnShuttersOnly}
use Rattle.shutter_table.specs.Statements.{OpeningsAtMost256}

-- ---- one shutter's twenty bytes

-- a shutter is made of its twenty bytes, one after the other
pub shutters_laid : ShuttersLaid
unfolding shutter_at
shutters_laid = laid_by_bytes shutters 19 refl (λ t i. refl) (λ t i. refl)

-- its marks and openings, from where they lie
pub mark_at_lem : (t : List ℕ) (i l : ℕ) → l < LIFESTYLES → get_or (shutter_at t i).marks l 0 ≡ get_or t (i * SHUTTER_BYTES + 4 + l) 0
unfolding shutter_at
mark_at_lem t i l h = bytes_at_lem t (i * SHUTTER_BYTES) 4 8 l h ∙ ap (λ (n : ℕ). get_or t n 0) (sym (add_assoc (i * SHUTTER_BYTES) 4 l))

pub opening_at_lem : (t : List ℕ) (i l : ℕ) → l < LIFESTYLES → get_or (shutter_at t i).openings l 0 ≡ get_or t (i * SHUTTER_BYTES + 12 + l) 0
unfolding shutter_at
opening_at_lem t i l h = bytes_at_lem t (i * SHUTTER_BYTES) 12 8 l h ∙ ap (λ (n : ℕ). get_or t n 0) (sym (add_assoc (i * SHUTTER_BYTES) 12 l))

-- what `shutter_ok` answers of an absent shutter, and of another
pub judged_absent : (t : List ℕ) (i : ℕ) {none : Bool} → get_or t (i * SHUTTER_BYTES) 0 ≡ 0 → none ≡ no_lifestyles LIFESTYLES (shutter_at t i)
    → (eqb (get_or t (i * SHUTTER_BYTES + 1) 0) 0 && eqb (get_or t (i * SHUTTER_BYTES + 2) 0) 0 && eqb (get_or t (i * SHUTTER_BYTES + 3) 0) 0 && none)
    ≡ shutter_ok (shutter_at t i)
unfolding shutter_at
judged_absent t i away e = rw e (sym (absent_ok (shutter_at t i) away))

module _ (t : List ℕ) (i : ℕ) (here : get_or t (i * SHUTTER_BYTES) 0 ≡ 0 → ⊥) {fields : Bool}
    (e : fields ≡ fields_ok (get_or t (i * SHUTTER_BYTES) 0) (get_or t (i * SHUTTER_BYTES + 1) 0) (get_or t (i * SHUTTER_BYTES + 2) 0)
    (get_or t (i * SHUTTER_BYTES + 3) 0)) where
  pub judged_fields : fields ≡ false → false ≡ shutter_ok (shutter_at t i)
  unfolding shutter_at
  judged_fields h = sym (present_ok (shutter_at t i) here ∙ ap (λ (x : Bool). x && lifestyles_ok LIFESTYLES (shutter_at t i)) (sym e ∙ h))

  pub judged_styles : {styles : Bool} → fields ≡ true → styles ≡ lifestyles_ok LIFESTYLES (shutter_at t i) → styles ≡ shutter_ok (shutter_at t i)
  unfolding shutter_at
  judged_styles h d = d ∙ sym (present_ok (shutter_at t i) here ∙ ap (λ (x : Bool). x && lifestyles_ok LIFESTYLES (shutter_at t i)) (sym e ∙ h))

-- ---- a shutter stored

-- eight bytes, one after the other
pub eight_stored : (t : List ℕ) (at : ℕ) (xs : List ℕ) → length xs ≡ LIFESTYLES
    → set (set (set (set (set (set (set (set t at (get_or xs 0 0)) (at + 1) (get_or xs 1 0)) (at + 2) (get_or xs 2 0)) (at + 3) (get_or xs 3 0)) (at + 4) (get_or xs 4 0))
    (at + 5) (get_or xs 5 0)) (at + 6) (get_or xs 6 0)) (at + 7) (get_or xs 7 0)
    ≡ sets t at xs
eight_stored t at xs eight = simp towards_suc (sets-bytes t at xs LIFESTYLES eight)

-- four bytes, the marks and the openings
pub stored : (t : List ℕ) (at : ℕ) (s : Shutter) → length s.marks ≡ LIFESTYLES
    → sets (sets (set (set (set (set t at s.present) (at + 1) s.opening) (at + 2) s.limit) (at + 3) s.protection) (at + 4) s.marks)
    (at + 12) s.openings
    ≡ sets t at (shutter_bytes s)
stored t at s eight =
    let place : at + 12 ≡ at + 4 + length s.marks = omega arith in
    rw place (sym (sets-append _ (at + 4) s.marks s.openings) ∙ simp towards_suc)

-- a shutter put whose presence and lifestyles are those that lie there: three bytes
pub fields_stored : (t : List ℕ) (i : ℕ) (s : Shutter) → i * SHUTTER_BYTES + SHUTTER_BYTES ≤ length t
    → (shutter_at t i).present ≡ s.present → (shutter_at t i).marks ≡ s.marks → (shutter_at t i).openings ≡ s.openings
    → sets t (i * SHUTTER_BYTES + 1) (s.opening ∷ s.limit ∷ s.protection ∷ []) ≡ put_at shutters t i s
unfolding shutter_at
fields_stored t i s fits here marks openings =
    sym (ap (put_at shutters t i) (sym read) ∙ put_as shutters shutters_laid t u i fits (length-sets t (at + 1) three) outside)
  where
    at : ℕ
    at = i * SHUTTER_BYTES

    three : List ℕ
    three = s.opening ∷ s.limit ∷ s.protection ∷ []

    u : List ℕ
    u = sets t (at + 1) three

    -- the bytes before and after the three are left
    first : get_or u at 0 ≡ get_or t at 0
    first = get_d_sets_before three t (at + 1) at 0 (omega arith)

    past : (k : ℕ) → at + 4 ≤ k → get_or u k 0 ≡ get_or t k 0
    past k far = get_d_sets_after three t (at + 1) k 0 (omega arith)

    outside : (j : ℕ) → Apart shutters i j → get_or u j 0 ≡ get_or t j 0
    outside j = ⊎_elim (λ before. get_d_sets_before three t (at + 1) j 0 (omega arith)) (λ after. past j (omega arith))

    -- and the three are read back
    put : (k : ℕ) → k < 3 → get_or u (at + (1 + k)) 0 ≡ get_or three k 0
    put k small = ap (λ (n : ℕ). get_or u n 0) (sym (add_assoc at 1 k)) ∙ get_d_sets_in three t (at + 1) k 0 small (omega arith)

    eight : (k : ℕ) → 4 ≤ k → bytes_at u at k 8 ≡ bytes_at t at k 8
    eight k far = bytes_same u t at at k 8 (λ j below. past (at + (k + j)) (omega arith))

    read : shutter_at u i ≡ s
    read =
        rw (
          first,
          here,
          put 0 (omega arith),
          put 1 (omega arith),
          put 2 (omega arith),
          eight 4 (omega arith),
          eight 12 (omega arith),
          marks,
          openings,
        )

-- ---- sound shutters

pub eight_sound : ShuttersSound
unfolding shutter_at
eight_sound s e = subst (λ (x : Shutter). Sound shutters x) same (record { size = refl; back = back })
  where
    m : List ℕ
    m = bytes_at s.marks 0 0 8

    o : List ℕ
    o = bytes_at s.openings 0 0 8

    r : Shutter
    r = record { present = s.present; opening = s.opening; limit = s.limit; protection = s.protection; marks = m; openings = o }

    back : shutter_at (shutter_bytes r) 0 ≡ r
    back = refl

    same : r ≡ s
    same = rw (bytes_whole s.marks 8 e.0, bytes_whole s.openings 8 e.1)

read_eight : (t : List ℕ) (i : ℕ) → EightEach (shutter_at t i)
unfolding shutter_at
read_eight t i = (refl, refl)

pub sound_eight : (s : Shutter) → Sound shutters s → EightEach s
sound_eight s sound = subst EightEach sound.back (read_eight (shutter_bytes s) 0)

pub step_keeps : (a : Motion) (k : ℕ) (s : Shutter) → Sound shutters s → Sound shutters (step_shutter a s)
step_keeps a k s sound = eight_sound (step_shutter a s) (stays_eight a s (sound_eight s sound))

pub after_keeps : (a : Motion) (h k : ℕ) (s : Shutter) → Sound shutters s → Sound shutters (shutter_after a h k s)
after_keeps a h k s sound = pick_both (λ x. Sound shutters x) (reaches a h k) _ _ (step_keeps a k s sound) sound

-- ---- what a motion leaves

moved_keeps : (a : Motion) (s : Shutter) → keeps_lifestyles a ≡ true → (s.marks ≡ (moved a s).marks) × (s.openings ≡ (moved a s).openings)
moved_keeps (OpenProtected u x) s keeps = (refl, refl)
moved_keeps (Limit u x) s keeps = (refl, refl)
moved_keeps (OpenUnprotected u x) s keeps = (refl, refl)
moved_keeps OpenHouse s keeps = (refl, refl)
moved_keeps OpenAll s keeps = (refl, refl)
moved_keeps (Include u l x) s keeps = absurd (false≢true keeps)
moved_keeps (Begin l) s keeps =
    pick_both (λ (r : Shutter). (s.marks ≡ r.marks) × (s.openings ≡ r.openings)) (included l s) _ _ (refl, refl) (refl, refl)
moved_keeps (Exclude u l) s keeps = absurd (false≢true keeps)
moved_keeps ExcludeAll s keeps = absurd (false≢true keeps)
moved_keeps CloseHouse s keeps = (refl, refl)
moved_keeps CloseAll s keeps = (refl, refl)
moved_keeps SelfTest s keeps = (refl, refl)

-- what a motion makes of a shutter, where it leaves the lifestyles, is put by three bytes
pub moved_stored : (a : Motion) (t : List ℕ) (i : ℕ) (s : Shutter) → length t ≡ SHUTTER_TABLE_BYTES → i < SHUTTERS → s ≡ step_shutter a (shutter_at t i)
    → keeps_lifestyles a ≡ true → sets t (i * SHUTTER_BYTES + 1) (s.opening ∷ s.limit ∷ s.protection ∷ []) ≡ put_at shutters t i s
unfolding step_shutter
moved_stored a t i s size below made keeps =
    let old = shutter_at t i in
    let kept = moved_keeps a old keeps in
    let same : (old.present ≡ (step_shutter a old).present) × (old.marks ≡ (step_shutter a old).marks) × (old.openings ≡ (step_shutter a old).openings) =
    pick_both (λ (r : Shutter). (old.present ≡ r.present) × (old.marks ≡ r.marks) × (old.openings ≡ r.openings)) (present old) _ _
    (sym (moved_present a old), kept.0, kept.1) (refl, refl, refl) in
    let all : (old.present ≡ s.present) × (old.marks ≡ s.marks) × (old.openings ≡ s.openings) =
    subst (λ (r : Shutter). (old.present ≡ r.present) × (old.marks ≡ r.marks) × (old.openings ≡ r.openings)) (sym made) same in
    fields_stored t i s (omega arith) all.0 all.1 all.2

-- ---- a table judged

-- a shutter of zeros keeps the rules
pub zeros_ok : shutter_ok (shutter_at [] 0) ≡ true
unfolding shutter_ok shutter_at all_below
zeros_ok = refl

-- ---- a motion on the table

pub each_shutter : EachShutter
unfolding move_all
each_shutter a h t size = record {
  long = each-length shutters shutters_laid (shutter_after a h) (after_keeps a h) 0 t SHUTTERS;
  each = λ i below. rw zero-add at (each_at shutters shutters_laid (shutter_after a h) (after_keeps a h) 0 t SHUTTERS i below (omega arith));
}

-- one shutter read, stepped and stored
pub stepped_at : (a : Motion) (i : ℕ) (t u : List ℕ) (before after : Shutter) (answer : ℕ) → before ≡ shutter_at t i → after ≡ step_shutter a before
    → u ≡ put_at shutters t i after → (answer ≡ pick (eqb before.opening after.opening) 0 1) × (answer ≤ 1)
    → Stepped shutters opening_of (step_shutter a) i t u answer
stepped_at a i t u before after answer read made put count = record { table = put ∙ rw (made, read); count = count.0 ∙ rw (made, read); small = count.1 }

-- an absent shutter is stepped by leaving it
pub absent_at : (a : Motion) (i : ℕ) (t : List ℕ) → length t ≡ SHUTTER_TABLE_BYTES → i < SHUTTERS → present (shutter_at t i) ≡ false
    → Stepped shutters opening_of (step_shutter a) i t t 0
absent_at a i t size below absent =
    let stays : step_shutter a (shutter_at t i) ≡ shutter_at t i = absent_shutter_stays a (shutter_at t i) absent in
    record {
      table = sym (ap (put_at shutters t i) stays ∙ put_as shutters shutters_laid t t i (omega arith) refl (λ j off. refl));
      count = rw (stays, eq-eqb (shutter_at t i).opening (shutter_at t i).opening refl);
      small = omega arith;
    }

-- the places that a motion covers, each stepped, are the table after it
module _ (a : Motion) (h first many : ℕ) (covers : Covers a h first many) (t : List ℕ) (size : length t ≡ SHUTTER_TABLE_BYTES) where
  abbrev run : List ℕ
  run = step_each shutters (λ k. step_shutter a) first many t

  run_length : length run ≡ length t
  run_length = each-length shutters shutters_laid (λ k. step_shutter a) (step_keeps a) first t many

  run_at : (i : ℕ) → i < SHUTTERS → (b : Bool) → (leb first i && ltb i (first + many)) ≡ b
      → shutter_at run i ≡ pick b (step_shutter a (shutter_at t i)) (shutter_at t i)
  run_at i below true e =
      let p = (and-eq-true_iff (leb first i) (ltb i (first + many))).0 e in
      let from : first ≤ i = leb-true first i p.0 in
      let to : i < first + many = ltb-true i (first + many) p.1 in
      let place : first + (i - first) ≡ i = omega arith in
      subst (λ (j : ℕ). shutter_at run j ≡ step_shutter a (shutter_at t j)) place
      (each_at shutters shutters_laid (λ k. step_shutter a) (step_keeps a) first t many (i - first) (omega arith) (omega (arith, covers.within)))
  run_at i below false e =
      each_other shutters shutters_laid (λ k. step_shutter a) (step_keeps a) first t many i
      (λ k hk q. true≢false (sym (both (le-leb first i (omega arith)) (lt-ltb i (first + many) (omega arith))) ∙ e))

  pub run_of : run ≡ move_all a h t
  run_of =
      same_records shutters shutters_laid run (move_all a h t) SHUTTERS (run_length ∙ size) ((each_shutter a h t size).long ∙ sym run_length)
      (λ i below. run_at i below _ (sym (covers.exactly i below)) ∙ sym ((each_shutter a h t size).each i below))

-- ---- what holds of every table

pub openings_at_most_256 : OpeningsAtMost256
openings_at_most_256 before after = differing_at_most shutters opening_of SHUTTERS before after

pub openings_none : (t : List ℕ) → openings_changed t t ≡ 0
openings_none t = differing_none shutters opening_of SHUTTERS t

pub own_shutters_only : OwnShuttersOnly
own_shutters_only a h t k size home other = go (dec_lt k SHUTTER_TABLE_BYTES)
  where
    by : ShutterByShutter a h t
    by = each_shutter a h t size

    i : ℕ
    i = k / SHUTTER_BYTES

    go : Dec (k < SHUTTER_TABLE_BYTES) → get_or (move_all a h t) k 0 ≡ get_or t k 0
    go (no past) =
        get_or-eq_default (move_all a h t) 0 (omega (arith, by.long)) ∙ sym (get_or-eq_default t 0 (omega arith))
    go (yes low) =
        let place : i * SHUTTER_BYTES + k % SHUTTER_BYTES ≡ k = omega arith in
        let house : of_house h i ≡ false = ne_eqb (i / 16) h (λ e. eqb-false (k / (16 * SHUTTER_BYTES)) h other (omega arith)) in
        let stays : shutter_at (move_all a h t) i ≡ shutter_at t i = by.each i (omega arith) ∙ rw (home i house) in
        subst (λ (j : ℕ). get_or (move_all a h t) j 0 ≡ get_or t j 0) place
        (shutters_laid.byte (move_all a h t) i (k % SHUTTER_BYTES) (omega arith)
        ∙ ap (λ (s : Shutter). get_or (shutter_bytes s) (k % SHUTTER_BYTES) 0) stays
        ∙ sym (shutters_laid.byte t i (k % SHUTTER_BYTES) (omega arith)))

-- the length and the shutters of a valid table
pub record Whole (t : List ℕ) : Type 0 where
  pub long : eqb (length t) SHUTTER_TABLE_BYTES ≡ true
  pub size : length t ≡ SHUTTER_TABLE_BYTES
  pub each : (i : ℕ) → i < SHUTTERS → shutter_ok (shutter_at t i) ≡ true

pub whole_table : (t : List ℕ) → shutters_ok t ≡ true → Whole t
unfolding shutters_ok
whole_table t e =
    let p = (and-eq-true_iff (eqb (length t) SHUTTER_TABLE_BYTES) (all_below SHUTTERS (λ i. shutter_ok (shutter_at t i)))).0 e in
    record { long = p.0; size = eqb-true (length t) SHUTTER_TABLE_BYTES p.0; each = below_at (λ i. shutter_ok (shutter_at t i)) SHUTTERS p.1 }

pub shutters_stay_valid : ShuttersStayValid
unfolding shutters_ok
shutters_stay_valid a h t low ok =
    let was = whole_table t ok in
    let by = each_shutter a h t was.size in
    rw (by.long, was.long)
    (below_all (λ i. shutter_ok (shutter_at (move_all a h t) i)) SHUTTERS
    (λ i below. rw (by.each i below)
    (pick_both (λ s. shutter_ok s ≡ true) (reaches a h i) _ _
    (shutter_stays_valid a (shutter_at t i) (read_eight t i) low (was.each i below)) (was.each i below))))
