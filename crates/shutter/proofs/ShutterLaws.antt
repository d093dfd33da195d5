-- Laws of one shutter: whatever the motion, a shutter that keeps the rules keeps them.
--
--     Fit, fit, fit_ok                              the rules of a shutter that is present, one by one, but for the limit's
--     absent_ok, present_ok                         a valid shutter that is absent, and one that is not
--     valid_within                                  the limit's rule
--     by_most                                       the fields' rules by how far a shutter may be open
--     set-lifestyles                                the rule of the lifestyles after one of them changed
--     opening_fit, limit_fit, protection_fit, lifestyles_fit, moved_fit     the ways in which a shutter changes
--     cut_fit, cut_low, cut_within, cut_once        the cut
--     shutter_stays_valid, absent_shutter_stays     ShutterStaysValid, AbsentShutterStays
--     cut_to_the_limit, only_then_cut, stored_not_cut    CutToTheLimit, OnlyThenCut, StoredNotCut
--     stays_eight, twice_as_once                    StaysEight, TwiceAsOnce
use mathlib.Core.Path.{◌≡◌, refl, sym, ap, ap₂, subst, ◌∙◌}
use mathlib.Core.Bool.{Bool, true, false, not, ◌&&◌, ◌||◌, and-true, and-false, and-eq-true_iff}
use mathlib.Core.List.{List}
use Prim.Native.Nat.{ℕ, ◌≤◌, ◌<◌, min}
use native.Mathlib.Omega.{arith}
use native.Mathlib.Decide.{ℕ_discrete, dec_lt}
use borrow.Author.Tests.{leb-true, eqb-true, eq-eqb, le-leb}
use lib.Dec.{eqb, leb}
use lib.ListN.{length, get_or, set, replicate, length-set, get_or-eq_default}
use lib.Seq.{get_or-set_same, get_or-set_other, set-set}
use Rattle.ground.specs.Choice.{pick}
use Rattle.ground.specs.Records.{all_below}
use Rattle.ground.proofs.Choices.{pick_both, both}
use Rattle.plan.specs.Motions.{OPEN, motion_fits}
use Rattle.plan.specs.declared.Motion.{Motion}
use Rattle.plan.specs.declared.Motion.TheVariants.{SelfTest, OpenProtected, Limit, OpenUnprotected, OpenHouse, OpenAll}
use Rattle.plan.specs.declared.Motion.TheVariants.{Include, Begin, Exclude, ExcludeAll, CloseHouse, CloseAll}
use Rattle.shutter.specs.declared.Shutter.{Shutter}
use Rattle.shutter.specs.Shutters.{present, protected, LIFESTYLES, included, opening_for, lifestyle_ok, lifestyles_ok, fields_ok}
use Rattle.shutter.specs.Shutters.{no_lifestyles, all_zeros, shutter_ok, with_opening, with_limit, with_protection, with_lifestyles, moved, cut, step_shutter}
use Rattle.shutter.specs.Statements.{EightEach, ShutterStaysValid, AbsentShutterStays, CutToTheLimit, StaysEight, OnlyThenCut}
use Rattle.shutter.specs.Statements.{StoredNotCut, TwiceAsOnce}
use Rattle.ground.proofs.Records.{below_at, below_all}

-- ---- the rules, one by one

pub record Fit (s : Shutter) : Type 0 where
  pub here : present s ≡ true
  pub opening : leb s.opening OPEN ≡ true
  pub limit : leb s.limit OPEN ≡ true
  pub protection : leb s.protection 1 ≡ true
  pub lifestyles : lifestyles_ok LIFESTYLES s ≡ true

-- the fields' rules, one by one
pub record Fields (s : Shutter) : Type 0 where
  pub one : leb s.present 1 ≡ true
  pub opening : leb s.opening OPEN ≡ true
  pub limit : leb s.limit OPEN ≡ true
  pub protection : leb s.protection 1 ≡ true
  pub within : (not (protected s) || leb s.opening s.limit) ≡ true

abbrev fields_of : Shutter → Bool
fields_of s = fields_ok s.present s.opening s.limit s.protection

fields : (s : Shutter) → fields_of s ≡ true → Fields s
fields s e =
    let p4 = (and-eq-true_iff (leb s.present 1 && leb s.opening OPEN && leb s.limit OPEN && leb s.protection 1) _).0 e in
    let p3 = (and-eq-true_iff (leb s.present 1 && leb s.opening OPEN && leb s.limit OPEN) (leb s.protection 1)).0 p4.0 in
    let p2 = (and-eq-true_iff (leb s.present 1 && leb s.opening OPEN) (leb s.limit OPEN)).0 p3.0 in
    let p1 = (and-eq-true_iff (leb s.present 1) (leb s.opening OPEN)).0 p2.0 in
    record { one = p1.0; opening = p1.1; limit = p2.1; protection = p3.1; within = p4.1 }

-- how far a shutter may be open: within its limit or fully open it is not above 25
pub by_most : (present opening limit protection : ℕ)
    → (leb present 1 && leb limit OPEN && leb protection 1 && leb opening (pick (eqb protection 1) limit OPEN)) ≡ fields_ok present opening limit protection
by_most present opening limit protection = go (leb present 1) (leb protection 1) (eqb protection 1) (leb limit OPEN) refl (leb opening limit) refl
  where
    go : (p q e : Bool) (l : Bool) → leb limit OPEN ≡ l → (w : Bool) → leb opening limit ≡ w
        → (p && leb limit OPEN && q && leb opening (pick e limit OPEN)) ≡ (p && leb opening OPEN && leb limit OPEN && q && (not e || leb opening limit))
    go false q e l h w k = refl
    go true q false l h w k = turned (leb limit OPEN) q (leb opening OPEN)
      where
        turned : (l q o : Bool) → (l && q && o) ≡ (o && l && q && true)
        turned l q true = refl
        turned true true false = refl
        turned true false false = refl
        turned false q false = refl
    go true q true false h w k = rw h (sym (ap (λ (b : Bool). b && q && leb opening limit) (and-false (leb opening OPEN))))
    go true q true true h true k =
        let low : leb opening OPEN ≡ true = le-leb opening OPEN (omega (arith, leb-true opening limit k, leb-true limit OPEN h)) in
        rw (h, k, low)
    go true q true true h false k = rw (h, k) (and-false q ∙ sym (and-false (leb opening OPEN && true && q)))

-- and the others of a valid shutter
rules : (s : Shutter) → shutter_ok s ≡ true → (Fields s) × (lifestyles_ok LIFESTYLES s ≡ true)
unfolding shutter_ok
rules s e =
    let p = (and-eq-true_iff (fields_of s && lifestyles_ok LIFESTYLES s) (present s || all_zeros s)).0 e in
    let q = (and-eq-true_iff (fields_of s) (lifestyles_ok LIFESTYLES s)).0 p.0 in
    (fields s q.0, q.1)

pub fit : (s : Shutter) → present s ≡ true → shutter_ok s ≡ true → Fit s
fit s here e =
    let (f, styles) = rules s e in
    record { here = here; opening = f.opening; limit = f.limit; protection = f.protection; lifestyles = styles }

-- an absent shutter is valid where it is all zeros, and a present one where it keeps the others
pub absent_ok : (s : Shutter) → s.present ≡ 0 → shutter_ok s ≡ all_zeros s
unfolding shutter_ok
absent_ok s none = go (all_zeros s) refl
  where
    here : present s ≡ false
    here = rw none

    go : (b : Bool) → all_zeros s ≡ b → shutter_ok s ≡ all_zeros s
    go true e =
        let parts = (and-eq-true_iff (eqb s.opening 0 && eqb s.limit 0 && eqb s.protection 0) (no_lifestyles LIFESTYLES s)).0 e in
        let last = (and-eq-true_iff (eqb s.opening 0 && eqb s.limit 0) (eqb s.protection 0)).0 parts.0 in
        let first = (and-eq-true_iff (eqb s.opening 0) (eqb s.limit 0)).0 last.0 in
        let styles : lifestyles_ok LIFESTYLES s ≡ true =
        below_all _ LIFESTYLES (λ l below.
        let zero = (and-eq-true_iff (eqb (get_or s.marks l 0) 0) (eqb (opening_for l s) 0)).0
        (below_at (λ k. eqb (get_or s.marks k 0) 0 && eqb (opening_for k s) 0) LIFESTYLES parts.1 l below) in
        rw (eqb-true (get_or s.marks l 0) 0 zero.0, eqb-true (opening_for l s) 0 zero.1)) in
        let field : fields_of s ≡ true =
        rw (none, eqb-true s.opening 0 first.0, eqb-true s.limit 0 first.1, eqb-true s.protection 0 last.1) in
        let zeros : (present s || all_zeros s) ≡ true = rw (here, e) in
        both (both field styles) zeros ∙ sym e
    go false e =
        let front : Bool = fields_of s && lifestyles_ok LIFESTYLES s in
        let zeros : (present s || all_zeros s) ≡ false = rw (here, e) in
        ap (λ (x : Bool). front && x) zeros ∙ and-false front ∙ sym e

pub present_ok : (s : Shutter) → (s.present ≡ 0 → ⊥) → shutter_ok s ≡ (fields_of s && lifestyles_ok LIFESTYLES s)
unfolding shutter_ok
present_ok s some = go (leb s.present 1) refl
  where
    go : (b : Bool) → leb s.present 1 ≡ b → shutter_ok s ≡ (fields_of s && lifestyles_ok LIFESTYLES s)
    go true e = rw (eq-eqb s.present 1 (omega (arith, leb-true s.present 1 e))) (and-true _)
    go false e = rw e

-- of a valid shutter, present or not
pub valid_within : (s : Shutter) → shutter_ok s ≡ true → protected s ≡ true → s.opening ≤ s.limit
valid_within s e on = leb-true s.opening s.limit (rw on at (rules s e).0.within)

pub fit_ok : (s : Shutter) → Fit s → (not (protected s) || leb s.opening s.limit) ≡ true → shutter_ok s ≡ true
unfolding shutter_ok
fit_ok s f within =
    let one : leb s.present 1 ≡ true = le-leb s.present 1 (omega (arith, eqb-true s.present 1 f.here)) in
    let field = both (both (both (both one f.opening) f.limit) f.protection) within in
    both (both field f.lifestyles) (rw f.here)

-- ---- the lifestyles after one of them changed

-- the rule at every lifestyle, of marks and openings
abbrev Styles : List ℕ → List ℕ → Type 0
Styles marks openings = all_below LIFESTYLES (λ l. lifestyle_ok (get_or marks l 0) (get_or openings l 0)) ≡ true

pub set-lifestyles : (marks openings : List ℕ) → length marks ≡ LIFESTYLES → length openings ≡ LIFESTYLES → Styles marks openings
    → (l mark x : ℕ) → lifestyle_ok mark x ≡ true → Styles (set marks l mark) (set openings l x)
set-lifestyles marks openings m8 o8 ok l mark x new = below_all _ LIFESTYLES (λ i below. go i below (ℕ_discrete i l))
  where
    go : (i : ℕ) → i < LIFESTYLES → Dec (i ≡ l) → lifestyle_ok (get_or (set marks l mark) i 0) (get_or (set openings l x) i 0) ≡ true
    go i below (yes same) =
        rw (same, get_or-set_same marks l mark 0 (omega arith), get_or-set_same openings l x 0 (omega arith)) new
    go i below (no other) =
        rw (get_or-set_other marks l i mark 0 other, get_or-set_other openings l i x 0 other)
        (below_at (λ k. lifestyle_ok (get_or marks k 0) (get_or openings k 0)) LIFESTYLES ok i below)

-- ---- the ways in which a shutter changes

module _ (s : Shutter) (f : Fit s) where
  pub opening_fit : (x : ℕ) → leb x OPEN ≡ true → Fit (with_opening x s)
  opening_fit x low =
      record { here = f.here; opening = low; limit = f.limit; protection = f.protection; lifestyles = f.lifestyles }

  pub limit_fit : (x : ℕ) → leb x OPEN ≡ true → Fit (with_limit x s)
  limit_fit x low =
      record { here = f.here; opening = f.opening; limit = low; protection = f.protection; lifestyles = f.lifestyles }

  pub protection_fit : (p : ℕ) → leb p 1 ≡ true → Fit (with_protection p s)
  protection_fit p h = record { here = f.here; opening = f.opening; limit = f.limit; protection = h; lifestyles = f.lifestyles }

  pub lifestyles_fit : (marks openings : List ℕ) → Styles marks openings → Fit (with_lifestyles marks openings s)
  lifestyles_fit marks openings h =
      record { here = f.here; opening = f.opening; limit = f.limit; protection = f.protection; lifestyles = h }

  pub cut_fit : Fit (cut s)
  cut_fit =
      let low : s.opening ≤ OPEN = leb-true s.opening OPEN f.opening in
      record {
        here = f.here;
        opening = le-leb _ _ (pick_both (λ x. x ≤ OPEN) (protected s) _ _ (omega arith) low);
        limit = f.limit;
        protection = f.protection;
        lifestyles = f.lifestyles;
      }

-- an opening stored for a lifestyle is one; beyond the eight there is 0
stored_low : (s : Shutter) → Fit s → (l : ℕ) → EightEach s → leb (opening_for l s) OPEN ≡ true
stored_low s f l eight = go (dec_lt l LIFESTYLES)
  where
    go : Dec (l < LIFESTYLES) → leb (opening_for l s) OPEN ≡ true
    go (yes below) =
        let rule = below_at (λ k. lifestyle_ok (get_or s.marks k 0) (opening_for k s)) LIFESTYLES f.lifestyles l below in
        let ranges = ((and-eq-true_iff (leb (get_or s.marks l 0) 1 && leb (opening_for l s) OPEN) _).0 rule).0 in
        ((and-eq-true_iff (leb (get_or s.marks l 0) 1) (leb (opening_for l s) OPEN)).0 ranges).1
    go (no beyond) = let none : opening_for l s ≡ 0 = get_or-eq_default s.openings 0 (omega (arith, eight.1)) in rw none

-- the shutter after a motion, before the cut
pub moved_fit : (a : Motion) (s : Shutter) → EightEach s → motion_fits a ≡ true → Fit s → Fit (moved a s)
unfolding all_below
moved_fit (OpenProtected u x) s eight low f = protection_fit (with_opening x s) (opening_fit s f x low) 1 refl
moved_fit (Limit u x) s eight low f = protection_fit (with_limit x s) (limit_fit s f x low) 1 refl
moved_fit (OpenUnprotected u x) s eight low f = protection_fit (with_opening x s) (opening_fit s f x low) 0 refl
moved_fit OpenHouse s eight low f = protection_fit (with_opening OPEN s) (opening_fit s f OPEN refl) 0 refl
moved_fit OpenAll s eight low f = protection_fit (with_opening OPEN s) (opening_fit s f OPEN refl) 0 refl
moved_fit (Include u l x) s eight low f =
    lifestyles_fit s f _ _ (set-lifestyles s.marks s.openings eight.0 eight.1 f.lifestyles l 1 x (rw low))
moved_fit (Begin l) s eight low f = pick_both Fit (included l s) _ _ (opening_fit s f (opening_for l s) (stored_low s f l eight)) f
moved_fit (Exclude u l) s eight low f = lifestyles_fit s f _ _ (set-lifestyles s.marks s.openings eight.0 eight.1 f.lifestyles l 0 0 refl)
moved_fit ExcludeAll s eight low f = lifestyles_fit s f (replicate LIFESTYLES 0) (replicate LIFESTYLES 0) refl
moved_fit CloseHouse s eight low f = protection_fit (with_opening 0 s) (opening_fit s f 0 refl) 1 refl
moved_fit CloseAll s eight low f = protection_fit (with_opening 0 s) (opening_fit s f 0 refl) 1 refl
moved_fit SelfTest s eight low f = f

-- ---- the cut

-- with protection on the opening is then at most the limit
pub cut_low : (s : Shutter) → protected s ≡ true → (cut s).opening ≤ s.limit
cut_low s on = rw on (omega arith)

pub cut_within : (s : Shutter) → (not (protected (cut s)) || leb (cut s).opening (cut s).limit) ≡ true
cut_within s = go (protected s) (cut s).opening s.limit (cut_low s)
  where
    go : (p : Bool) (x l : ℕ) → (p ≡ true → x ≤ l) → (not p || leb x l) ≡ true
    go true x l low = le-leb x l (low refl)
    go false x l low = refl

-- what is cut is not cut further
pub cut_once : (s : Shutter) → cut (cut s) ≡ cut s
cut_once s = ap (λ (x : ℕ). cut_to x) (go (protected s) s.limit s.opening)
  where
    cut_to : ℕ → Shutter
    cut_to x = record { present = s.present; opening = x; limit = s.limit; protection = s.protection; marks = s.marks; openings = s.openings }

    go : (p : Bool) (l x : ℕ) → pick p (min l (pick p (min l x) x)) (pick p (min l x) x) ≡ pick p (min l x) x
    go true l x = omega arith
    go false l x = refl

-- ---- a motion

pub absent_shutter_stays : AbsentShutterStays
unfolding step_shutter
absent_shutter_stays a s gone = rw gone

pub shutter_stays_valid : ShutterStaysValid
unfolding step_shutter
shutter_stays_valid a s eight low e = go (present s) refl
  where
    go : (b : Bool) → present s ≡ b → shutter_ok (pick b (cut (moved a s)) s) ≡ true
    go true here = fit_ok (cut (moved a s)) (cut_fit (moved a s) (moved_fit a s eight low (fit s here e))) (cut_within (moved a s))
    go false gone = e

-- a shutter that is present after a motion: what holds of what the motion makes of it, cut
stepped : (P : Shutter → Type 0) (a : Motion) (s : Shutter) → present s ≡ true → P (cut (moved a s)) → P (step_shutter a s)
unfolding step_shutter
stepped P a s here p = rw here p

pub cut_to_the_limit : CutToTheLimit
cut_to_the_limit a s here = stepped (λ r. protected r ≡ true → r.opening ≡ min r.limit (moved a s).opening) a s here (λ on. rw on)

pub only_then_cut : OnlyThenCut
only_then_cut a s here = stepped (λ r. protected r ≡ false → r.opening ≡ (moved a s).opening) a s here (λ off. rw off)

-- the marks and openings after a motion, by those before: limit and protection make no difference
moved_lists : (a : Motion) (s : Shutter) (x p : ℕ) → let other = moved a (with_limit x (with_protection p s)) in
    (other.marks ≡ (moved a s).marks) × (other.openings ≡ (moved a s).openings)
moved_lists (OpenProtected u y) s x p = (refl, refl)
moved_lists (Limit u y) s x p = (refl, refl)
moved_lists (OpenUnprotected u y) s x p = (refl, refl)
moved_lists OpenHouse s x p = (refl, refl)
moved_lists OpenAll s x p = (refl, refl)
moved_lists (Include u l y) s x p = (refl, refl)
moved_lists (Begin l) s x p = go (included l s)
  where
    go : (b : Bool) → let other = with_limit x (with_protection p s) in
        ((pick b (with_opening (opening_for l s) other) other).marks ≡ (pick b (with_opening (opening_for l s) s) s).marks)
        × ((pick b (with_opening (opening_for l s) other) other).openings ≡ (pick b (with_opening (opening_for l s) s) s).openings)
    go true = (refl, refl)
    go false = (refl, refl)
moved_lists (Exclude u l) s x p = (refl, refl)
moved_lists ExcludeAll s x p = (refl, refl)
moved_lists CloseHouse s x p = (refl, refl)
moved_lists CloseAll s x p = (refl, refl)
moved_lists SelfTest s x p = (refl, refl)

pub stored_not_cut : StoredNotCut
unfolding step_shutter
stored_not_cut = record { brought = λ u l x s here. rw here; kept = λ a s x p. go a s x p (present s) }
  where
    go : (a : Motion) (s : Shutter) (x p : ℕ) (b : Bool) → let other = with_limit x (with_protection p s) in
        ((pick b (cut (moved a other)) other).marks ≡ (pick b (cut (moved a s)) s).marks)
        × ((pick b (cut (moved a other)) other).openings ≡ (pick b (cut (moved a s)) s).openings)
    go a s x p true = moved_lists a s x p
    go a s x p false = (refl, refl)

-- ---- the lists

moved_eight : (a : Motion) (s : Shutter) → EightEach s → EightEach (moved a s)
moved_eight (OpenProtected u x) s eight = eight
moved_eight (Limit u x) s eight = eight
moved_eight (OpenUnprotected u x) s eight = eight
moved_eight OpenHouse s eight = eight
moved_eight OpenAll s eight = eight
moved_eight (Include u l x) s eight = (length-set s.marks l 1 ∙ eight.0, length-set s.openings l x ∙ eight.1)
moved_eight (Begin l) s eight = pick_both EightEach (included l s) _ _ eight eight
moved_eight (Exclude u l) s eight = (length-set s.marks l 0 ∙ eight.0, length-set s.openings l 0 ∙ eight.1)
moved_eight ExcludeAll s eight = (refl, refl)
moved_eight CloseHouse s eight = eight
moved_eight CloseAll s eight = eight
moved_eight SelfTest s eight = eight

pub stays_eight : StaysEight
unfolding step_shutter
stays_eight a s eight = pick_both EightEach (present s) _ _ (moved_eight a s eight) eight

-- ---- a motion again

pub moved_present : (a : Motion) (s : Shutter) → (moved a s).present ≡ s.present
moved_present (OpenProtected u x) s = refl
moved_present (Limit u x) s = refl
moved_present (OpenUnprotected u x) s = refl
moved_present OpenHouse s = refl
moved_present OpenAll s = refl
moved_present (Include u l x) s = refl
moved_present (Begin l) s = pick_both (λ (r : Shutter). r.present ≡ s.present) (included l s) _ _ refl refl
moved_present (Exclude u l) s = refl
moved_present ExcludeAll s = refl
moved_present CloseHouse s = refl
moved_present CloseAll s = refl
moved_present SelfTest s = refl

-- the lists set again
lifestyle_again : (s : Shutter) (l mark x : ℕ)
    → (let m = with_lifestyles (set s.marks l mark) (set s.openings l x) s in
    cut (with_lifestyles (set m.marks l mark) (set m.openings l x) (cut m)) ≡ cut m)
lifestyle_again s l mark x =
    let m = with_lifestyles (set s.marks l mark) (set s.openings l x) s in
    ap₂ (λ (ms xs : List ℕ). cut (with_lifestyles ms xs (cut m))) (set-set s.marks l mark mark) (set-set s.openings l x x) ∙ cut_once m

moved_again : (a : Motion) (s : Shutter) → cut (moved a (cut (moved a s))) ≡ cut (moved a s)
moved_again (OpenProtected u x) s = refl
moved_again (Limit u x) s = cut_once (moved (Limit u x) s)
moved_again (OpenUnprotected u x) s = refl
moved_again OpenHouse s = refl
moved_again OpenAll s = refl
moved_again (Include u l x) s = lifestyle_again s l 1 x
moved_again (Begin l) s = go (included l s) refl
  where
    again : Shutter → Type 0
    again q = cut (moved (Begin l) (cut q)) ≡ cut q

    told : (q : Shutter) (b : Bool) → included l q ≡ b → moved (Begin l) q ≡ pick b (with_opening (opening_for l q) q) q
    told q b e = ap (λ (c : Bool). pick c (with_opening (opening_for l q) q) q) e

    go : (b : Bool) → included l s ≡ b → again (moved (Begin l) s)
    go true e = subst again (sym (told s true e)) (ap cut (told (cut (with_opening (opening_for l s) s)) true e))
    go false e = subst again (sym (told s false e)) (ap cut (told (cut s) false e) ∙ cut_once s)
moved_again (Exclude u l) s = lifestyle_again s l 0 0
moved_again ExcludeAll s = cut_once (moved ExcludeAll s)
moved_again CloseHouse s = refl
moved_again CloseAll s = refl
moved_again SelfTest s = cut_once s

pub twice_as_once : TwiceAsOnce
twice_as_once a s = go (present s) refl
  where
    go : (b : Bool) → present s ≡ b → step_shutter a (step_shutter a s) ≡ step_shutter a s
    go true here =
        stepped (λ r. step_shutter a r ≡ r) a s here
        (stepped (λ r. r ≡ cut (moved a s)) a (cut (moved a s)) (ap (λ (n : ℕ). eqb n 1) (moved_present a s) ∙ here) (moved_again a s))
    go false gone = ap (step_shutter a) (absent_shutter_stays a s gone)
