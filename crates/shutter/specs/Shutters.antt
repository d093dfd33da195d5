-- One shutter (02, A1; XTC798, 'TYPE = 0 Shutters and Sunshades'): the rules of a valid one in A1's order, which shutters a motion reaches, and what each
-- command makes of them in the order of XTC798's table. Which motion a command asks for is in plan's Motions; the table's bytes are the crate above.
use Rattle.std.specs.Prelude.{ℕ, ◌/◌, ◌%◌, min, Bool, true, false, not, ◌&&◌, ◌||◌, List, eqb, leb, get_or, set, replicate}
use Rattle.ground.specs.Choice.{pick}
use Rattle.ground.specs.Records.{all_below}
use Rattle.plan.specs.Motions.{OPEN}
use Rattle.plan.specs.declared.Motion.{Motion}
use Rattle.plan.specs.declared.Motion.TheVariants.{SelfTest, OpenProtected, Limit, OpenUnprotected, OpenHouse, OpenAll}
use Rattle.plan.specs.declared.Motion.TheVariants.{Include, Begin, Exclude, ExcludeAll, CloseHouse, CloseAll}
use Rattle.shutter.specs.declared.Shutter.{Shutter}

-- ---- The rules

-- "yes 1 and no 0"
abbrev pub present : Shutter → Bool
present s = eqb s.present 1

abbrev pub protected : Shutter → Bool
protected s = eqb s.protection 1

-- "for each of the eight lifestyles whether included and at what opening"
abbrev pub LIFESTYLES : ℕ
LIFESTYLES = 8

abbrev pub included : ℕ → Shutter → Bool
included l s = eqb (get_or s.marks l 0) 1

abbrev pub opening_for : ℕ → Shutter → ℕ
opening_for l s = get_or s.openings l 0

-- "present, opening 0..25, limit 0..25, sun protection on or off", and "a rule here broken, an opening above a protected limit too"
abbrev pub fields_ok : ℕ → ℕ → ℕ → ℕ → Bool
fields_ok present opening limit protection =
    leb present 1 && leb opening OPEN && leb limit OPEN && leb protection 1 && (not (eqb protection 1) || leb opening limit)

-- "an opening being 0 where not included"
abbrev pub lifestyle_ok : ℕ → ℕ → Bool
lifestyle_ok mark x = leb mark 1 && leb x OPEN && (eqb mark 1 || eqb x 0)

abbrev pub lifestyles_ok : ℕ → Shutter → Bool
lifestyles_ok n s = all_below n (λ l. lifestyle_ok (get_or s.marks l 0) (opening_for l s))

-- "Absent shutters stay all zeros."
abbrev pub no_lifestyles : ℕ → Shutter → Bool
no_lifestyles n s = all_below n (λ l. eqb (get_or s.marks l 0) 0 && eqb (opening_for l s) 0)

abbrev pub all_zeros : Shutter → Bool
all_zeros s = eqb s.opening 0 && eqb s.limit 0 && eqb s.protection 0 && no_lifestyles LIFESTYLES s

unfoldable pub shutter_ok : Shutter → Bool
shutter_ok s = fields_ok s.present s.opening s.limit s.protection && lifestyles_ok LIFESTYLES s && (present s || all_zeros s)

-- ---- Which shutters a motion reaches

-- place i of A1..P16: whether it is of house h, and whether it is that house's unit u
abbrev pub of_house : ℕ → ℕ → Bool
of_house h i = eqb (i / 16) h

abbrev pub of_unit : ℕ → ℕ → ℕ → Bool
of_unit h u i = of_house h i && eqb (i % 16) u

-- of a message for house h, the shutter at place i: 01, 02, 03, 07 and 09 name a unit; 04 and 0B are for all shutters "on this Housecode", "on this HC";
-- "Commands 05, 08, 0A and 0C reach every house"; 0E and 0F are heard only
abbrev pub reaches : Motion → ℕ → ℕ → Bool
reaches (OpenProtected u x) h i = of_unit h u i
reaches (Limit u x) h i = of_unit h u i
reaches (OpenUnprotected u x) h i = of_unit h u i
reaches OpenHouse h i = of_house h i
reaches OpenAll h i = true
reaches (Include u l x) h i = of_unit h u i
reaches (Begin l) h i = true
reaches (Exclude u l) h i = of_unit h u i
reaches ExcludeAll h i = true
reaches CloseHouse h i = of_house h i
reaches CloseAll h i = true
reaches SelfTest h i = false

-- ---- What it makes of one

-- the shutter with another opening, limit or protection, or with other marks and openings for the lifestyles
abbrev pub with_opening : ℕ → Shutter → Shutter
with_opening x s =
    record { present = s.present; opening = x; limit = s.limit; protection = s.protection; marks = s.marks; openings = s.openings }

abbrev pub with_limit : ℕ → Shutter → Shutter
with_limit x s =
    record { present = s.present; opening = s.opening; limit = x; protection = s.protection; marks = s.marks; openings = s.openings }

abbrev pub with_protection : ℕ → Shutter → Shutter
with_protection p s = record { present = s.present; opening = s.opening; limit = s.limit; protection = p; marks = s.marks; openings = s.openings }

abbrev pub with_lifestyles : List ℕ → List ℕ → Shutter → Shutter
with_lifestyles marks openings s =
    record { present = s.present; opening = s.opening; limit = s.limit; protection = s.protection; marks = marks; openings = openings }

abbrev pub moved : Motion → Shutter → Shutter
-- 01: "Open Shutter to amount in Data Field. Enable Sun Protection."
moved (OpenProtected u x) s = with_protection 1 (with_opening x s)
-- 02: "Limit the degree of opening to the value in the Data Field."; "02 also enables protection"
moved (Limit u x) s = with_protection 1 (with_limit x s)
-- 03: "Open Shutter to amount in the Data Field. Disable Sun Protection."
moved (OpenUnprotected u x) s = with_protection 0 (with_opening x s)
-- 04: "Open all shutters on this Housecode. .. Disable Sun Protection."
moved OpenHouse s = with_protection 0 (with_opening OPEN s)
-- 05: "Open all shutters. .. Disable Sun Protection."
moved OpenAll s = with_protection 0 (with_opening OPEN s)
-- 07: "Include this unit in the Lifestyle mode L. D is the degree of opening."; "the stored eight are not cut"
moved (Include u l x) s = with_lifestyles (set s.marks l 1) (set s.openings l x) s
-- 08: "Begin Lifestyle mode L. .. (only responds if previously included)"
moved (Begin l) s = pick (included l s) (with_opening (opening_for l s) s) s
-- 09: "Exclude (erase) this unit from Lifestyle L"
moved (Exclude u l) s = with_lifestyles (set s.marks l 0) (set s.openings l 0) s
-- 0A: "Exclude (erase) from all Lifestyle modes."
moved ExcludeAll s = with_lifestyles (replicate LIFESTYLES 0) (replicate LIFESTYLES 0) s
-- 0B: "Close all shutters on this HC. .. Enable Sun Protection"
moved CloseHouse s = with_protection 1 (with_opening 0 s)
-- 0C: "Close all shutters. .. Enable Sun Protection."
moved CloseAll s = with_protection 1 (with_opening 0 s)
-- 0E, 0F: "heard only"
moved SelfTest s = s

-- "With protection on, and only then, an opening above the limit is cut to it, also when protection or a limit arrives later"
abbrev pub cut : Shutter → Shutter
cut s =
    record {
      present = s.present;
      opening = pick (protected s) (min s.limit s.opening) s.opening;
      limit = s.limit;
      protection = s.protection;
      marks = s.marks;
      openings = s.openings;
    }

-- an absent shutter stays as it is
unfoldable pub step_shutter : Motion → Shutter → Shutter
step_shutter a s = pick (present s) (cut (moved a s)) s
