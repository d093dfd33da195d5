-- Laws of the forms of payloads.
--
--     alone_by_length, alone_rest                              FF alone
--     extended_by_length, extended_rest, extended_length       a house, a unit, FF and a data byte
--     units_between, units_length                              the units' place and how many they are
--     units_short, units_by_count, units_open, units_rest, units_parts      a house, units and FF
--     too_short                                                no payload has fewer than two bytes
--     most_of                                            no form has more than sixteen units
--     payload_length                                           no payload has more than 19 bytes
use Rattle.std.proofs.Common.{◌≡◌, ℕ, ◌-◌, ◌<◌, ◌≤◌, Bool, true, false, ◌&&◌, eqb, leb, List, length, get_or, take, drop, refl, ap, arith, length-drop, length-take-le, eq-eqb, ne_eqb, eqb-true, le-leb, leb-true}
use mathlib.Core.Bool.{and-false, and-eq-true_iff, false≢true}
use borrow.Author.Tests.{lt-leb}
use Rattle.ground.proofs.Choices.{pick_both}
use Rattle.lynx_net.specs.declared.payload.Form.{Form}
use Rattle.lynx_net.specs.declared.payload.Form.TheVariants.{Addresses, Units, ExtendedCode, EveryHouse, Unknown}
use Rattle.lynx_net.specs.Payloads.{CLOSE, form_of, form_in, house_in, units_in, units_fit, closed_units, closed_extended, closed_alone, fits_form, payload_ok}

module _ (p : List ℕ) where
  -- ---- FF alone

  pub alone_by_length : (length p ≡ 2 → ⊥) → closed_alone p ≡ false
  unfolding closed_alone
  alone_by_length n = rw (ne_eqb _ _ n)

  pub alone_rest : length p ≡ 2 → closed_alone p ≡ eqb (get_or p 1 0) CLOSE
  unfolding closed_alone
  alone_rest two = rw (eq-eqb _ _ two)

  -- ---- a house, a unit, FF and a data byte

  pub extended_by_length : (length p ≡ 5 → ⊥) → closed_extended p ≡ false
  unfolding closed_extended
  extended_by_length n = rw (ne_eqb _ _ n)

  pub extended_rest : length p ≡ 5 → closed_extended p ≡ ((leb (house_in p) 15 && leb (get_or p 2 0) 15) && eqb (get_or p 3 0) CLOSE)
  unfolding closed_extended
  extended_rest five = rw (eq-eqb _ _ five)

  pub extended_length : closed_extended p ≡ true → length p ≡ 5
  unfolding closed_extended
  extended_length good = eqb-true (length p) 5 ((and-eq-true_iff (eqb (length p) 5) _).0 good).0

  -- ---- a house, units and FF

  -- the units by the places where they begin and end
  pub units_between : take (length p - 1 - 2) (drop 2 p) ≡ units_in p
  units_between = let n : length p - 1 - 2 ≡ length p - 3 = omega arith in ap (λ (k : ℕ). take k (drop 2 p)) n

  pub units_length : 3 ≤ length p → length (units_in p) ≡ length p - 3
  units_length h = length-take-le (length p - 3) (drop 2 p) (omega (arith, length-drop 2 p))

  module _ (least most : ℕ) where
    abbrev counted : Bool
    counted = leb least (length p - 3) && leb (length p - 3) most

    abbrev ends : Bool
    ends = leb (house_in p) 15 && eqb (get_or p (length p - 1) 0) CLOSE

    pub units_short : length p < 3 → closed_units least most p ≡ false
    unfolding closed_units
    units_short short = rw (lt-leb 3 (length p) short)

    pub units_by_count : counted ≡ false → closed_units least most p ≡ false
    unfolding closed_units
    units_by_count bad = rw (bad, and-false (leb 3 (length p)))

    pub units_open : ends ≡ false → closed_units least most p ≡ false
    unfolding closed_units
    units_open bad = rw bad (and-false (leb 3 (length p) && counted))

    pub units_rest : 3 ≤ length p → counted ≡ true → ends ≡ true → closed_units least most p ≡ units_fit (units_in p)
    unfolding closed_units
    units_rest long few closed = rw (le-leb 3 (length p) long, few, closed)

    -- its parts
    pub record Closed : Type 0 where
      pub long : 3 ≤ length p
      pub enough : least ≤ length p - 3
      pub few : length p - 3 ≤ most
      pub house : house_in p ≤ 15
      pub close : get_or p (length p - 1) 0 ≡ CLOSE
      pub fit : units_fit (units_in p) ≡ true

    pub units_parts : closed_units least most p ≡ true → Closed
    unfolding closed_units
    units_parts good =
        let a = (and-eq-true_iff (leb 3 (length p) && counted) (ends && units_fit (units_in p))).0 good in
        let b = (and-eq-true_iff (leb 3 (length p)) counted).0 a.0 in
        let n = (and-eq-true_iff (leb least (length p - 3)) (leb (length p - 3) most)).0 b.1 in
        let d = (and-eq-true_iff ends (units_fit (units_in p))).0 a.1 in
        let e = (and-eq-true_iff (leb (house_in p) 15) (eqb (get_or p (length p - 1) 0) CLOSE)).0 d.0 in
        record {
          long = leb-true 3 (length p) b.0;
          enough = leb-true _ _ n.0;
          few = leb-true _ _ n.1;
          house = leb-true _ _ e.0;
          close = eqb-true _ _ e.1;
          fit = d.1;
        }

  -- ---- any form

  pub too_short : length p < 2 → (f : Form) → fits_form f p ≡ false
  too_short short Addresses = units_short 1 16 (omega arith)
  too_short short (Units f most) = units_short 0 most (omega arith)
  too_short short (ExtendedCode command) = extended_by_length (λ e. omega arith)
  too_short short (EveryHouse f) = alone_by_length (λ e. omega arith)
  too_short short Unknown = refl

-- no form has more than sixteen units
abbrev pub AtMost16 : Form → Type 0
AtMost16 Addresses = Unit {0}
AtMost16 (Units f most) = most ≤ 16
AtMost16 (ExtendedCode command) = Unit {0}
AtMost16 (EveryHouse f) = Unit {0}
AtMost16 Unknown = Unit {0}

pub most_of : (code : ℕ) → AtMost16 (form_of code)
unfolding form_of
most_of code =
    pick_both AtMost16 (eqb code 0x08) _ _ tt
    (pick_both AtMost16 (eqb code 0x12) _ _ (omega arith)
    (pick_both AtMost16 (eqb code 0x13) _ _ (omega arith)
    (pick_both AtMost16 (eqb code 0x1F) _ _ (omega arith)
    (pick_both AtMost16 (eqb code 0x10) _ _ (omega arith)
    (pick_both AtMost16 (eqb code 0x11) _ _ (omega arith)
    (pick_both AtMost16 (eqb code 0x16) _ _ (omega arith)
    (pick_both AtMost16 (eqb code 0x1D) _ _ (omega arith)
    (pick_both AtMost16 (eqb code 0x1E) _ _ (omega arith)
    (pick_both AtMost16 (eqb code 0xB0) _ _ tt
    (pick_both AtMost16 (eqb code 0xB1) _ _ tt
    (pick_both AtMost16 (eqb code 0x20) _ _ tt
    (pick_both AtMost16 (eqb code 0x21) _ _ tt
    (pick_both AtMost16 (eqb code 0x22) _ _ tt tt)))))))))))))

pub payload_length : (p : List ℕ) → payload_ok p ≡ true → length p ≤ 19
unfolding closed_alone
payload_length p ok = go (form_in p) (most_of (get_or p 0 0)) ok
  where
    go : (f : Form) → AtMost16 f → fits_form f p ≡ true → length p ≤ 19
    go Addresses few fits = omega (arith, (units_parts p 1 16 fits).few)
    go (Units f most) few fits = omega (arith, (units_parts p 0 most fits).few)
    go (ExtendedCode command) few fits = omega (arith, extended_length p fits)
    go (EveryHouse f) few fits = omega (arith, eqb-true (length p) 2 ((and-eq-true_iff (eqb (length p) 2) _).0 fits).0)
    go Unknown few fits = absurd (false≢true fits)
