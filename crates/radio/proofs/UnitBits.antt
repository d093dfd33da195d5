-- UnitByItsBits and TurnedUnitBit, proved. An on and an off differ in one bit of c, so that one argument, by that bit, is made for both.
use Rattle.std.specs.Prelude.{Ok}
use mathlib.Core.Path.{◌≡◌, refl, sym, ap, ap₂, ◌∙◌}
use mathlib.Core.Bool.{true, ◌&&◌, and-eq-true_iff}
use mathlib.Core.List.{[], ◌∷◌, Memᴰ}
use Prim.Native.Nat.{ℕ, ◌+◌, ◌-◌, ◌*◌, ◌<◌}
use native.Mathlib.Omega.{arith}
use borrow.Author.Tests.{le-leb}
use lib.Dec.{leb}
use Rattle.ground.proofs.Choices.{both, below_sixteen}
use Rattle.radio.specs.Codes.{Place, its, unit_bits, house_in_b, unit_in_b, unit_in_c, unit_from, byte_b, byte_c, four_bytes, command_ok}
use Rattle.radio.specs.Answers.{read_answer}
use Rattle.radio.specs.Statements.{OnOrOff, on, off, UnitByItsBits, turned, turned_at, TurnedUnitBit}
use Rattle.radio.specs.declared.RadioCommand.{RadioCommand}
use Rattle.radio.proofs.CodeLaws.{unit_told}
use Rattle.radio.proofs.AnswerLaws.{read_given}
use Rattle.radio.proofs.TurnedLaws.{moved_below, turned_code}
use Rattle.radio.proofs.Theorems.{read_as, written_of_read}

-- b and c of an on or off, with the number of its off bit
record Switch (switch : ℕ → ℕ → RadioCommand) : Type 0 where
  f : ℕ
  bit : f < 2
  b_is : (h u : ℕ) → byte_b (switch h u) ≡ house_in_b h + unit_in_b u
  c_is : (h u : ℕ) → byte_c (switch h u) ≡ unit_in_c u + f * 32
  ok_is : (h u : ℕ) → command_ok (switch h u) ≡ (leb h 15 && leb u 15)

switch_is : (switch : ℕ → ℕ → RadioCommand) → OnOrOff switch → Switch switch
switch_is switch on = record { f = 0; bit = omega arith; b_is = λ h u. refl; c_is = λ h u. omega arith; ok_is = λ h u. refl }
switch_is switch off = record { f = 1; bit = omega arith; b_is = λ h u. refl; c_is = λ h u. omega arith; ok_is = λ h u. refl }

-- the b and c of four bytes that are read as an on or off, and their complements
record ReadSwitch (switch : ℕ → ℕ → RadioCommand) (h u b x c y : ℕ) : Type 0 where
  unit : u < 16
  house : leb h 15 ≡ true
  b_is : byte_b (switch h u) ≡ b
  x_is : 255 - byte_b (switch h u) ≡ x
  c_is : byte_c (switch h u) ≡ c
  y_is : 255 - byte_c (switch h u) ≡ y

module _ (switch : ℕ → ℕ → RadioCommand) (s : Switch switch) (h u b x c y : ℕ) where
  read_switch : read_answer (b ∷ x ∷ c ∷ y ∷ []) ≡ Ok (switch h u) → ReadSwitch switch h u b x c y
  read_switch e =
      let it = read_as (switch h u) (b ∷ x ∷ c ∷ y ∷ []) e in
      let ok = (and-eq-true_iff (leb h 15) (leb u 15)).0 (sym (s.ok_is h u) ∙ it.0) in
      let bytes = it.1 in
      record { unit = below_sixteen u ok.1; house = ok.0; b_is = cc; x_is = cc; c_is = cc; y_is = cc }

  told : ReadSwitch switch h u b x c y → u ≡ unit_from b c
  told r =
      sym (ap₂ unit_from (sym r.b_is ∙ s.b_is h u) (sym r.c_is) ∙ unit_told h u (byte_c (switch h u)) s.f r.unit s.bit (s.c_is h u))

  module _ (w : ℕ) (p : Place) (m : Memᴰ (its w p) unit_bits) (r : ReadSwitch switch h u b x c y) where
    moved_ok : command_ok (switch h (turned w u)) ≡ true
    moved_ok =
        let below : turned w u < 16 = moved_below w u p m r.unit in
        s.ok_is h (turned w u) ∙ both r.house (le-leb (turned w u) 15 (omega arith))

    moved_bytes : turned_at p b x c y ≡ four_bytes (switch h (turned w u))
    moved_bytes =
        rw⁻¹ (r.b_is, r.x_is, r.c_is, r.y_is)
        (rw (s.b_is h u, s.b_is h (turned w u))
        (turned_code w h u (byte_c (switch h u)) (byte_c (switch h (turned w u))) s.f s.bit (s.c_is h u) (s.c_is h (turned w u)) p m))

pub unit_by_its_bits : UnitByItsBits
unit_by_its_bits switch o h u b x c y e =
    let s = switch_is switch o in
    told switch s h u b x c y (read_switch switch s h u b x c y e)

pub turned_unit_bit : TurnedUnitBit
turned_unit_bit switch o w p m h u b x c y e =
    let s = switch_is switch o in
    let r = read_switch switch s h u b x c y e in
    let ok = moved_ok switch s h u b x c y w p m r in
    let bytes = moved_bytes switch s h u b x c y w p m r in
    let given = ap read_answer bytes ∙ read_given (switch h (turned w u)) ok in
    (given, written_of_read (switch h (turned w u)) (turned_at p b x c y) given)
