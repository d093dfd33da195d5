use mathlib.Core.Path.{◌≡◌, sym, ap, ◌∙◌}
use mathlib.Core.List.{List, [], ◌∷◌}
use Prim.Native.Nat.{ℕ, suc, ◌+◌, ◌-◌, ◌/◌, ◌%◌, ◌≤◌}
use native.Mathlib.Omega.{arith}
use lib.ListN.{length, set}
use lib.Seq.{sets}
use Rattle.text.specs.Texts.{digits_up_to}
use Rattle.ground.proofs.Lists.{sets-append}
use Rattle.text.proofs.PutLaws.{sets-set}
use Rattle.text.proofs.TextLaws.{last_digits, length_last, digits_are_last, digits_at_most}
use Rattle.text.proofs.Text.put_number.Goals as goal

-- one digit: the last of i is put first
one : (out : List ℕ) (at i rest : ℕ) → sets (set out (at + i) (48 + rest % 10)) at (last_digits i (rest / 10)) ≡ sets out at (last_digits (suc i) rest)
unfolding last_digits
one out at i rest =
    let ds = last_digits i (rest / 10) in
    let d = 48 + rest % 10 in
    let e : at + length ds ≡ at + i = ap (λ (n : ℕ). at + n) (length_last i (rest / 10)) in
    sym (sets-set out at ds (at + i) d (omega (arith, e)))
    ∙ ap (λ (n : ℕ). set (sets out at ds) n d) (sym e)
    ∙ sym (sets-append out at ds (d ∷ []))

-- no more than twenty digits
few : (k number : ℕ) → k ≡ length (digits_up_to 20 number) → k ≤ 20
few k number e = omega (arith, digits_at_most 20 number)

pub overflow_add-self-in-loop-i : goal.overflow_add-self-in-loop-i
overflow_add-self-in-loop-i c = omega (arith, few _ _ c.places-k.ensures)

pub bounds-self-self : goal.bounds-self-self
bounds-self-self c = omega (arith, few _ _ c.places-k.ensures)

pub loop-i-preserved : goal.loop-i-preserved
loop-i-preserved c =
    let l = c.loop-i in
    let e : suc (l.i - 1) ≡ l.i = omega arith in
    let at = l.self.length in
    (l.invariant.0, one l.self.bytes at (l.i - 1) l.rest ∙ ap (λ (n : ℕ). sets l.self.bytes at (last_digits n l.rest)) e ∙ l.invariant.1)

pub overflow_add-self-2 : goal.overflow_add-self-2
overflow_add-self-2 c = omega (arith, few _ _ c.places-k.ensures)

pub returns : goal.returns
unfolding last_digits
returns c =
    let l = c.loop-i in
    let t = c.args.self.now in
    let n = c.args.number in
    let z : l.i ≡ 0 = omega arith in
    let k = c.places-k.ensures in
    record {
      bytes =
          ap (λ (n : ℕ). sets l.self.bytes l.self.length (last_digits n l.rest)) (sym z)
          ∙ l.invariant.1
          ∙ ap (λ (s : List ℕ). sets t.bytes t.length s) (ap (λ (m : ℕ). last_digits m n) k ∙ sym (digits_are_last 20 n));
      place = ap (λ (n : ℕ). l.self.length + n) k ∙ ap (λ (at : ℕ). at + length (digits_up_to 20 n)) l.invariant.0;
    }
