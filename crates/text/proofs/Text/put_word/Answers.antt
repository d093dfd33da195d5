use mathlib.Core.Path.{◌≡◌, sym, ap, subst, ◌∙◌}
use mathlib.Core.List.{List, [], ◌∷◌}
use Prim.Native.Nat.{ℕ, suc, ◌+◌, ◌≤◌, ◌<◌}
use native.Mathlib.Nat.{add-suc}
use native.Mathlib.Numerals.{add-one}
use native.Mathlib.Omega.{arith}
use lib.ListN.{length, drop, get_or, set, drop_of_length-le}
use lib.Seq.{sets, drop-cons}
use Rattle.text.specs.Texts.{trimmed, Put}
use Rattle.text.specs.declared.Text.{Text}
use Rattle.text.proofs.TextLaws.{trim_none, trim_end, trim_more}
use Rattle.text.proofs.Text.put_word.Invariants.{Rest}
use Rattle.text.proofs.Text.put_word.Goals as goal

module _ {begun : Text} {word out : List ℕ} {i : ℕ} (r : Rest begun word out i) where
  ends : trimmed (drop i word) ≡ [] → Put begun.bytes begun.length (trimmed word) out (begun.length + i)
  ends e =
      let n = r.count in
      record {
        bytes = ap (λ (t : List ℕ). sets out (begun.length + i) t) (sym e) ∙ r.bytes;
        place = omega (arith, ap length e);
      }

  module _ (h : i < 16) where
    goes_on : drop i word ≡ get_or word i 0 ∷ drop (suc i) word
    goes_on = drop-cons word i 0 (omega (arith, r.whole))

    at_zero : get_or word i 0 ≡ 0 → trimmed (drop i word) ≡ []
    at_zero z = ap trimmed goes_on ∙ ap (λ (b : ℕ). trimmed (b ∷ drop (suc i) word)) z ∙ trim_end (drop (suc i) word)

    step : (get_or word i 0 ≡ 0 → ⊥) → Rest begun word (set out (begun.length + i) (get_or word i 0)) (i + 1)
    step n =
        let b = get_or word i 0 in
        let e : trimmed (drop i word) ≡ b ∷ trimmed (drop (suc i) word) = ap trimmed goes_on ∙ trim_more b (drop (suc i) word) n in
        record {
          whole = r.whole;
          bytes = rw (add-one i, add-suc begun.length i) (ap (λ (t : List ℕ). sets out (begun.length + i) t) (sym e) ∙ r.bytes);
          count = rw (add-one i) (omega (arith, ap length e, r.count));
        }

pub returns-then-b-eq0 : goal.returns-then-b-eq0
returns-then-b-eq0 c = ends c.loop-i.invariant (at_zero c.loop-i.invariant (omega arith) c.if-b-eq0.true)

pub loop-i-preserved : goal.loop-i-preserved
loop-i-preserved c = step c.loop-i.invariant (omega arith) c.if-b-eq0.false

pub returns : goal.returns
returns c =
    let r = c.loop-i.invariant in
    let begun = c.args.self.now in
    let past : length c.args.word ≤ c.loop-i.i = omega (arith, r.whole) in
    let whole = ends r (ap trimmed (drop_of_length-le c.args.word past) ∙ trim_none) in
    let all : c.loop-i.i ≡ 16 = omega arith in
    subst (λ (n : ℕ). Put begun.bytes begun.length (trimmed c.args.word) c.loop-i.self.bytes (begun.length + n)) all whole
