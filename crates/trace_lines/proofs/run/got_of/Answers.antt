-- `got_of` meets its contract: by the answer's sign, and whether it is 0. A signed local holds bits, which are read back.
use Rattle.std.proofs.Common.{◌≡◌, ℕ, true, false, length, ℤ, pos, negsuc, ap, sym, refl, ◌∙◌, arith, of_z, to_z, w64}
use Rattle.io.specs.Counts.{clamp_len}
use Rattle.std.specs.Int.Signed.{lt_z}
use mir.Facts.{to_z-of_z}
use mir.Val.{SFits}
use borrow.Author.Tests.{ltb-true, ne_eqb}
use Rattle.trace_lines.specs.Runs.{got_of}
use Rattle.trace_lines.specs.declared.run.Got.TheVariants.{Bytes, Failed}
use Rattle.trace_lines.proofs.run.got_of.Goals as goal

below : (z : ℤ) (most : ℕ) → lt_z z (pos 0) ≡ true → Failed ≡ got_of z most
unfolding got_of
below (pos n) most h = absurd (let less = ltb-true n 0 h in omega arith)
below (negsuc n) most h = refl

above : (z : ℤ) (most n : ℕ) → lt_z z (pos 0) ≡ false → (z ≡ pos 0 → ⊥) → n ≡ clamp_len z most → Bytes n ≡ got_of z most
unfolding got_of
above (pos k) most n h some e = ap (λ (m : ℕ). Bytes m) e ∙ rw (ne_eqb k 0 (λ z. some (ap (λ (m : ℕ). pos m) z)))
above (negsuc k) most n h some e = cc

module _ (z : ℤ) (fits : SFits w64 z) where
  sign : lt_z (to_z w64 (of_z w64 z)) (pos 0) ≡ lt_z z (pos 0)
  sign = ap (λ (x : ℤ). lt_z x (pos 0)) (to_z-of_z fits)

  none : of_z w64 z ≡ 0 → z ≡ pos 0
  none e = sym (to_z-of_z fits) ∙ ap (to_z w64) e

pub returns-then-answer-lt0 : goal.returns-then-answer-lt0
returns-then-answer-lt0 c = below c.args.answer _ (sym (sign _ c.ranges.answer) ∙ c.if-answer-lt0.true)

pub returns-then-answer-eq0 : goal.returns-then-answer-eq0
unfolding got_of
returns-then-answer-eq0 c =
    sym (ap (λ (z : ℤ). got_of z (length c.args.input.now)) (none c.args.answer c.ranges.answer c.if-answer-eq0.true))

pub returns : goal.returns
returns c =
    above c.args.answer _ _ (sym (sign _ c.ranges.answer) ∙ c.if-answer-lt0.false)
    (λ e. c.if-answer-eq0.false (ap (of_z w64) e)) (c.count.ensures.value ∙ ap (λ (z : ℤ). clamp_len z (length c.args.input.now)) (to_z-of_z c.ranges.answer))
