use mathlib.Core.Path.{refl, sym, ap, ◌∙◌}
use mathlib.Core.List.{List}
use Prim.Native.Nat.{ℕ, ◌+◌, ◌*◌, ◌-◌}
use native.Mathlib.Omega.{arith}
use lib.Seq.{sets}
use Rattle.message.specs.declared.Message.TheVariants.{Function as Command}
use Rattle.packet_lent.proofs.BytesLaws.{each_of, each_mapped, each_next, each_end}
use Rattle.packet_lent.proofs.put_houses.Invariants.{function_bytes}
use Rattle.packet_lent.proofs.put_houses.Goals as goal

pub loop-house-preserved : goal.loop-house-preserved
loop-house-preserved c =
    let a = c.args in
    let now = c.loop-house in
    let h = now.house in
    let B = function_bytes c.function_code-code.result in
    let next = each_next B a.at h 16 now.out refl (omega arith) in
    ap (λ (l : List ℕ). sets l (a.at + 5 * (h + 1)) (each_of B (h + 1) (16 - (h + 1)))) c.put_five.ensures ∙ next ∙ now.invariant

pub returns : goal.returns
returns c =
    let a = c.args in
    let now = c.loop-house in
    let code = c.function_code-code in
    let end = sym (each_end (function_bytes code.result) a.at now.house 16 now.out (omega arith)) ∙ now.invariant in
    end ∙ ap (λ (k : ℕ). sets a.out.now a.at (each_of (function_bytes k) 0 16)) code.ensures
    ∙ ap (λ (l : List ℕ). sets a.out.now a.at l) (sym (each_mapped (λ g. Command g a.function) 0 16))
