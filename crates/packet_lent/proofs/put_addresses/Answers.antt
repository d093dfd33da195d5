use mathlib.Core.Path.{refl, sym, ap, ◌∙◌}
use mathlib.Core.List.{List, map}
use Prim.Native.Nat.{ℕ, ◌+◌, ◌*◌, ◌-◌}
use native.Mathlib.Omega.{arith}
use lib.Seq.{sets}
use Rattle.message.specs.declared.Message.TheVariants.{Address}
use Rattle.lynx_net.specs.Payloads.{numbers_from}
use Rattle.lynx_net.specs.Lists.{digit_at}
use Rattle.packet_lent.specs.PacketBytes.{all_bytes}
use Rattle.packet_lent.proofs.BytesLaws.{each_of, each_mapped, each_next, each_end}
use Rattle.packet_lent.proofs.put_addresses.Invariants.{address_bytes}
use Rattle.packet_lent.proofs.put_addresses.Goals as goal

pub loop-i-preserved : goal.loop-i-preserved
loop-i-preserved c =
    let a = c.args in
    let now = c.loop-i in
    let i = now.i in
    let B = address_bytes a.ms.house a.ms.units in
    let next = each_next B 3 i a.n now.out refl (omega arith) in
    ap (λ (l : List ℕ). sets l (3 + 5 * (i + 1)) (each_of B (i + 1) (a.n - (i + 1)))) c.put_five.ensures ∙ next ∙ now.invariant

pub returns : goal.returns
returns c =
    let a = c.args in
    let now = c.loop-i in
    let B = address_bytes a.ms.house a.ms.units in
    let all = each_mapped (λ i. Address a.ms.house (digit_at a.ms.units i)) 0 a.n in
    let end = sym (each_end B 3 now.i a.n now.out (omega arith)) ∙ now.invariant in
    end ∙ ap (λ (l : List ℕ). sets a.out.now 3 l) (sym all)
    ∙ ap (λ (k : ℕ). sets a.out.now 3 (all_bytes (map (λ i. Address a.ms.house (digit_at a.ms.units i)) (numbers_from 0 k)))) c.requires.0
