use Rattle.std.proofs.Common.{◌≡◌, ℕ, ◌+◌, ◌%◌, ◌^◌, length, get_or, refl, ap, ◌∙◌, add-one, arith}
use native.Mathlib.Nat.{mod-add-mod}
use Rattle.ground.specs.Records.{sum_below}
use Rattle.lynx_net.specs.Packets.{check_of}
use Rattle.lynx_net.proofs.check_of.Goals as goal

pub loop-byte-init : goal.loop-byte-init
unfolding sum_below
loop-byte-init c = refl

pub loop-byte-preserved : goal.loop-byte-preserved
unfolding sum_below
loop-byte-preserved c =
    let now = c.loop-byte in
    let k = now.byte-index in
    let bytes = c.args.bytes.now in
    let next = mod-add-mod (sum_below k (λ i. get_or bytes i 0)) (2 ^ 8) (get_or bytes k 0) in
    ap (λ (s : ℕ). (s + get_or bytes k 0) % 2 ^ 8) now.invariant ∙ next ∙ rw (add-one k)

pub returns : goal.returns
unfolding check_of
returns c =
    let bytes = c.args.bytes.now in
    let end : c.loop-byte.byte-index ≡ length bytes = omega arith in
    c.loop-byte.invariant ∙ ap (λ (n : ℕ). sum_below n (λ i. get_or bytes i 0) % 2 ^ 8) end
