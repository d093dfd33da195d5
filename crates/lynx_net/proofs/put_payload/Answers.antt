use Rattle.std.proofs.Common.{ℕ, ◌+◌, ◌%◌, ◌^◌, get_or, refl, ap, ◌∙◌, add_assoc, add-one, arith}
use native.Mathlib.Nat.{mod-add-mod}
use Rattle.ground.specs.Records.{sum_below}
use Rattle.lynx_net.proofs.PacketLaws.{put_next}
use Rattle.lynx_net.proofs.put_payload.Goals as goal

pub loop-i-init : goal.loop-i-init
unfolding sum_below
loop-i-init c = (refl, omega arith)

pub loop-i-preserved : goal.loop-i-preserved
unfolding sum_below
loop-i-preserved c =
    let now = c.loop-i in
    let a = c.args in
    let p = a.payload.now in
    let byte = get_or p now.i 0 in
    let so_far = a.head + sum_below now.i (λ k. get_or p k 0) in (
      put_next now.buf p now.i (omega arith) ∙ now.invariant.0,
      ap (λ (s : ℕ). (s + byte) % 2 ^ 8) now.invariant.1 ∙ mod-add-mod so_far (2 ^ 8) byte
          ∙ rw (add-one now.i) (ap (λ (s : ℕ). s % 2 ^ 8) (add_assoc a.head _ _)),
    )
