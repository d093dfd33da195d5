-- `put_packet` meets its contract: its one test is the room for what the packet carries, which is put part by part.
use mathlib.Core.Path.{ap, ◌∙◌}
use mathlib.Core.List.{List, [], ◌∷◌}
use Prim.Native.Nat.{ℕ, ◌+◌, ◌*◌}
use native.Mathlib.Omega.{arith}
use lib.Seq.{sets}
use Rattle.lynx_net.specs.Lists.{ending_list, addresses_of}
use Rattle.lynx_net.proofs.ListLaws.{listed_few, listed_length}
use Rattle.packet_lent.specs.PacketBytes.{all_bytes}
use Rattle.packet_lent.proofs.BytesLaws.{two_parts, packet_short, packet_put}
use Rattle.packet_lent.proofs.put_packet.Goals as goal

pub overflow_mul-n : goal.overflow_mul-n
overflow_mul-n c = omega (arith, listed_few c.args.p.messages, c.message_count-n.ensures)

pub overflow_add-n : goal.overflow_add-n
overflow_add-n c = omega (arith, listed_few c.args.p.messages, c.message_count-n.ensures)

pub returns-then-out-n : goal.returns-then-out-n
returns-then-out-n c =
    let a = c.args in
    let owed = packet_short a.p a.out.now c.message_count-n.ensures c.if-out-n.true in
    record { value = owed.0; out_after = owed.1 }

pub put_addresses-requires : goal.put_addresses-requires
put_addresses-requires c =
    let count = c.unit_count-units.ensures in
    (count.0, omega (arith, count.0, listed_length c.args.p.messages, c.message_count-n.ensures, c.if-out-n.false))

pub put_ending-requires : goal.put_ending-requires
put_ending-requires c =
    let count = c.unit_count-units.ensures in
    (omega (arith, count.1), omega (arith, count.0, listed_length c.args.p.messages, c.message_count-n.ensures, c.if-out-n.false))

pub returns : goal.returns
returns c =
    let a = c.args in
    let ms = a.p.messages in
    let head = sets a.out.now 0 (a.p.node ∷ a.p.sequence ∷ a.p.length ∷ []) in
    let count = c.unit_count-units.ensures.0 in
    let addressed = c.put_addresses.ensures ∙ ap (λ (l : List ℕ). sets l 3 (all_bytes (addresses_of ms))) c.put_head.ensures in
    let ended = c.put_ending.ensures ∙ ap (λ (l : List ℕ). sets l (3 + 5 * c.unit_count-units.result) (all_bytes (ending_list ms.ending))) addressed in
    let placed = ended ∙ ap (λ (n : ℕ). sets (sets head 3 (all_bytes (addresses_of ms))) (3 + 5 * n) (all_bytes (ending_list ms.ending))) count in
    let owed = packet_put a.p a.out.now c.message_count-n.ensures c.if-out-n.false (placed ∙ two_parts ms head) in
    record { value = owed.0; out_after = owed.1 }
