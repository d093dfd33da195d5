-- `write_around` meets its contract: its one test is the room for the packet, and its parts put one after the other make it.
use Rattle.std.proofs.Common.{ℕ, ◌+◌, List, length, set, sym, ap, ◌∙◌, arith, Ok}
use lib.Seq.{sets}
use Rattle.lynx_net.specs.Packets.{packet_of}
use Rattle.lynx_net.proofs.PacketLaws.{front_short, front_put, check_split, packet_length, packet_laid}
use Rattle.lynx_net.proofs.write_around.Goals as goal

pub returns-then-buf-n : goal.returns-then-buf-n
returns-then-buf-n c =
    let a = c.args in
    let p = a.payload.now in
    let owed = front_short (packet_of a.node a.sequence p) a.buf.now (omega (arith, packet_length a.node a.sequence p, c.if-buf-n.true)) in
    record { value = owed.0; buf_after = owed.1 }

pub returns : goal.returns
returns c =
    let a = c.args in
    let p = a.payload.now in
    let buf = a.buf.now in
    let room = c.if-buf-n.false in
    let did = c.put_payload-check in
    let put = did.ensures.buf_after ∙ ap (λ (l : List ℕ). sets l 4 p) c.put_head.ensures in
    let check = did.ensures.value ∙ check_split a.node a.sequence p _ c.head_sum.ensures in
    let laid = ap (λ (l : List ℕ). set l (length p + 4) did.result) put ∙ packet_laid a.node a.sequence p buf room did.result check in
    let long = packet_length a.node a.sequence p in
    let done = front_put (packet_of a.node a.sequence p) buf _ (omega arith) laid in
    record { value = ap Ok (sym long) ∙ done.0; buf_after = done.1 }
