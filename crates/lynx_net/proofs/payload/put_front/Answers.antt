-- `put_front` meets its contract: its one test is the room for the bytes.
use Rattle.std.proofs.Common.{ℕ, List, ◌++◌, length, drop, sym, ap, ◌∙◌}
use Rattle.ground.proofs.Lists.{sets-front}
use Rattle.lynx_net.proofs.PacketLaws.{front_short, front_put}
use Rattle.lynx_net.proofs.payload.put_front.Goals as goal

pub returns-then-buf-n : goal.returns-then-buf-n
returns-then-buf-n c =
    let a = c.args in
    let owed = front_short a.bytes.now a.buf.now c.if-buf-n.true in
    record { value = owed.0; buf_after = owed.1 }

pub returns : goal.returns
returns c =
    let bytes = c.args.bytes.now in
    let buf = c.args.buf.now in
    let room = c.if-buf-n.false in
    let put = ap (λ (l : List ℕ). l ++ drop (length bytes) buf) c.copy_from_slice.ensures.after ∙ sym (sets-front bytes buf room) in
    let owed = front_put bytes buf _ room put in
    record { value = owed.0; buf_after = owed.1 }
