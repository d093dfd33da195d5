-- `put_bytes` meets its contract: the thirteen stores are the whole list anew.
use Rattle.receiver.proofs.RunLaws.{receiver_placed}
use Rattle.receiver.proofs.lent.put_bytes.Goals as goal

pub returns : goal.returns
returns c =
    let five = c.five_kept-five in
    receiver_placed c.args.r five.result c.args.state.now c.frame_byte.result c.since_byte.result
    c.target_byte.result c.requires five.ensures c.frame_byte.ensures c.since_byte.ensures c.target_byte.ensures
