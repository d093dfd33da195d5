-- `closed_alone` meets its contract: its test and what is left are those of `closed_alone`.
use Rattle.std.proofs.Common.{sym}
use Rattle.lynx_net.proofs.FormLaws.{alone_by_length, alone_rest}
use Rattle.lynx_net.proofs.payload.closed_alone.Goals as goal

pub returns-then-payload-ne2 : goal.returns-then-payload-ne2
returns-then-payload-ne2 c = sym (alone_by_length c.args.payload.now c.if-payload-ne2.true)

pub returns : goal.returns
returns c = sym (alone_rest c.args.payload.now c.if-payload-ne2.false)
