-- `closed_extended` meets its contract: its test and what is left are those of `closed_extended`.
use Rattle.std.proofs.Common.{sym}
use Rattle.lynx_net.proofs.FormLaws.{extended_by_length, extended_rest}
use Rattle.lynx_net.proofs.payload.closed_extended.Goals as goal

pub returns-then-payload-ne5 : goal.returns-then-payload-ne5
returns-then-payload-ne5 c = sym (extended_by_length c.args.payload.now c.if-payload-ne5.true)

pub returns : goal.returns
returns c = sym (extended_rest c.args.payload.now c.if-payload-ne5.false)
