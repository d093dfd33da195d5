-- `message_at` meets its contract: below the count of the units an address, past it what the ending has.
use Rattle.std.proofs.Common.{◌<◌, sym, arith}
use Rattle.lynx_net.specs.Lists.{unit_count}
use Rattle.lynx_net.proofs.ListLaws.{address_at, nothing_there, last_there, past_last, house_there, past_houses}
use Rattle.lynx_net.proofs.payload.message_at.Goals as goal

pub returns-then-i-n : goal.returns-then-i-n
returns-then-i-n c =
    let a = c.args in
    let below : a.i < unit_count a.ms = omega (arith, c.unit_count-n.ensures.0) in
    sym (address_at a.ms a.i below)

pub returns-in-Nothing : goal.returns-in-Nothing
returns-in-Nothing c =
    let a = c.args in
    nothing_there a.ms a.i _ c.unit_count-n.ensures.0 c.if-i-n.false c.in-Nothing.is

pub returns-then-i-n-2 : goal.returns-then-i-n-2
returns-then-i-n-2 c =
    let a = c.args in
    last_there a.ms a.i _ c.unit_count-n.ensures.0 c.if-i-n.false _ c.in-Message.is c.if-i-n-2.true

pub returns-else-i-n-2 : goal.returns-else-i-n-2
returns-else-i-n-2 c =
    let a = c.args in
    past_last a.ms a.i _ c.unit_count-n.ensures.0 c.if-i-n.false _ c.in-Message.is c.if-i-n-2.false

pub returns-then-i-n-3 : goal.returns-then-i-n-3
returns-then-i-n-3 c =
    let a = c.args in
    house_there a.ms a.i _ c.unit_count-n.ensures.0 c.if-i-n.false _ c.in-EveryHouse.is c.if-i-n-3.true

pub returns-else-i-n-3 : goal.returns-else-i-n-3
returns-else-i-n-3 c =
    let a = c.args in
    past_houses a.ms a.i _ c.unit_count-n.ensures.0 c.if-i-n.false _ c.in-EveryHouse.is c.if-i-n-3.false
