-- `closed_units` meets its contract: its tests are those of `closed_units`, in their order.
use Rattle.std.proofs.Common.{sym, ap, ◌∙◌}
use Rattle.lynx_net.specs.Payloads.{units_fit}
use Rattle.lynx_net.proofs.FormLaws.{units_short, units_by_count, units_open, units_rest, units_between}
use Rattle.lynx_net.proofs.payload.closed_units.Goals as goal

pub returns-then-n-lt3 : goal.returns-then-n-lt3
returns-then-n-lt3 c = let a = c.args in sym (units_short a.payload.now a.least a.most c.if-n-lt3.true)

pub returns-then-not-least-count : goal.returns-then-not-least-count
returns-then-not-least-count c = let a = c.args in sym (units_by_count a.payload.now a.least a.most (c.if-not-least-count.true))

pub returns-then-not-payload-last : goal.returns-then-not-payload-last
returns-then-not-payload-last c = let a = c.args in sym (units_open a.payload.now a.least a.most (c.if-not-payload-last.true))

pub returns : goal.returns
returns c =
    let a = c.args in
    let p = a.payload.now in
    c.units_fit.ensures ∙ ap units_fit (units_between p)
    ∙ sym (units_rest p a.least a.most c.if-n-lt3.false (c.if-not-least-count.false) (c.if-not-payload-last.false))
