-- `shutter_ok` meets its contract: an absent shutter is valid where it is all zeros, another where it keeps the other rules.
use Rattle.shutter_table.proofs.TableLaws.{judged_absent, judged_fields, judged_styles}
use Rattle.shutter_table.proofs.shutter_ok.Goals as goal

pub returns-then-t-at-eq0 : goal.returns-then-t-at-eq0
returns-then-t-at-eq0 c =
    let a = c.args in
    judged_absent a.t.now a.i c.if-t-at-eq0.true c.no_styles.ensures

pub returns-then-not-fields_valid : goal.returns-then-not-fields_valid
returns-then-not-fields_valid c =
    let a = c.args in
    judged_fields a.t.now a.i c.if-t-at-eq0.false c.fields_valid.ensures c.if-not-fields_valid.true

pub returns : goal.returns
returns c =
    let a = c.args in
    judged_styles a.t.now a.i c.if-t-at-eq0.false
    c.fields_valid.ensures c.if-not-fields_valid.false c.styles_ok.ensures
