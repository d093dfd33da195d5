-- `record_ok` meets its contract: the bytes are those of the definition's record, and the test is that of its rules.
use Rattle.record.specs.Layout.{record_at}
use Rattle.record.proofs.RecordLaws.{bare_ok}
use Rattle.module_table.proofs.record_ok.Goals as goal

pub returns : goal.returns
unfolding record_at
returns c =
    let a = c.args in
    rw (c.groups_ok.ensures, c.fields_valid-fields.ensures) (bare_ok (record_at a.t.now a.i))
