-- `faults` meets its contract: where no bit is set no term has one, and each tells of a rule.
use Rattle.module_table.proofs.QuickLaws.{sound}
use Rattle.module_table.proofs.quick.faults.Goals as goal

pub returns : goal.returns
returns c r words none =
    let a = c.args in
    sound r a.fields a.presets a.references c.choose.result words c.choose.ensures none
