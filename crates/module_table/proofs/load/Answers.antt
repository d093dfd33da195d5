-- `load` meets its contract: the bytes are read from where the definition has them.
use Rattle.record.specs.Layout.{record_at}
use Rattle.module_table.proofs.load.Goals as goal

pub returns : goal.returns
unfolding record_at
returns c = rw (c.four_at-2.ensures, c.four_at.ensures)
