-- `load` meets its contract: the twenty bytes are read from where the definition has them.
use mathlib.Core.Path.{refl}
use Rattle.shutter_table.specs.ShutterTable.{shutter_at}
use Rattle.shutter_table.proofs.load.Goals as goal

pub returns : goal.returns
unfolding shutter_at
returns c = refl
