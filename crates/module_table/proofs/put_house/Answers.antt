-- `put_house` meets its contract: each byte is stored where the definition has it.
use mathlib.Core.Path.{refl}
use Rattle.record.specs.Layout.{put_house}
use Rattle.module_table.proofs.put_house.Goals as goal

pub returns : goal.returns
unfolding put_house
returns c = refl
