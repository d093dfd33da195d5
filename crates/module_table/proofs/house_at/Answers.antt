-- `house_at` meets its contract: each byte is read from where the definition has it.
use mathlib.Core.Path.{refl}
use Rattle.record.specs.Layout.{house_at}
use Rattle.module_table.proofs.house_at.Goals as goal

pub returns : goal.returns
unfolding house_at
returns c = refl
