-- `station_ok` meets its contract: `sends` refuses exactly the states that there are not.
use mathlib.Core.Path.{ap, ◌∙◌}
use Rattle.std.specs.Prelude.{is_ok}
use Rattle.station.proofs.TurnLaws.{ok_told}
use Rattle.station.proofs.station_ok.Goals as goal

pub returns : goal.returns
returns c = c.is_ok.ensures.value ∙ ap is_ok c.sends.ensures.answer ∙ ok_told c.args.s
