-- `draws_fine` meets its contract: each of the draws is judged, and so are all.
use Rattle.std.proofs.Common.{take, sym, ◌∙◌, rules}
use Rattle.std.proofs.lemmas.Iterator.{YieldsList-from_slice}
use Rattle.std.proofs.lemmas.Iterator.Search.{all_from_yields_List}
use Rattle.station.specs.Stations.{draw_ok}
use Rattle.station.proofs.Loops.{draws_all}
use Rattle.station.proofs.bench.draws_fine.Goals as goal

pub returns : goal.returns
returns c =
    let draws = take c.args.n c.args.draws in
    all_from_yields_List draw_ok _ _ c.all.result c.all.ensures.ran (YieldsList-from_slice draws c.iter.ensures.rest) (λ x b q k. search rules)
    ∙ sym (draws_all draws)
