-- `valid` meets its contract: the length is tested, and then the shutters.
use borrow.Author.Tests.{eq-eqb, ne_eqb}
use Rattle.shutter_table.specs.ShutterTable.{shutters_ok}
use Rattle.shutter_table.proofs.valid.Goals as goal

pub returns-in-None : goal.returns-in-None
unfolding shutters_ok
returns-in-None c = simp (ne_eqb _ _ c.in-None.ensures.cases)

pub returns-in-Some : goal.returns-in-Some
unfolding shutters_ok
returns-in-Some c =
    let same = c.in-Some.ensures.cases in
    simp (c.all_ok.ensures, same.same, eq-eqb _ _ same.long)
