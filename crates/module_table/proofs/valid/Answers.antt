-- `valid` meets its contract: the length is tested, then the records of each house with its lit modules, then the "command heard" bytes.
use borrow.Author.Tests.{eq-eqb, ne_eqb}
use Rattle.record.specs.ModuleTable.{table_ok}
use Rattle.module_table.proofs.TableLaws.{by_houses}
use Rattle.module_table.proofs.valid.Goals as goal

pub returns-in-None : goal.returns-in-None
unfolding table_ok
returns-in-None c = simp (ne_eqb _ _ c.in-None.ensures.cases)

pub returns-in-Some : goal.returns-in-Some
unfolding table_ok
returns-in-Some c =
    let whole = c.in-Some.ensures.cases in
    rw (c.all_heard_ok.ensures, c.all_units_ok.ensures, whole.same, eq-eqb _ _ whole.long) (by_houses _)
