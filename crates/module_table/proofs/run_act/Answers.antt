-- `run_act` meets its contract: the steps go by the bytes that the house had before, and its own bytes, which no record has, come last.
use Rattle.module_table.proofs.TableLaws.{ran}
use Rattle.module_table.proofs.run_act.Goals as goal

pub returns : goal.returns
returns c =
    ran _ _ _ _ _ _ _ _ _ c.house_at-own.ensures
    c.house_after.ensures c.step_house-stepped.ensures c.put_house.ensures
