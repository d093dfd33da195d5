-- `step_record` meets its contract: an absent unit stays, and a module is stepped in the part that the act may change.
use mathlib.Core.Path.{sym, ◌∙◌}
use native.Mathlib.Omega.{arith}
use borrow.Author.Tests.{eq-eqb, ne_eqb}
use Rattle.record.specs.Layout.{record_at}
use Rattle.record.proofs.RecordLaws.{absent_stays}
use Rattle.module_table.proofs.StillLaws.{alone}
use Rattle.module_table.proofs.step_record.Goals as goal

pub returns-then-t-i-eq0 : goal.returns-then-t-i-eq0
unfolding record_at
returns-then-t-i-eq0 c = alone _ _ _ _ _ (omega arith) c.requires (absent_stays _ _ _ _ (rw (eq-eqb _ _ c.if-t-i-eq0.true)))

pub step_level-requires : goal.step_level-requires
unfolding record_at
step_level-requires c =
    let keeps = sym c.keeps_groups.ensures ∙ c.if-keeps_groups.true in
    (c.requires, rw (ne_eqb _ _ c.if-t-i-eq0.false), keeps)

pub step_groups-requires : goal.step_groups-requires
unfolding record_at
step_groups-requires c =
    let keeps = sym c.keeps_groups.ensures ∙ c.if-keeps_groups.false in
    (c.requires, rw (ne_eqb _ _ c.if-t-i-eq0.false), keeps)

pub returns : goal.returns
returns c = c.step_groups.ensures _
