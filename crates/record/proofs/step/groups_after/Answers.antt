-- `step::groups_after` meets its contract: an absent unit stays, and else it is what the act leaves.
use mathlib.Core.Path.{ap, ◌∙◌}
use lib.Dec.{eqb}
use Rattle.ground.specs.Choice.{pick}
use Rattle.record.specs.declared.Record.{Record}
use Rattle.record.specs.declared.Groups.{Groups}
use Rattle.record.specs.ModuleTable.{acted, step_record}
use Rattle.record.proofs.RecordLaws.{part_after}
use Rattle.record.proofs.step.groups_after.Goals as goal

pub returns : goal.returns
unfolding step_record
returns c =
    let a = c.args in
    λ own. c.choose.ensures ∙ ap (λ (q : Groups). pick (eqb a.r.kind 0) a.r.groups q) (c.act_groups.ensures own)
    ∙ part_after (eqb a.r.kind 0) (λ (q : Record). q.groups) (acted a.act own a.n a.r) a.r
