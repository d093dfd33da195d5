-- `step::level_after` meets its contract: an absent unit stays, and else it is what the act leaves.
use mathlib.Core.Path.{ap, ◌∙◌}
use Prim.Native.Nat.{ℕ}
use lib.Dec.{eqb}
use Rattle.ground.specs.Choice.{pick}
use Rattle.record.specs.declared.Record.{Record}
use Rattle.record.specs.ModuleTable.{acted, step_record}
use Rattle.record.proofs.RecordLaws.{part_after}
use Rattle.record.proofs.step.level_after.Goals as goal

pub returns : goal.returns
unfolding step_record
returns c =
    let a = c.args in
    λ own. c.choose.ensures ∙ ap (λ (x : ℕ). pick (eqb a.r.kind 0) a.r.level x) (c.act_level.ensures own)
    ∙ part_after (eqb a.r.kind 0) (λ (q : Record). q.level) (acted a.act own a.n a.r) a.r
