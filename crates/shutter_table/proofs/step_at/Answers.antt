-- `step_at` meets its contract: an absent shutter stays; for another what is stored is what `step` makes of what was read, or the three bytes that are all
-- it changes of it.
use mathlib.Core.Path.{◌≡◌, ap, ◌∙◌}
use native.Mathlib.Omega.{arith}
use Rattle.ground.specs.Records.{put_at}
use borrow.Author.Tests.{ne_eqb}
use Rattle.shutter.specs.Shutters.{step_shutter}
use Rattle.shutter_table.specs.ShutterTable.{shutter_at, shutters}
use Rattle.shutter_table.proofs.TableLaws.{absent_at, moved_stored, stepped_at}
use Rattle.shutter_table.proofs.step_at.Goals as goal
use Rattle.shutter_table.proofs.step_at.Goals.{then-this-ne0, else-this-ne0}

pub returns-then-t-i-ne1 : goal.returns-then-t-i-ne1
unfolding shutter_at
returns-then-t-i-ne1 g c = absent_at c.args.motion c.args.i c.args.t.now (omega arith) c.requires.0 (ne_eqb _ _ c.if-t-i-ne1.true)

pub returns : goal.returns
returns g c =
    let put : c.if-this-ne0.t ≡ put_at shutters c.args.t.now c.args.i c.step-stepped.result = elim c.if-this-ne0.branch [
      | then-this-ne0 w ↦ w.t-is ∙ w.store.ensures
      | else-this-ne0 w ↦ let made = c.step-stepped.ensures ∙ ap (step_shutter c.args.motion) c.load-before.ensures in
          w.t-is ∙ w.store_fields.ensures ∙ moved_stored c.args.motion c.args.t.now c.args.i _ (omega arith) c.requires.0 made (c.requires.1 (rw w.if-this-ne0.false))
    ] in
    stepped_at _ _ _ _ _ _ _ c.load-before.ensures c.step-stepped.ensures put c.count_of.ensures
