-- `store` meets its contract: four bytes, the eight marks and the eight openings are put one after the other, as the definition lists them.
use mathlib.Core.Path.{◌∙◌}
use Prim.Native.Nat.{◌*◌}
use Rattle.shutter_table.specs.ShutterTable.{SHUTTER_BYTES}
use Rattle.shutter_table.proofs.TableLaws.{stored}
use Rattle.shutter_table.proofs.store.Goals as goal

pub returns : goal.returns
returns c =
    let first = c.put_eight.ensures in
    c.put_eight-2.ensures.0 ∙ rw first.0 (stored c.args.t.now (c.args.i * SHUTTER_BYTES) c.args.s first.1)
