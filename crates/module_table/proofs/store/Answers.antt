-- `store` meets its contract: four bytes, the presets and the references are put one after the other, as the definition lists them.
use mathlib.Core.Path.{◌∙◌}
use Prim.Native.Nat.{◌*◌}
use Rattle.record.specs.Layout.{RECORD_BYTES}
use Rattle.module_table.proofs.TableLaws.{stored}
use Rattle.module_table.proofs.store.Goals as goal

pub returns : goal.returns
returns c =
    let first = c.put_four.ensures in
    c.put_four-2.ensures.0 ∙ rw first.0 (stored c.args.t.now (c.args.i * RECORD_BYTES) c.args.r first.1)
