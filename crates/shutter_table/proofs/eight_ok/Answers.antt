-- `eight_ok` meets its contract: each of eight shutters whose bytes are zeros keeps the rules.
use mathlib.Core.Path.{sym, ◌∙◌}
use Prim.Native.Nat.{◌+◌, ◌*◌}
use native.Mathlib.Omega.{arith}
use Rattle.ground.proofs.Records.{zeros_each}
use Rattle.shutter.specs.Shutters.{shutter_ok}
use Rattle.shutter_table.specs.Eights.{EIGHT, EIGHT_BYTES}
use Rattle.shutter_table.specs.ShutterTable.{shutters}
use Rattle.shutter_table.proofs.TableLaws.{shutters_laid, zeros_ok}
use Rattle.shutter_table.proofs.eight_ok.Goals as goal

pub returns-then-zeros : goal.returns-then-zeros
returns-then-zeros c =
    let args = c.args in
    let from = args.e * EIGHT_BYTES in
    let none = sym c.zeros.ensures ∙ c.if-zeros.true in
    sym
    (zeros_each shutters shutters_laid shutter_ok zeros_ok args.t.now (args.e * EIGHT) EIGHT from (from + EIGHT_BYTES) (omega arith) (omega arith)
    (omega arith) none)
