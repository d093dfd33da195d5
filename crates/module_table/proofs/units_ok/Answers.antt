-- `units_ok` meets its contract: each record of a house whose bytes are zeros keeps the rules, and none of its modules is lit;
-- where the quick test finds no fault each keeps them too.
use mathlib.Core.Path.{◌≡◌, sym, ◌∙◌}
use mathlib.Core.Bool.{Bool, true}
use mathlib.Core.List.{[]}
use Prim.Native.Nat.{◌+◌, ◌*◌}
use native.Mathlib.Omega.{arith}
use lib.Dec.{eqb}
use Rattle.ground.specs.Records.{each_ok}
use Rattle.ground.proofs.Records.{zeros_each}
use Rattle.record.specs.declared.Record.{Record}
use Rattle.record.specs.Layout.{RECORD_BYTES, UNITS, record_at, modules, house_at}
use Rattle.record.specs.ModuleTable.{record_ok, lit_in}
use Rattle.module_table.proofs.TableLaws.{modules_laid, zeros_ok, zeros_dark, lit_none}
use Rattle.module_table.proofs.units_ok.Goals as goal

pub returns-then-zeros : goal.returns-then-zeros
unfolding house_at
returns-then-zeros c =
    let args = c.args in
    let from = args.house * (UNITS * RECORD_BYTES) in
    let none = sym c.zeros.ensures ∙ c.if-zeros.true in
    let each : (ok : Record → Bool) → ok (record_at [] 0) ≡ true → each_ok modules ok (args.house * UNITS) UNITS args.t.now ≡ true =
    λ ok good. zeros_each modules modules_laid ok good args.t.now (args.house * UNITS) UNITS from (from + UNITS * RECORD_BYTES) (omega arith) (omega arith)
    (omega arith) none in
    let lit : lit_in args.t.now args.house ≡ 0 = lit_none args.t.now args.house UNITS (each (λ r. eqb r.level 0) zeros_dark) in
    rw (each record_ok zeros_ok, lit, c.house_at-own.ensures)

pub returns-then-quick : goal.returns-then-quick
unfolding house_at
returns-then-quick c =
    let quick = c.quick_each-quick.ensures in
    rw (quick.0 c.if-quick.true, quick.1, c.house_at-own.ensures)

pub returns : goal.returns
unfolding house_at
returns c =
    let quick = c.quick_each-quick.ensures in
    rw (c.judge_each.ensures, quick.1, c.house_at-own.ensures)
