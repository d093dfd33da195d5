use mathlib.Core.Path.{◌≡◌, refl}
use mathlib.Core.Bool.{Bool, ◌&&◌}
use mathlib.Core.List.{List}
use Prim.Native.Nat.{ℕ, ◌+◌, ◌*◌}
use native.Mathlib.Numerals.{add-one}
use Rattle.ground.specs.Records.{all_below, each_ok}
use Rattle.record.specs.Layout.{UNITS, record_at, modules}
use Rattle.record.specs.ModuleTable.{record_ok}
use Rattle.module_table.proofs.judge_each.Goals as goal

-- one record more
passed : (h : ℕ) (t : List ℕ) (n : ℕ) (ok more : Bool) → ok ≡ each_ok modules record_ok (h * UNITS) n t → more ≡ record_ok (record_at t (h * UNITS + n))
    → (ok && more) ≡ each_ok modules record_ok (h * UNITS) (n + 1) t
unfolding all_below
passed h t n ok more so_far last = simp (add-one, so_far, last)

pub loop-n-init : goal.loop-n-init
unfolding all_below
loop-n-init c = refl

pub loop-n-preserved : goal.loop-n-preserved
loop-n-preserved c = passed c.args.house c.args.t.now _ _ _ c.loop-n.invariant c.record_ok-ok.ensures
