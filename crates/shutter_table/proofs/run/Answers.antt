-- `run` meets its contract: the tests on the way are the causes.
use Rattle.std.specs.Prelude.{Result, Ok}
use Prim.Native.Nat.{ℕ}
use Rattle.ground.specs.declared.Refusal.{Refusal}
use mathlib.Core.Path.{◌≡◌, sym, ap, ap₂, ◌∙◌}
use mathlib.Core.Bool.{true, false, ◌&&◌}
use lib.Dec.{leb}
use lib.ListN.{length}
use Rattle.ground.proofs.Causes.{ladder}
use Rattle.ground.proofs.Choices.{both_below}
use Rattle.plan.specs.Motions.{motion_fits}
use Rattle.shutter_table.specs.ShutterRuns.{unit_named, motion_answer, shutters_after}
use Rattle.shutter_table.specs.ShutterTable.{SHUTTER_TABLE_BYTES, move_all, openings_changed}
use Rattle.shutter_table.proofs.Runs.{runs}
use Rattle.shutter_table.proofs.run.Goals as goal

pub returns-in_default : goal.returns-in_default
unfolding motion_answer shutters_after
returns-in_default c =
    let short : length c.args.t.now ≡ SHUTTER_TABLE_BYTES → ⊥ = c.in_default.ensures.cases in
    record { answer = search ladder; table = search ladder }

pub returns-then-not-house-unit_named : goal.returns-then-not-house-unit_named
unfolding motion_answer shutters_after
returns-then-not-house-unit_named c =
    let whole : length c.args.t.now ≡ SHUTTER_TABLE_BYTES = c.in-Some.ensures.cases.long in
    let beyond : (leb c.args.house 15 && leb (unit_named c.args.motion) 15) ≡ false = rw c.unit_named.ensures at c.if-not-house-unit_named.true in
    record { answer = search ladder; table = c.in-Some.ensures.cases.same ∙ search ladder }

pub returns-then-not-motion_fits : goal.returns-then-not-motion_fits
unfolding motion_answer shutters_after
returns-then-not-motion_fits c =
    let whole : length c.args.t.now ≡ SHUTTER_TABLE_BYTES = c.in-Some.ensures.cases.long in
    let within : (leb c.args.house 15 && leb (unit_named c.args.motion) 15) ≡ true = rw c.unit_named.ensures at c.if-not-house-unit_named.false in
    let wide : motion_fits c.args.motion ≡ false = sym c.motion_fits.ensures ∙ c.if-not-motion_fits.true in
    record { answer = search ladder; table = c.in-Some.ensures.cases.same ∙ search ladder }

pub run_motion-requires : goal.run_motion-requires
run_motion-requires c = both_below _ _ (rw c.unit_named.ensures at c.if-not-house-unit_named.false)

pub returns : goal.returns
returns c =
    let t = c.args.t.now in
    let whole = c.in-Some.ensures.cases in
    let within = both_below _ _ (rw c.unit_named.ensures at c.if-not-house-unit_named.false) in
    let low : motion_fits c.args.motion ≡ true = sym c.motion_fits.ensures ∙ c.if-not-motion_fits.false in
    let told = runs c.args.motion c.args.house t whole.long within.0 within.1 low in
    let ran = c.run_motion.ensures in
    let left = ran.0 ∙ ap (move_all c.args.motion c.args.house) whole.same in
    record { answer = ap {B = Result ℕ Refusal} Ok (ran.1 ∙ ap₂ openings_changed whole.same left) ∙ sym told.answer; table = left ∙ sym told.table }
