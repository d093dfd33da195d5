-- A motion run on a table of the right length, for a house, a unit and an opening that there are, refuses nothing.
--
--     Ran, runs        what it answers and leaves
--     motion_order     MotionOrder
use Rattle.std.specs.Prelude.{Ok}
use mathlib.Core.Path.{◌≡◌, refl}
use mathlib.Core.Bool.{true}
use mathlib.Core.List.{List}
use Prim.Native.Nat.{ℕ, ◌<◌}
use native.Mathlib.Omega.{arith}
use borrow.Author.Tests.{eq-eqb, le-leb}
use lib.ListN.{length}
use Rattle.ground.specs.Refusals.{judged}
use Rattle.plan.specs.Motions.{motion_fits}
use Rattle.plan.specs.declared.Motion.{Motion}
use Rattle.shutter_table.specs.ShutterRuns.{unit_named, motion_answer, shutters_after, MotionOrder}
use Rattle.shutter_table.specs.ShutterTable.{SHUTTER_TABLE_BYTES, move_all, openings_changed}

pub record Ran (a : Motion) (h : ℕ) (t : List ℕ) : Type 0 where
  pub answer : motion_answer a h t ≡ Ok (openings_changed t (move_all a h t))
  pub table : shutters_after a h t ≡ move_all a h t

pub runs : (a : Motion) (h : ℕ) (t : List ℕ) → length t ≡ SHUTTER_TABLE_BYTES → h < 16 → unit_named a < 16 → motion_fits a ≡ true → Ran a h t
unfolding motion_answer shutters_after judged
runs a h t size house unit fits =
    let long = eq-eqb (length t) SHUTTER_TABLE_BYTES size in
    let low = le-leb h 15 (omega arith) in
    let named = le-leb (unit_named a) 15 (omega arith) in
    record { answer = rw (long, low, named, fits); table = rw (long, low, named, fits) }

pub motion_order : MotionOrder
motion_order a h t = refl
