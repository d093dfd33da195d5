-- What the private routines of a shutter table promise: the run of places that a motion reaches, and that run stepped.
use Rattle.std.specs.Prelude.{ℕ, ◌+◌, ◌≤◌, ◌<◌, ◌≡◌, ◌&&◌, List, leb, ltb}
use Rattle.ground.specs.Records.{step_each}
use Rattle.plan.specs.declared.Motion.{Motion}
use Rattle.shutter.specs.Shutters.{reaches, step_shutter}
use Rattle.shutter_table.specs.ShutterTable.{SHUTTERS, shutters, openings_changed}

-- of a motion for house h: so many places from the first on are those that it reaches
pub record Covers (a : Motion) (h first many : ℕ) : Type 0 where
  pub within : first + many ≤ SHUTTERS
  pub exactly : (i : ℕ) → i < SHUTTERS → reaches a h i ≡ (leb first i && ltb i (first + many))

-- so many shutters from the first on are stepped, and the answer is the count of openings that differ
pub record SteppedRun (a : Motion) (first many : ℕ) (before after : List ℕ) (answer : ℕ) : Type 0 where
  pub table : after ≡ step_each shutters (λ k. step_shutter a) first many before
  pub count : answer ≡ openings_changed before after
