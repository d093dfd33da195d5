-- What holds of one shutter, whatever the motion: proofs/ShutterLaws.antt.
use Rattle.std.specs.Prelude.{ℕ, min, ◌≡◌, true, false, length, set}
use Rattle.plan.specs.Motions.{motion_fits}
use Rattle.plan.specs.declared.Motion.{Motion}
use Rattle.plan.specs.declared.Motion.TheVariants.{Include}
use Rattle.shutter.specs.declared.Shutter.{Shutter}
use Rattle.shutter.specs.Shutters.{LIFESTYLES, present, protected, shutter_ok, with_limit, with_protection, moved, step_shutter}

-- the eight marks and eight openings are eight each: what a value of the type has
abbrev pub EightEach : Shutter → Type 0
EightEach s = (length s.marks ≡ LIFESTYLES) × (length s.openings ≡ LIFESTYLES)

-- a shutter that keeps the rules keeps them, but for a motion with an opening that there is not: 18
abbrev pub ShutterStaysValid : Type 0
ShutterStaysValid = (a : Motion) (s : Shutter) → EightEach s → motion_fits a ≡ true → shutter_ok s ≡ true → shutter_ok (step_shutter a s) ≡ true

-- "Absent shutters stay all zeros."
abbrev pub AbsentShutterStays : Type 0
AbsentShutterStays = (a : Motion) (s : Shutter) → present s ≡ false → step_shutter a s ≡ s

-- "With protection on .. an opening above the limit is cut to it", whatever the shutter was before: the lower of the limit that it has then and of the
-- opening that it would have without the cut
abbrev pub CutToTheLimit : Type 0
CutToTheLimit =
    (a : Motion) (s : Shutter) → present s ≡ true → protected (step_shutter a s) ≡ true
    → (step_shutter a s).opening ≡ min (step_shutter a s).limit (moved a s).opening

-- a motion leaves eight marks and eight openings
abbrev pub StaysEight : Type 0
StaysEight = (a : Motion) (s : Shutter) → EightEach s → EightEach (step_shutter a s)

-- "and only then": without protection the opening is the one that it would have without the cut
abbrev pub OnlyThenCut : Type 0
OnlyThenCut = (a : Motion) (s : Shutter) → present s ≡ true → protected (step_shutter a s) ≡ false → (step_shutter a s).opening ≡ (moved a s).opening

-- "the stored eight are not cut": what 07 brings is stored, and whatever the limit and the protection, the eight marks and openings are then the same
pub record StoredNotCut : Type 0 where
  pub brought : (u l x : ℕ) (s : Shutter) → present s ≡ true → (step_shutter (Include u l x) s).openings ≡ set s.openings l x
  pub kept : (a : Motion) (s : Shutter) (x p : ℕ) → let other = step_shutter a (with_limit x (with_protection p s)) in
      (other.marks ≡ (step_shutter a s).marks) × (other.openings ≡ (step_shutter a s).openings)

-- a command that is heard again changes nothing more
abbrev pub TwiceAsOnce : Type 0
TwiceAsOnce = (a : Motion) (s : Shutter) → step_shutter a (step_shutter a s) ≡ step_shutter a s
