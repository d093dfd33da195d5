-- `step::join` meets its contract: the group told is the one, by its bit.
use mathlib.Core.Path.{◌≡◌, ◌∙◌}
use mathlib.Core.Bool.{true}
use Prim.Native.Nat.{ℕ, ◌<◌, min}
use lib.Dec.{eqb}
use Rattle.ground.specs.Choice.{pick}
use Rattle.plan.specs.Plans.{bit, ABSOLUTE}
use Rattle.record.specs.declared.Membership.{Membership}
use Rattle.record.specs.Layout.{GROUPS, membership, bit_of}
use Rattle.record.specs.ModuleTable.{joined}
use Rattle.record.proofs.RecordLaws.{only_bit, regroup_ext}
use Rattle.record.proofs.step.join.Goals as goal

-- what is told of group k
told : (g k only x least reference : ℕ) (m : Membership) → k < GROUPS → only ≡ bit_of g → least ≡ min ABSOLUTE reference
    → pick (bit k only) (record { member = true; preset = x; reference = least }) m
    ≡ pick (eqb g k) (record { member = true; preset = x; reference = min ABSOLUTE reference }) m
told g k only x least reference m below bit' low = rw (bit', low, only_bit g k below)

pub returns : goal.returns
unfolding joined
returns c =
    let a = c.args in
    c.regrouped.ensures
    ∙ regroup_ext _ _
    (λ k below. told a.g k _ a.x _ a.reference (membership k a.groups) below c.only.ensures.0 c.min.ensures)
