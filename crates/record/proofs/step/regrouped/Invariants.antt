-- `step::regrouped` meets its contract. The loop's invariant: so far the mask, the presets and the references are those of the groups passed.
use mathlib.Core.Path.{◌≡◌}
use Prim.Native.Nat.{ℕ, ◌*◌, ◌^◌, ◌≤◌}
use Rattle.ground.specs.Choice.{pick}
use Rattle.ground.specs.Records.{sum_below}
use Rattle.plan.specs.Plans.{bit}
use Rattle.record.specs.declared.Membership.{Membership}
use Rattle.record.specs.declared.Groups.{Groups}
use Rattle.record.specs.Layout.{membership}
use Rattle.record.proofs.RecordLaws.{filled}
use Rattle.record.proofs.step.regrouped.Given as goal

-- what the record is then in group k
abbrev pub told' : ℕ → Membership → Groups → ℕ → Membership
told' told m of k = pick (bit k told) m (membership k of)

abbrev pub invariant-loop-k : goal.invariant-loop-k
invariant-loop-k l =
    (l.mask ≤ 8 * l.k) × (l.mask ≡ sum_below l.k (λ g. pick (told' l.told l.m l.groups g).member (2 ^ g) 0))
    × (l.presets ≡ filled l.k (λ g. (told' l.told l.m l.groups g).preset)) × (l.references ≡ filled l.k (λ g. (told' l.told l.m l.groups g).reference))
