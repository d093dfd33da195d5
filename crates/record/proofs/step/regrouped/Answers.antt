use mathlib.Core.Path.{◌≡◌, refl, ap, ap₂, ◌∙◌}
use mathlib.Core.Bool.{Bool}
use mathlib.Core.List.{List}
use Prim.Native.Nat.{ℕ, ◌+◌, ◌^◌, ◌≤◌, ◌<◌}
use native.Mathlib.Omega.{arith}
use native.Mathlib.Numerals.{add-one}
use borrow.Author.Tests.{le-leb}
use lib.ListN.{set}
use Rattle.ground.specs.Choice.{pick}
use Rattle.ground.specs.Records.{sum_below}
use Rattle.ground.proofs.Choices.{pick_both}
use Rattle.record.specs.declared.Membership.{Membership}
use Rattle.record.specs.Layout.{GROUPS, regroup, bit_of}
use Rattle.record.proofs.RecordLaws.{filled, filled_all}
use Rattle.record.proofs.step.regrouped.Invariants.{told'}
use Rattle.record.proofs.step.regrouped.Goals as goal

-- one group more
mask_next : (f : ℕ → Membership) (k mask x b : ℕ) (own : Membership) → k < GROUPS → own ≡ f k → b ≡ bit_of k → x ≡ pick own.member b 0
    → mask ≡ sum_below k (λ g. pick (f g).member (2 ^ g) 0) → mask + x ≡ sum_below (k + 1) (λ g. pick (f g).member (2 ^ g) 0)
unfolding sum_below
mask_next f k mask x b own below is bit' chosen so_far =
    rw (add-one k) (ap₂ ◌+◌ so_far (chosen ∙ rw (is, bit', le-leb k 3 (omega arith))))

four_next : (f : ℕ → ℕ) (k x : ℕ) (xs : List ℕ) → x ≡ f k → xs ≡ filled k f → set xs k x ≡ filled (k + 1) f
unfolding filled
four_next f k x xs is so_far = rw (add-one k, is, so_far)

-- a bit of a mask is at most 8
small : (b : Bool) (x y : ℕ) → y ≤ 8 → x ≡ pick b y 0 → x ≤ 8
small b x y low e = rw e (pick_both (λ z. z ≤ 8) b y 0 low (omega arith))

pub loop-k-init : goal.loop-k-init
unfolding sum_below filled
loop-k-init c = (omega arith, refl, refl, refl)

pub loop-k-preserved : goal.loop-k-preserved
loop-k-preserved c =
    let loop = c.loop-k in
    let a = c.args in
    let f : ℕ → Membership = told' a.told a.m a.groups in
    let own = c.membership_told-own.ensures in
    let bit' = small c.membership_told-own.result.member _ _ c.only.ensures.1 c.choose-mask.ensures in (
      omega (arith, bit', loop.invariant.0),
      mask_next f loop.k _ _ _ _ c.loop-k-test.true own c.only.ensures.0 c.choose-mask.ensures loop.invariant.1,
      four_next (λ g. (f g).preset) loop.k _ _ (ap (λ (m : Membership). m.preset) own) loop.invariant.2,
      four_next (λ g. (f g).reference) loop.k _ _ (ap (λ (m : Membership). m.reference) own) loop.invariant.3,
    )

pub returns : goal.returns
unfolding regroup
returns c =
    let loop = c.loop-k in
    let a = c.args in
    let f : ℕ → Membership = told' a.told a.m a.groups in
    let end : loop.k ≡ GROUPS = omega arith in
    let mask = loop.invariant.1 ∙ ap (λ (n : ℕ). sum_below n (λ g. pick (f g).member (2 ^ g) 0)) end in
    let presets = loop.invariant.2 ∙ ap (λ (n : ℕ). filled n (λ g. (f g).preset)) end ∙ filled_all (λ g. (f g).preset) in
    let references = loop.invariant.3 ∙ ap (λ (n : ℕ). filled n (λ g. (f g).reference)) end ∙ filled_all (λ g. (f g).reference) in
    rw (mask, presets, references)
