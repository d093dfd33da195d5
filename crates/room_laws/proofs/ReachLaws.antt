-- Laws of what an act reaches.
--
--     step_unreached      a record that an act does not reach stays
use mathlib.Core.Path.{◌≡◌, refl, sym, ◌∙◌}
use mathlib.Core.Bool.{Bool, true, false, ◌&&◌, ◌||◌, true≢false, and-true}
use Prim.Native.Nat.{ℕ}
use lib.Dec.{eqb}
use Rattle.ground.specs.Choice.{pick}
use Rattle.message.specs.declared.Function.{Function}
use Rattle.message.specs.declared.Function.TheVariants.{AllUnitsOff, AllLightsOn, On, Off, Dim, Bright, AllLightsOff, HailRequest, HailAcknowledge}
use Rattle.message.specs.declared.Function.TheVariants.{StatusOn, StatusOff, StatusRequest}
use Rattle.plan.specs.declared.Act.{Act}
use Rattle.plan.specs.declared.Act.TheVariants.{Nothing, Address, Obey, Join, Level, JoinAt, UnitsOn, UnitsOff, Leave, LeaveHouse, Group}
use Rattle.plan.specs.declared.GroupAct.{GroupAct}
use Rattle.plan.specs.declared.GroupAct.TheVariants.{Execute, PutOff, StepDim, StepBright}
use Rattle.record.specs.declared.Record.{Record}
use Rattle.record.specs.declared.House.{House}
use Rattle.record.specs.Layout.{present, lamp, preset, with_addressed}
use Rattle.record.specs.ModuleTable.{relevel, lit_level, dimmed, brightened, addressed, obeyed, level_for, reached, asked, acted, step_record}
use Rattle.module_table.proofs.StillLaws.{unlevelled, unchosen}
use Rattle.room_laws.specs.Statements.{hears, heeds, act_reaches}

-- ---- a record that an act does not reach

unheard : (f : Function) (r : Record) → hears f r ≡ false → obeyed f r ≡ r
unheard On r e = unlevelled (addressed r) (lit_level r.level) r e
unheard Off r e = unlevelled (addressed r) 0 r e
unheard Dim r e = unlevelled (addressed r && lamp r) (dimmed r.level) r e
unheard Bright r e = unlevelled (addressed r && lamp r) (brightened r.level) r e
unheard AllLightsOn r e = unlevelled (lamp r) 63 r e
unheard AllLightsOff r e = unlevelled (lamp r) 0 r e
unheard AllUnitsOff r e = absurd (true≢false e)
unheard HailRequest r e = refl
unheard HailAcknowledge r e = refl
unheard StatusOn r e = refl
unheard StatusOff r e = refl
unheard StatusRequest r e = refl

-- a step is for lamps
unstepped : (b l : Bool) (x : ℕ) (r : Record) → (b && l) ≡ false → relevel b (pick l x r.level) r ≡ r
unstepped true true x r e = absurd (true≢false e)
unstepped true false x r e = refl
unstepped false l x r e = refl

unheeded : (ask : GroupAct) (g : ℕ) (b : Bool) (r : Record) → (b && heeds ask r) ≡ false → relevel b (asked ask g r) r ≡ r
unheeded Execute g b r e = unlevelled b (preset g r) r (sym (and-true b) ∙ e)
unheeded PutOff g b r e = unlevelled b 0 r (sym (and-true b) ∙ e)
unheeded StepDim g b r e = unstepped b (lamp r) (dimmed r.level) r e
unheeded StepBright g b r e = unstepped b (lamp r) (brightened r.level) r e

unreached : (a : Act) (own : House) (n : ℕ) (r : Record) → act_reaches a own n r ≡ false → acted a own n r ≡ r
unreached Nothing own n r e = refl
unreached (Address u) own n r e = go (eqb n u) (eqb own.heard 1) e
  where
    go : (b c : Bool) → (b || c) ≡ false → with_addressed (pick b 1 (pick c 0 r.addressed)) r ≡ r
    go true c q = absurd (true≢false q)
    go false true q = absurd (true≢false q)
    go false false q = refl
unreached (Obey f) own n r e = unheard f r e
unreached (Join u g s) own n r e = unchosen (eqb n u) _ r e
unreached (Level u b) own n r e = unlevelled (eqb n u) (level_for b r) r e
unreached (JoinAt u g b) own n r e = unchosen (eqb n u) _ r e
unreached UnitsOn own n r e = absurd (true≢false e)
unreached UnitsOff own n r e = absurd (true≢false e)
unreached (Leave u gs) own n r e = unchosen (eqb n u) _ r e
unreached (LeaveHouse gs) own n r e = absurd (true≢false e)
unreached (Group g s ask) own n r e = unheeded ask g (reached g s r) r e

pub step_unreached : (a : Act) (own : House) (n : ℕ) (r : Record) → (present r && act_reaches a own n r) ≡ false → step_record a own n r ≡ r
unfolding step_record
step_unreached a own n r = go (present r)
  where
    go : (b : Bool) → (b && act_reaches a own n r) ≡ false → pick b (acted a own n r) r ≡ r
    go true e = unreached a own n r e
    go false e = refl
