-- Laws of an act run on lent bytes, for those who call it.
--
--     act_lowest                    ActLowest
--     run_done                      the answer and the bytes left, where the length is a table's and the house is one of the sixteen
--     changed_at_most               no more levels change than there are records
--     step_changed, run_changed     at most one a record stepped, and so at most sixteen an act
use Rattle.std.specs.Prelude.{Ok}
use mathlib.Core.Path.{◌≡◌, refl, sym}
use mathlib.Core.List.{List}
use Prim.Native.Nat.{ℕ, zero, suc, ◌+◌, ◌*◌, ◌≤◌, ◌<◌}
use native.Mathlib.Omega.{arith}
use borrow.Author.Tests.{le-leb, eq-eqb}
use lib.Dec.{eqb}
use lib.ListN.{length}
use Rattle.ground.specs.Choice.{pick}
use Rattle.ground.specs.Records.{step_each}
use Rattle.ground.specs.Refusals.{judged}
use Rattle.ground.proofs.Causes.{lowest_given}
use Rattle.ground.proofs.Records.{each-length, each_other, one_at_most, differing_put, differing_at_most}
use Rattle.plan.specs.declared.Act.{Act}
use Rattle.record.specs.declared.House.{House}
use Rattle.record.specs.Layout.{UNITS, HOUSES, RECORDS, TABLE_BYTES, record_at, modules, house_at}
use Rattle.record.specs.ModuleTable.{lit_in, step_record, house_after, run_act, level_of, changed}
use Rattle.module_table.specs.ModuleRuns.{act_causes, act_answer, modules_after, ActLowest}
use Rattle.module_table.proofs.TableLaws.{modules_laid, step_keeps, step_sound, record_put_house, changed_ext, changed_none}
use Rattle.module_table.proofs.HouseLaws.{stepped}

pub act_lowest : ActLowest
act_lowest h t = lowest_given (act_causes h t) refl

-- the tests of a caller that has a table and a house are passed
pub run_done : (a : Act) (h : ℕ) (t : List ℕ) → length t ≡ TABLE_BYTES → h < HOUSES
    → (act_answer a h t ≡ Ok (changed t (run_act a h t))) × (modules_after a h t ≡ run_act a h t)
unfolding act_answer modules_after judged
run_done a h t size house =
    let long = eq-eqb (length t) TABLE_BYTES size in
    let low = le-leb h 15 (omega arith) in
    (rw (long, low), rw (long, low))

-- ---- how many levels change

pub changed_at_most : (b t : List ℕ) → changed b t ≤ RECORDS
changed_at_most b t = differing_at_most modules level_of RECORDS b t

module _ (a : Act) (own : House) (h : ℕ) (t : List ℕ) (house : h < HOUSES) (size : length t ≡ TABLE_BYTES) where
  pub step_changed : (n : ℕ) → n ≤ UNITS → changed t (step_each modules (step_record a own) (h * UNITS) n t) ≤ n
  unfolding step_each
  step_changed zero room = rw (changed_none t) (omega arith)
  step_changed (suc n) room =
      let s = step_each modules (step_record a own) (h * UNITS) n t in
      let i = h * UNITS + n in
      let r = step_record a own n (record_at s i) in
      let long : length s ≡ length t = each-length modules modules_laid (step_record a own) (step_keeps a own) (h * UNITS) t n in
      let ahead : record_at t i ≡ record_at s i =
      sym (each_other modules modules_laid (step_record a own) (step_keeps a own) (h * UNITS) t n i (λ k hk e. omega arith)) in
      let same = eqb (record_at s i).level r.level in
      let one : pick same 0 1 ≤ 1 = one_at_most same in
      let few = step_changed n (omega arith) in
      rw (differing_put modules level_of modules_laid RECORDS i t s r (step_sound a own n i s) (omega arith) (omega arith) ahead) (omega arith)

pub run_changed : (a : Act) (h : ℕ) (t : List ℕ) → h < HOUSES → length t ≡ TABLE_BYTES → changed t (run_act a h t) ≤ UNITS
unfolding run_act
run_changed a h t house size =
    let own = house_at t h in
    let after = stepped a own h t in
    rw (changed_ext t (run_act a h t) after (λ i below. record_put_house after i h (house_after a (lit_in after h) own) below))
    (step_changed a own h t house size UNITS (omega arith))
