-- `reach_of` meets its contract: an act for one unit leaves the others, and an address leaves those that are not addressed.
use mathlib.Core.Path.{◌≡◌, refl}
use mathlib.Core.Bool.{false}
use mathlib.Core.Logic.{inl, inr}
use Prim.Native.Nat.{ℕ}
use Rattle.record.specs.declared.Record.{Record}
use Rattle.record.specs.ModuleTable.{step_record}
use Rattle.module_table.specs.Reaches.{may_change}
use Rattle.module_table.proofs.StillLaws.{unlevelled, unchosen, unaddressed, elsewhere, still}
use Rattle.module_table.proofs.reach_of.Goals as goal

pub returns-in-Nothing : goal.returns-in-Nothing
returns-in-Nothing c = rw (c.in-Nothing.is, c.reaching.ensures) (record { stays = λ n r q. still _ _ _ _ refl })

pub returns-in-Address : goal.returns-in-Address
returns-in-Address c =
    let a = c.args in
    rw (c.in-Address.is, c.reaching-in-Address.ensures, c.choose.ensures)
    (record { stays = λ n r q. still _ _ _ _ (unaddressed c.in-Address.unit n a.own r q) })

pub returns-in-Obey : goal.returns-in-Obey
returns-in-Obey c = rw c.in-Obey.is (record { stays = λ n r q. still _ _ _ _ (c.reach_by.ensures n r q) })

pub returns-in-Join : goal.returns-in-Join
returns-in-Join c =
    let kept : (n : ℕ) (r : Record) → may_change (record { unit = c.in-Join.unit; floor = 2 }) n r ≡ false → step_record c.args.act c.args.own n r ≡ r =
    λ n r q. let other = elsewhere n c.in-Join.unit r q in elim c.in-Join.is [
      | inl is ↦ rw is.2 (still _ _ _ _ (unchosen _ _ _ other))
      | inr rest ↦ elim rest [
        | inl is ↦ rw is.1 (still _ _ _ _ (unlevelled _ _ _ other))
        | inr rest' ↦ elim rest' [
          | inl is ↦ rw is.2 (still _ _ _ _ (unchosen _ _ _ other))
          | inr is ↦ rw is.1 (still _ _ _ _ (unchosen _ _ _ other))
        ]
      ]
    ] in
    rw c.reaching-in-Join.ensures (record { stays = kept })
