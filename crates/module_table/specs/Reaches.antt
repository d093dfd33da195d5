-- What the private routines of a house's records promise: which of them an act leaves as they are, so that they need not be stored.
use Rattle.std.specs.Prelude.{ℕ, ◌≡◌, Bool, false, ◌||◌, eqb, leb}
use Rattle.plan.specs.declared.Act.{Act}
use Rattle.record.specs.ModuleTable.{step_record}
use Rattle.record.specs.declared.House.{House}
use Rattle.record.specs.declared.Record.{Record}
use Rattle.module_table.specs.declared.Reach.{Reach}

-- whether the record of unit n is among those told: that of the unit, or one whose "addressed" byte reaches the floor
abbrev pub may_change : Reach → ℕ → Record → Bool
may_change o n r = leb o.floor r.addressed || eqb n o.unit

-- an act leaves every record that is not among them
pub record Spares (a : Act) (own : House) (o : Reach) : Type 0 where
  pub stays : (n : ℕ) (r : Record) → may_change o n r ≡ false → step_record a own n r ≡ r
