-- What the private routines promise of the records of one house.
use Rattle.std.specs.Prelude.{ℕ, ◌*◌, Bool, ◌&&◌, List}
use Rattle.ground.specs.Records.{each_ok}
use Rattle.record.specs.Layout.{UNITS, modules, lit_byte}
use Rattle.record.specs.ModuleTable.{record_ok, lit_ok, lit_in}

-- each of them keeps the rules, and the house's byte says how many modules are above level 0
abbrev pub units_ok : List ℕ → ℕ → Bool
units_ok t h = each_ok modules record_ok (h * UNITS) UNITS t && lit_ok (lit_in t h) (lit_byte t h)
