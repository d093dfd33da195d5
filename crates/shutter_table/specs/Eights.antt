-- What the private routines that judge a shutter table promise: shutters are judged eight at a time.
use Rattle.std.specs.Prelude.{ℕ, ◌*◌, ◌/◌, Bool, List}
use Rattle.ground.specs.Records.{each_ok}
use Rattle.shutter.specs.Shutters.{shutter_ok}
use Rattle.shutter_table.specs.ShutterTable.{SHUTTER_BYTES, SHUTTERS, shutters}

-- the shutters that are judged at a time, their bytes, and how many times that is
abbrev pub EIGHT : ℕ
EIGHT = 8

abbrev pub EIGHT_BYTES : ℕ
EIGHT_BYTES = EIGHT * SHUTTER_BYTES

abbrev pub EIGHTS : ℕ
EIGHTS = SHUTTERS / EIGHT

-- each shutter of the e-th eight keeps the rules
abbrev pub eight_ok : ℕ → List ℕ → Bool
eight_ok e t = each_ok shutters shutter_ok (e * EIGHT) EIGHT t
