-- `second_bytes` meets its contract: after i turns the second bytes of the first i records are kept.
use mathlib.Core.Path.{◌≡◌}
use lib.ListN.{length}
use Rattle.record.specs.Layout.{RECORDS}
use Rattle.room.proofs.SecondBytes.{SecondBytesOf}
use Rattle.room.proofs.mains.second_bytes.Given as goal

abbrev pub invariant-loop-i : goal.invariant-loop-i
invariant-loop-i l = (length l.kept ≡ RECORDS) × SecondBytesOf l.size l.i l.t l.kept
