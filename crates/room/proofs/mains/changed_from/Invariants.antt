-- `changed_from` meets its contract: after i turns the count is that of the first i records.
use mathlib.Core.Path.{◌≡◌}
use mathlib.Core.List.{List}
use Prim.Native.Nat.{ℕ, ◌≤◌}
use Rattle.ground.specs.Records.{differing}
use Rattle.record.specs.Layout.{RECORDS}
use Rattle.room.specs.Lent.{second_byte}
use Rattle.room.proofs.SecondBytes.{SecondBytesOf}
use Rattle.room.proofs.mains.changed_from.Given as goal

abbrev pub invariant-loop-i : goal.invariant-loop-i
invariant-loop-i l =
    (l.count ≤ l.i)
    × ((before : List ℕ) → SecondBytesOf l.size RECORDS before l.kept → l.count ≡ differing (second_byte l.size) l.i before l.t)
