-- `heed` meets its contract: what the half-cycles from the place of now leave is what those from the first place leave. A turn takes a stretch
-- of them off, and applies its message.
use mathlib.Core.Path.{◌≡◌}
use Prim.Native.Nat.{◌-◌}
use lib.ListN.{length}
use Rattle.room.specs.Rooms.{room_of}
use Rattle.room.specs.Lent.{Prepared, remains_by}
use Rattle.room.proofs.mains.heed.Given as goal

abbrev pub invariant-loop-i : goal.invariant-loop-i
invariant-loop-i l =
    Prepared l.current l.halves l.i (room_of l.table l.shutters) l.events l.answers × (length l.events ≡ length l.initial.events) × (length l.answers ≡ length l.initial.answers)
    × (remains_by l.halves l.current l.i (room_of l.table l.shutters) l.events l.answers
    ≡ remains_by l.halves l.initial.current l.initial.i (room_of l.initial.table l.initial.shutters) l.initial.events l.initial.answers)

abbrev pub decreases-loop-i : goal.decreases-loop-i
decreases-loop-i l = length l.halves - l.i
