-- `run_all` meets its contract: at each turn, the half-cycles that are left would bring the receiver of now to where all of them bring the
-- first one, and their events, put behind those that stand, would fill the buffer in the same way. A turn takes a stretch of them off.
use mathlib.Core.Path.{◌≡◌}
use mathlib.Core.Bool.{true}
use mathlib.Core.List.{flat_map}
use Prim.Native.Nat.{◌-◌, ◌*◌, ◌≤◌}
use lib.ListN.{length, drop}
use lib.Seq.{sets}
use Rattle.receiver.specs.Receivers.{receiver_ok}
use Rattle.receiver.specs.Hearing.{events_of, receiver_after}
use Rattle.receiver.specs.Bytes.{event_bytes}
use Rattle.receiver.proofs.lent.run_all.Given as goal

abbrev pub invariant-loop-i : goal.invariant-loop-i
invariant-loop-i l =
    (receiver_ok l.current ≡ true) × (l.i ≤ length l.halves) × (length l.events ≡ length l.initial.events)
    × (receiver_after l.current (drop l.i l.halves) ≡ receiver_after l.initial.current l.halves)
    × (sets l.events (6 * l.i) (flat_map event_bytes (events_of l.current (drop l.i l.halves))) ≡ sets l.initial.events 0 (flat_map event_bytes (events_of l.initial.current l.halves)))

abbrev pub decreases-loop-i : goal.decreases-loop-i
decreases-loop-i l = length l.halves - l.i
