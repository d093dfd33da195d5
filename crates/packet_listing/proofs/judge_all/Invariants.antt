-- `judge_all` is safe. The loop's invariant: the next row begins within the text, and no total is above the number of rows judged.
use Prim.Native.Nat.{◌≤◌}
use lib.ListN.{length}
use Rattle.packet_listing.proofs.judge_all.Given as goal

abbrev pub invariant-loop-row : goal.invariant-loop-row
invariant-loop-row g l =
    (l.at ≤ length l.text) × (l.totals.read ≤ l.row) × (l.totals.untaken ≤ l.row) × (l.totals.misprinted ≤ l.row) × (l.totals.wrong ≤ l.row)
    × (l.totals.partial ≤ l.row)
