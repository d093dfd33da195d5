-- `judge_all` is safe. The loop's invariant: the next line begins within the text, and no total is above the number of rows judged.
use Prim.Native.Nat.{◌≤◌}
use lib.ListN.{length}
use Rattle.radio_listing.proofs.judge_all.Given as goal

abbrev pub invariant-loop-number : goal.invariant-loop-number
invariant-loop-number g l =
    (l.at ≤ length l.text) × (l.totals.agree ≤ l.number) × (l.totals.differ ≤ l.number) × (l.totals.wrong ≤ l.number)
