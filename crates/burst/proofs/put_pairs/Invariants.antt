-- `put_pairs` meets its contract: at each turn, putting the bits that are left from the next place on would give what putting all of
-- them from the first place on gives. A turn puts the highest of them.
use mathlib.Core.Path.{◌≡◌}
use Prim.Native.Nat.{◌+◌, ◌*◌}
use lib.Seq.{sets}
use Rattle.burst.specs.Frames.{bits_of, pairs_of}
use Rattle.burst.proofs.put_pairs.Given as goal

abbrev pub invariant-loop-left : goal.invariant-loop-left
invariant-loop-left l = (l.next + 2 * l.left ≡ l.at + 2 * l.n) × (sets l.out l.next (pairs_of (bits_of l.left l.word)) ≡ sets l.initial.out l.at (pairs_of (bits_of l.n l.word)))
