-- `to_message` meets its contract: what the stretch from the place of now comes to, all of it comes to. A turn takes one half-cycle off.
use Rattle.std.specs.Prelude.{Option}
use mathlib.Core.Path.{◌≡◌}
use mathlib.Core.Bool.{true}
use mathlib.Core.List.{List}
use Prim.Native.Nat.{ℕ, max, ◌≤◌}
use lib.ListN.{length}
use Rattle.message.specs.declared.Message.{Message}
use Rattle.receiver.specs.Receivers.{receiver_ok}
use Rattle.receiver.specs.declared.Receiver.{Receiver}
use Rattle.receiver.proofs.Stretches.{Toward}
use Rattle.receiver.proofs.lent.to_message.Given as goal

abbrev pub invariant-loop-i : goal.invariant-loop-i
invariant-loop-i l =
    (receiver_ok l.current ≡ true) × (length l.events ≡ length l.initial.events) × (l.i ≤ max l.from (length l.halves))
    × ((at : ℕ) (next : Receiver) (given : Option Message) (after : List ℕ)
    → Toward l.halves l.current l.i l.events at next given after → Toward l.halves l.initial.current l.from l.initial.events at next given after)
