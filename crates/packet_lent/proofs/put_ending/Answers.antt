-- `put_ending` meets its contract: in each arm the ending is the one that the pattern names.
use mathlib.Core.Path.{sym, ap, ◌∙◌}
use mathlib.Core.List.{List, flat_map, append-nil}
use Prim.Native.Nat.{ℕ}
use lib.Seq.{sets}
use Rattle.lynx_net.specs.declared.payload.Ending.{Ending}
use Rattle.lynx_net.specs.Lists.{ending_list}
use Rattle.packet_lent.specs.PacketBytes.{all_bytes}
use Rattle.packet_lent.proofs.put_ending.Goals as goal

pub returns-in-Nothing : goal.returns-in-Nothing
unfolding flat_map
returns-in-Nothing c = let a = c.args in ap (λ (e : Ending). sets a.out.now a.at (all_bytes (ending_list e))) (sym c.in-Nothing.is)

pub returns-in-Message : goal.returns-in-Message
unfolding flat_map
returns-in-Message c =
    let a = c.args in
    c.put_five.ensures ∙ ap (λ (l : List ℕ). sets a.out.now a.at l) (c.five_of.ensures ∙ sym (append-nil _))
    ∙ ap (λ (e : Ending). sets a.out.now a.at (all_bytes (ending_list e))) (sym c.in-Message.is)
