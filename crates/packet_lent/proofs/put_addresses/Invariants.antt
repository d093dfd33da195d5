-- `put_addresses` meets its contract: the addresses from the i-th on are still to be put, which makes what all of them make of the buffer.
use mathlib.Core.Path.{◌≡◌}
use mathlib.Core.List.{List, [], ◌∷◌}
use Prim.Native.Nat.{ℕ, ◌+◌, ◌*◌, ◌-◌}
use lib.Seq.{sets}
use Rattle.lynx_net.specs.Lists.{digit_at}
use Rattle.packet_lent.proofs.BytesLaws.{each_of}
use Rattle.packet_lent.proofs.put_addresses.Given as goal

-- the five bytes of the address of unit i
abbrev pub address_bytes : ℕ → ℕ → ℕ → List ℕ
address_bytes house units i = 1 ∷ house ∷ digit_at units i ∷ 0 ∷ 0 ∷ []

abbrev pub invariant-loop-i : goal.invariant-loop-i
invariant-loop-i l =
    sets l.out (3 + 5 * l.i) (each_of (address_bytes l.ms.house l.ms.units) l.i (l.n - l.i))
    ≡ sets l.initial.out 3 (each_of (address_bytes l.ms.house l.ms.units) 0 l.n)
