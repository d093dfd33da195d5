-- `put_payload` meets its contract: after i turns the first i bytes of the payload are put and added, and those to come make the whole.
use Rattle.std.proofs.Common.{◌≡◌, ◌+◌, ◌%◌, ◌^◌, get_or, drop}
use lib.Seq.{sets}
use Rattle.ground.specs.Records.{sum_below}
use Rattle.lynx_net.proofs.put_payload.Given as goal

abbrev pub invariant-loop-i : goal.invariant-loop-i
invariant-loop-i l =
    (sets l.buf (4 + l.i) (drop l.i l.payload) ≡ sets l.initial.buf 4 l.payload)
    × (l.sum ≡ (l.head + sum_below l.i (λ k. get_or l.payload k 0)) % 2 ^ 8)
