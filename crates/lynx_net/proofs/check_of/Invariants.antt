-- `check_of` meets its contract. The loop's invariant: the sum so far, each carry dropped, is that of the bytes passed modulo 2 ^ 8.
use Rattle.std.proofs.Common.{◌≡◌, ◌%◌, ◌^◌, get_or}
use Rattle.ground.specs.Records.{sum_below}
use Rattle.lynx_net.proofs.check_of.Given as goal

abbrev pub invariant-loop-byte : goal.invariant-loop-byte
invariant-loop-byte l = l.sum ≡ sum_below l.byte-index (λ i. get_or l.bytes i 0) % 2 ^ 8
