-- `number_of` meets its contract. The loop's invariant: the number is that of the units from place k on, which is below 16 to the power of how many they are.
use Rattle.std.proofs.Common.{◌≡◌, drop}
use Rattle.lynx_net.specs.Lists.{number_of}
use Rattle.lynx_net.proofs.payload.number_of.Given as goal

abbrev pub invariant-loop-k : goal.invariant-loop-k
invariant-loop-k l = l.number ≡ number_of (drop l.k l.units)
