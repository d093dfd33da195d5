-- `put_messages` meets its contract: after i turns the fields of the first i messages are put, each of 28 bytes at most.
use Prim.Native.Nat.{◌+◌, ◌*◌, ◌≤◌}
use lib.ListN.{take}
use Rattle.text.specs.Texts.{Put}
use Rattle.lynx_net.specs.Lists.{listed}
use Rattle.packet_lines.specs.Answers.{fields_of}
use Rattle.packet_lines.proofs.put_messages.Given as goal

abbrev pub invariant-loop-i : goal.invariant-loop-i
invariant-loop-i l = (l.at ≤ l.from + 28 * l.i) × Put l.initial.out l.from (fields_of (take l.i (listed l.ms))) l.out l.at
