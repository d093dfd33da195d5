-- `put_hex` meets its contract: the text is that of the byte, two digits.
use mathlib.Core.Path.{ap}
use native.Mathlib.Omega.{arith}
use lib.Dec.{lit≤}
use lib.ListN.{length}
use Rattle.text.proofs.PutLaws.{put_as}
use Rattle.text.proofs.TextLaws.{text_front}
use Rattle.packet_lines.proofs.put_hex.Goals as goal

pub put_text-requires : goal.put_text-requires
put_text-requires c = omega (arith, ap length (text_front c.hex.ensures (lit≤ tt)))

pub returns : goal.returns
returns c = put_as (text_front c.hex.ensures (lit≤ tt)) c.put_text.ensures
