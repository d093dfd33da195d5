-- `put_message` meets its contract: a tab, and then the text of the message, whose unit is a byte by its type.
use mathlib.Core.Path.{ap}
use Prim.Native.Nat.{◌≤◌}
use native.Mathlib.Omega.{arith}
use lib.ListN.{length}
use Rattle.text.specs.Texts.{message_text}
use Rattle.text.proofs.PutLaws.{put_then, put_as}
use Rattle.text.proofs.TextLaws.{unit_told, fits_in_text, text_front}
use Rattle.packet_lines.proofs.put_message.Goals as goal

pub put_text-requires : goal.put_text-requires
put_text-requires c =
    let m = c.args.m in
    let few : length (message_text 9 m) ≤ 27 = fits_in_text.message 9 m (unit_told m _ c.well_formed.1.1.0) in
    omega (arith, ap length (text_front c.message.ensures (omega arith)))

pub returns : goal.returns
returns c =
    let m = c.args.m in
    let few : length (message_text 9 m) ≤ 27 = fits_in_text.message 9 m (unit_told m _ c.well_formed.1.1.0) in
    let fields = put_as (text_front c.message.ensures (omega arith)) c.put_text.ensures in
    let put = put_then c.put_bytes-a.ensures fields in
    record { put = put; upper_bound = omega (arith, put.place) }
