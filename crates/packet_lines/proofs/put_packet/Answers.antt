-- `put_packet` meets its contract: node, tab, sequence and messages, one after the other.
use Rattle.text.proofs.PutLaws.{put_then}
use Rattle.packet_lines.specs.Answers.{packet_text}
use Rattle.packet_lines.proofs.put_packet.Goals as goal

pub returns-clause-put : goal.returns-clause-put
unfolding packet_text
returns-clause-put c = put_then c.put_hex-a.ensures (put_then c.put_bytes-b.ensures (put_then c.put_hex-c.ensures c.put_messages.ensures.put))
