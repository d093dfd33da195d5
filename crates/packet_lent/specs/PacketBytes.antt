-- What a packet carries, in lent bytes: node, sequence, the payload's length, and five bytes for each message (wire's Messages).
use Rattle.std.specs.Prelude.{ℕ, ◌≡◌, length, get_or, Result, Ok, Err}
use mathlib.Core.List.{List, [], ◌∷◌, ◌++◌, flat_map, map}
use Rattle.ground.specs.Records.{front}
use Rattle.ground.specs.Refusals.{Cause, judged, cause_number}
use Rattle.ground.specs.declared.Refusal.{Refusal}
use Rattle.message.specs.declared.Message.{Message}
use Rattle.wire.specs.Messages.{message_bytes}
use Rattle.lynx_net.specs.declared.Packet.{Packet}
use Rattle.lynx_net.specs.Payloads.{messages_of}
use Rattle.lynx_net.specs.Lists.{listed}
use Rattle.lynx_net.specs.Packets.{payload_in, read_causes, front_causes}

-- five bytes for each of a list of messages
abbrev pub all_bytes : List Message → List ℕ
all_bytes ms = flat_map message_bytes ms

-- the messages of a packet, and all that it carries: the payload itself stands in the packet, from its fifth byte on
abbrev pub carried_by : List ℕ → List Message
carried_by packet = messages_of (payload_in packet)

abbrev pub part_bytes : ℕ → ℕ → ℕ → List Message → List ℕ
part_bytes node sequence count ms = node ∷ sequence ∷ count ∷ all_bytes ms

abbrev pub carried_bytes : List ℕ → List ℕ
carried_bytes packet = part_bytes (get_or packet 1 0) (get_or packet 2 0) (get_or packet 3 0) (carried_by packet)

-- the same of what the reader answers
abbrev pub packet_bytes : Packet → List ℕ
packet_bytes p = part_bytes p.node p.sequence p.length (listed p.messages)

-- ---- reading into a lent buffer

-- what the reader refuses, 19, 20, 21, 22, and then 9 for a buffer without room
abbrev pub carried_causes : List ℕ → ℕ → List Cause
carried_causes packet room = read_causes packet ++ front_causes (carried_bytes packet) room

-- the count is that of the messages
unfoldable pub carried_answer : List ℕ → ℕ → Result ℕ Refusal
carried_answer packet room = judged (carried_causes packet room) (Ok (length (carried_by packet))) Err

-- "a lent buffer beyond what is written stays"
unfoldable pub carried_after : List ℕ → List ℕ → List ℕ
carried_after packet buf = judged (carried_causes packet (length buf)) (front (carried_bytes packet) buf) (λ why. buf)

-- the order of the causes: proofs/BytesLaws.antt
abbrev pub CarriedOrder : Type 0
CarriedOrder = (packet : List ℕ) (room : ℕ) → map cause_number (carried_causes packet room) ≡ 19 ∷ 20 ∷ 21 ∷ 22 ∷ 9 ∷ []
