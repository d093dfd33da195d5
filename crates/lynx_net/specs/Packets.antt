-- LynX-NET packets (02, A6; source 002, 'Overview'): network, node, sequence, length, data, check byte.
use Rattle.std.specs.Prelude.{ℕ, ◌+◌, ◌-◌, ◌%◌, ◌^◌, Bool, ◌&&◌, List, [], ◌∷◌, ◌++◌, length, take, drop, ◌==◌, nat_le, slice_index, Result, Ok, Err}
use Rattle.ground.specs.Records.{sum_below, front}
use Rattle.ground.specs.Refusals.{Report, reports, refuses, Cause, unless, judged}
use Rattle.ground.specs.declared.Refusal.{Refusal}
use Rattle.ground.specs.declared.Refusal.TheVariants as refusal
use Rattle.message.specs.Messages.{message_ok}
use Rattle.message.specs.declared.Message.{Message}
use Rattle.lynx_net.specs.declared.Packet.{Packet}
use Rattle.lynx_net.specs.Payloads.{payload_ok, messages_of, payload_of, has_payload}
use Rattle.lynx_net.specs.Lists.{listed, held_in}

-- ---- a packet's bytes

-- 002: "0x10 Protocol, X-10"
abbrev pub NETWORK : ℕ
NETWORK = 0x10

-- "The check byte is the sum of all bytes before it, the node's too, where each carry out of eight bits is dropped."
unfoldable pub check_of : List ℕ → ℕ
check_of bytes = sum_below (length bytes) (λ k. slice_index bytes k) % 2 ^ 8

-- "network, node, sequence, length, data, check byte"; 002: "The length byte is the length of the data field only."
abbrev pub before_check : ℕ → ℕ → List ℕ → List ℕ
before_check node sequence payload = NETWORK ∷ node ∷ sequence ∷ length payload ∷ payload

unfoldable pub packet_of : ℕ → ℕ → List ℕ → List ℕ
packet_of node sequence payload = before_check node sequence payload ++ (check_of (before_check node sequence payload) ∷ [])

-- ---- the reader

-- "19 is a size that disagrees with the length byte, or is below 5"
abbrev pub size_ok : List ℕ → Bool
size_ok packet = nat_le 5 (length packet) && length packet == slice_index packet 3 + 5

-- the last byte against all before it
abbrev pub check_ok : List ℕ → Bool
check_ok packet = slice_index packet (length packet - 1) == check_of (take (length packet - 1) packet)

abbrev pub network_ok : List ℕ → Bool
network_ok packet = slice_index packet 0 == NETWORK

-- the bytes that the length byte counts
abbrev pub payload_in : List ℕ → List ℕ
payload_in packet = take (slice_index packet 3) (drop 4 packet)

-- "Refusals, in this order: 19 PACKET LENGTH, 20 CHECK, 21 NETWORK other than 0x10, 22 PAYLOAD not of these forms"
abbrev pub read_causes : List ℕ → List Cause
read_causes packet =
    unless (size_ok packet) refusal.PacketLength
    ∷ unless (check_ok packet) refusal.Check
    ∷ unless (network_ok packet) refusal.Network
    ∷ unless (payload_ok (payload_in packet)) refusal.Payload
    ∷ []

-- what is answered: the payload by its length, since it stands in the bytes that were read
abbrev pub packet_in : List ℕ → Packet
packet_in packet =
    record { node = slice_index packet 1; sequence = slice_index packet 2; length = slice_index packet 3; messages = held_in (payload_in packet) }

unfoldable pub read_answer : List ℕ → Result Packet Refusal
read_answer packet = judged (read_causes packet) (Ok (packet_in packet)) Err

-- "The reader gives node, sequence, payload and its messages"
pub record Parts : Type 0 where
  pub node : ℕ
  pub sequence : ℕ
  pub payload : List ℕ
  pub messages : List Message

-- those of bytes that are a packet
abbrev pub parts_of : List ℕ → Parts
parts_of packet =
    record { node = slice_index packet 1; sequence = slice_index packet 2; payload = payload_in packet; messages = messages_of (payload_in packet) }

-- those of an answer, to one who has the bytes: the payload is so many of them from the fifth on
abbrev pub parts_told : List ℕ → Packet → Parts
parts_told packet p =
    record { node = p.node; sequence = p.sequence; payload = take p.length (drop 4 packet); messages = listed p.messages }

-- the number and the parts of each answer
abbrev pub read_report : List ℕ → Result Packet Refusal → Report Parts
read_report packet (Ok p) = reports (parts_told packet p ∷ [])
read_report packet (Err why) = refuses why

-- ---- the writer

-- bytes at the front of a lent buffer: 9 "when the buffer is too short"; the count is that of the bytes, and "a lent buffer beyond what is written stays"
abbrev pub front_causes : List ℕ → ℕ → List Cause
front_causes bytes room = unless (nat_le (length bytes) room) refusal.Short ∷ []

unfoldable pub front_answer : List ℕ → ℕ → Result ℕ Refusal
front_answer bytes room = judged (front_causes bytes room) (Ok (length bytes)) Err

unfoldable pub front_after : List ℕ → List ℕ → List ℕ
front_after bytes buf = judged (front_causes bytes (length buf)) (front bytes buf) (λ why. buf)

-- "the writer gives 22, then 9 when the buffer is too short"
abbrev pub write_causes : ℕ → ℕ → List ℕ → ℕ → List Cause
write_causes node sequence payload room = unless (payload_ok payload) refusal.Payload ∷ front_causes (packet_of node sequence payload) room

unfoldable pub write_answer : ℕ → ℕ → List ℕ → ℕ → Result ℕ Refusal
write_answer node sequence payload room =
    judged (write_causes node sequence payload room) (Ok (length (packet_of node sequence payload))) Err

unfoldable pub buffer_after : ℕ → ℕ → List ℕ → List ℕ → List ℕ
buffer_after node sequence payload buf =
    judged (write_causes node sequence payload (length buf)) (front (packet_of node sequence payload) buf) (λ why. buf)

-- ---- the payload of a message

-- 2: "house or unit above 15"; 22: "a message with none"; 9 when the buffer is too short
abbrev pub alone_causes : Message → ℕ → List Cause
alone_causes m room = unless (message_ok m) refusal.Message ∷ unless (has_payload m) refusal.Payload ∷ front_causes (payload_of m) room

unfoldable pub alone_answer : Message → ℕ → Result ℕ Refusal
alone_answer m room = judged (alone_causes m room) (Ok (length (payload_of m))) Err

unfoldable pub alone_after : Message → List ℕ → List ℕ
alone_after m buf = judged (alone_causes m (length buf)) (front (payload_of m) buf) (λ why. buf)
