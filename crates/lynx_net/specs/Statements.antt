-- What holds of every packet, payload and message (02, A6): proofs/Theorems.antt.
use Rattle.std.specs.Prelude.{◌≡◌, ℕ, ◌+◌, ◌<◌, ◌≤◌, true, List, [], ◌∷◌, map, length, take, slice_index, Ok}
use Rattle.ground.specs.Refusals.{reports, refuses, cause_number}
use Rattle.ground.specs.declared.Refusal.TheVariants as refusal
use Rattle.message.specs.Messages.{message_ok}
use Rattle.message.specs.declared.Function.TheVariants.{StatusOn}
use Rattle.message.specs.declared.Message.{Message}
use Rattle.message.specs.declared.Message.TheVariants.{Function as Command}
use Rattle.lynx_net.specs.Payloads.{payload_ok, messages_of, payload_of, has_payload}
use Rattle.lynx_net.specs.Packets.{packet_of, payload_in, read_causes, read_answer, read_report, write_causes, buffer_after, alone_causes}
use Rattle.lynx_net.specs.declared.Packet.{Packet}

-- "Writing then reading gives back all three": node, sequence and payload, and with it the payload's messages, of the bytes that the writer put at the
-- front of a buffer with room for them
abbrev pub WrittenRead : Type 0
WrittenRead =
    (node sequence : ℕ) (payload buf : List ℕ) → payload_ok payload ≡ true → length payload + 5 ≤ length buf
    → let packet = take (length payload + 5) (buffer_after node sequence payload buf) in
    read_report packet (read_answer packet)
    ≡ reports (record { node = node; sequence = sequence; payload = payload; messages = messages_of payload } ∷ [])

-- "reading then writing the packet": what is read of a packet, written again, is that packet
abbrev pub ReadWritten : Type 0
ReadWritten =
    (packet : List ℕ) (p : Packet) → read_answer packet ≡ Ok p → packet_of p.node p.sequence (payload_in packet) ≡ packet

-- "a message makes the payload that means it alone"
abbrev pub MeansItAlone : Type 0
MeansItAlone = (m : Message) → message_ok m ≡ true → has_payload m ≡ true → (payload_ok (payload_of m) ≡ true) × (messages_of (payload_of m) ≡ m ∷ [])

-- and no other payload does; so "a message with none" is one that no payload means alone
abbrev pub NoOtherMeansIt : Type 0
NoOtherMeansIt = (payload : List ℕ) (m : Message) → payload_ok payload ≡ true → messages_of payload ≡ m ∷ [] → (has_payload m ≡ true) × (payload ≡ payload_of m)

-- every message of a list is valid
abbrev pub AllValid : List Message → Type 0
AllValid [] = Unit {0}
AllValid (m ∷ ms) = (message_ok m ≡ true) × AllValid ms

-- "every message that is read is valid": a payload is bytes
abbrev pub MessagesValid : Type 0
MessagesValid =
    (payload : List ℕ) → payload_ok payload ≡ true → ((k : ℕ) → slice_index payload k < 256) → AllValid (messages_of payload)

-- "stand for sixteen messages" is the most but one: sixteen units and a function
abbrev pub OneToSeventeen : Type 0
OneToSeventeen = (payload : List ℕ) → payload_ok payload ≡ true → (1 ≤ length (messages_of payload)) × (length (messages_of payload) ≤ 17)

-- "Refusals, in this order"
abbrev pub ReadOrder : Type 0
ReadOrder = (packet : List ℕ) → map cause_number (read_causes packet) ≡ 19 ∷ 20 ∷ 21 ∷ 22 ∷ []

-- "the writer gives 22, then 9"
abbrev pub WriteOrder : Type 0
WriteOrder = (node sequence : ℕ) (payload : List ℕ) (room : ℕ) → map cause_number (write_causes node sequence payload room) ≡ 22 ∷ 9 ∷ []

abbrev pub AloneOrder : Type 0
AloneOrder = (m : Message) (room : ℕ) → map cause_number (alone_causes m room) ≡ 2 ∷ 22 ∷ 9 ∷ []

-- "Proved: 10 00 9E 03 1D 00 FF CD is status on for house A; the same with last byte CC is refused."
abbrev pub status_on_a : ℕ → List ℕ
status_on_a last = 0x10 ∷ 0x00 ∷ 0x9E ∷ 0x03 ∷ 0x1D ∷ 0x00 ∷ 0xFF ∷ last ∷ []

pub record PacketExamples : Type 0 where
  pub status_on_example : read_report (status_on_a 0xCD) (read_answer (status_on_a 0xCD))
      ≡ reports (record { node = 0x00; sequence = 0x9E; payload = 0x1D ∷ 0x00 ∷ 0xFF ∷ []; messages = Command 0 StatusOn ∷ [] } ∷ [])
  pub refused : read_report (status_on_a 0xCC) (read_answer (status_on_a 0xCC)) ≡ refuses refusal.Check
