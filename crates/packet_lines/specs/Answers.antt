-- What is printed for a line of the packet program: the packet that its bytes are read as, the number of a refusal, or the place of what does not fit.
use Rattle.std.specs.Prelude.{ℕ, List, [], ◌∷◌, ◌++◌, eqb, Result, Ok, Err, Option, Some, None}
use Rattle.ground.specs.Choice.{pick}
use Rattle.ground.specs.Refusals.{refusal_number}
use Rattle.ground.specs.declared.Refusal.{Refusal}
use Rattle.ground.specs.Text.{bytes_of}
use Rattle.message.specs.declared.Message.{Message}
use Rattle.text.specs.Texts.{digits_of, hex_of, message_text}
use Rattle.lynx_net.specs.declared.Packet.{Packet}
use Rattle.lynx_net.specs.Lists.{listed}
use Rattle.lynx_net.specs.Packets.{read_answer}
use Rattle.packet_lines.specs.declared.Line.{Line}
use Rattle.packet_lines.specs.Lines.{bad_place, bytes_named}

-- a field after a tab
abbrev pub field : List ℕ → List ℕ
field text = 9 ∷ text

-- the fields of messages, one after the other, each as the trace prints it
unfoldable pub fields_of : List Message → List ℕ
fields_of [] = []
fields_of (m ∷ ms) = field (message_text 9 m) ++ fields_of ms

abbrev pub field_at : Option Message → List ℕ
field_at (Some m) = field (message_text 9 m)
field_at None = []

-- node and sequence in two hexadecimal digits each, and the messages
unfoldable pub packet_text : Packet → List ℕ
packet_text p = hex_of p.node ++ (field (hex_of p.sequence) ++ fields_of (listed p.messages))

-- a refusal by its number alone
abbrev pub answer_text : Result Packet Refusal → List ℕ
answer_text (Ok p) = packet_text p
answer_text (Err why) = digits_of (refusal_number why)

-- a line in full: the answer to its bytes, or, where a character does not fit, its place and BADBYTE
abbrev pub text_by : ℕ → List ℕ → List ℕ
text_by place answer = pick (eqb place 0) answer (digits_of place ++ field (bytes_of "BADBYTE")) ++ (10 ∷ [])

unfoldable pub line_text : Line → List ℕ → List ℕ
line_text l kept = text_by (bad_place l) (answer_text (read_answer (bytes_named l kept)))
