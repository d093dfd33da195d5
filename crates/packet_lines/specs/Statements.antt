-- What holds of lines: the bytes of a packet, written in hexadecimal, are read as these bytes. proofs/LineLaws.antt.
use Rattle.std.specs.Prelude.{ℕ, ◌≤◌, ◌≡◌, true, List, [], ◌∷◌, ◌++◌, ltb, length, get_or}
use Rattle.ground.specs.Records.{all_below}
use Rattle.ground.specs.Text.{bytes_of}
use Rattle.text.specs.Texts.{hex_of}
use Rattle.lynx_net.specs.Packets.{read_answer}
use Rattle.packet_lines.specs.Lines.{KEPT, line_start, Taken, taken_from, bad_place, bytes_named}
use Rattle.packet_lines.specs.Answers.{field, answer_text, line_text}

-- bytes as a line: two digits and a blank for each
unfoldable pub hex_line : List ℕ → List ℕ
hex_line [] = []
hex_line (b ∷ bs) = hex_of b ++ (32 ∷ hex_line bs)

-- a line from its beginning on, over what an earlier one left in the bytes kept
abbrev pub line_taken : List ℕ → List ℕ → Taken
line_taken kept line = taken_from (record { line = line_start; kept = kept }) line

-- every character fits, the bytes named are these, and the line prints the answer to them
pub record Names (bytes : List ℕ) (t : Taken) : Type 0 where
  pub fits : bad_place t.line ≡ 0
  pub names_bytes : bytes_named t.line t.kept ≡ bytes
  pub printed : line_text t.line t.kept ≡ answer_text (read_answer bytes) ++ (10 ∷ [])

-- of any bytes, as many as a packet can have and one more
abbrev pub HexIsRead : Type 0
HexIsRead =
    (bytes kept : List ℕ) → all_below (length bytes) (λ k. ltb (get_or bytes k 0) 256) ≡ true → length bytes ≤ KEPT → length kept ≡ KEPT
    → Names bytes (line_taken kept (hex_line bytes))

-- 02's two packets: "10 00 9E 03 1D 00 FF CD is status on for house A; the same with last byte CC is refused"
abbrev pub status_on : ℕ → List ℕ
status_on check = 0x10 ∷ 0x00 ∷ 0x9E ∷ 0x03 ∷ 0x1D ∷ 0x00 ∷ 0xFF ∷ check ∷ []

pub record ExamplePrinted : Type 0 where
  pub read : answer_text (read_answer (status_on 0xCD))
      ≡ bytes_of "00" ++ (field (bytes_of "9E") ++ (field (bytes_of "FUNCTION") ++ (field (bytes_of "A") ++ field (bytes_of "STATUS ON"))))
  pub refused : answer_text (read_answer (status_on 0xCC)) ≡ bytes_of "20"
