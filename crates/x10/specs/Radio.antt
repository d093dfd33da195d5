-- `x10_radio_write` and `x10_radio_read`: a radio command in three numbers, and its four bytes.
use Rattle.std.specs.Prelude.{ℕ, ◌≡◌, List, [], ◌∷◌, ◌++◌, leb, length, drop, Result, Ok, Err}
use Rattle.ground.specs.Refusals.{Cause, unless, judged, number_given, lowest}
use Rattle.ground.specs.declared.Refusal.TheVariants as refusal
use Rattle.radio.specs.Codes.{four_bytes, command_of}
use Rattle.radio.specs.Answers.{write_causes, read_causes}
use Rattle.radio.specs.declared.RadioCommand.{RadioCommand}
use Rattle.x10.specs.Commands.{command_bytes}
use Rattle.ground.specs.declared.Refusal.{Refusal}

-- bytes at a buffer's front; "bytes beyond stay"
abbrev pub front : List ℕ → List ℕ → List ℕ
front bytes buf = bytes ++ drop (length bytes) buf

-- ---- writing: what the writer refuses, 2, and then 9 for a buffer below 4

abbrev pub code_causes : RadioCommand → ℕ → List Cause
code_causes k room = write_causes k ++ (unless (leb 4 room) refusal.Short ∷ [])

unfoldable pub code_answer : RadioCommand → ℕ → Result ℕ Refusal
code_answer k room = judged (code_causes k room) (Ok 4) Err

unfoldable pub code_after : RadioCommand → List ℕ → List ℕ
code_after k buf = judged (code_causes k (length buf)) (front (four_bytes k) buf) (λ why. buf)

-- "Within one routine the lowest number that applies is given.": proofs/Refusals.antt
abbrev pub CodeLowest : Type 0
CodeLowest = (k : RadioCommand) (room : ℕ) → lowest (code_causes k room) ≡ number_given (code_causes k room)

-- ---- reading: 9 for a buffer below 3, and then what the reader refuses, 12, 13, 14

abbrev pub command_causes : List ℕ → ℕ → List Cause
command_causes code room = unless (leb 3 room) refusal.Short ∷ read_causes code

unfoldable pub command_answer : List ℕ → ℕ → Result ℕ Refusal
command_answer code room = judged (command_causes code room) (Ok 3) Err

unfoldable pub command_after : List ℕ → List ℕ → List ℕ
command_after code buf = judged (command_causes code (length buf)) (front (command_bytes (command_of code)) buf) (λ why. buf)

-- "Within one routine the lowest number that applies is given.": proofs/Refusals.antt
abbrev pub CommandLowest : Type 0
CommandLowest = (code : List ℕ) (room : ℕ) → lowest (command_causes code room) ≡ number_given (command_causes code room)
