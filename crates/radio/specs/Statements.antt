-- What holds of radio bytes as a whole (01, 'Radio bytes'), said of the definitions in the contracts of `write`, `read` and `messages`.
use Rattle.std.specs.Prelude.{◌≡◌, true, ℕ, ◌+◌, ◌-◌, ◌^◌, ◌<◌, eqb, length, get_or, Ok}
use mathlib.Core.List.{List, [], ◌∷◌, Memᴰ}
use Rattle.std.specs.Int.Bits.{bit_xor}
use Rattle.ground.specs.Choice.{pick}
use Rattle.ground.specs.Refusals.{reports, lowest}
use Rattle.message.specs.Messages.{message_ok}
use Rattle.message.specs.declared.Message.{Message}
use Rattle.radio.specs.Codes.{nibble_of, digit, Place, b's, c's, its, unit_bits, unit_from, command_ok, four_bytes, codes}
use Rattle.radio.specs.Answers.{write_causes, write_answer, write_report, read_causes, read_answer, read_report, messages_causes, messages_answer, messages_report}
use Rattle.radio.specs.declared.RadioCommand.{RadioCommand}
use Rattle.radio.specs.declared.RadioCommand.TheVariants.{On, Off}

-- No four bits stand for two houses: "each shown to be one-to-one".
abbrev pub NibblesOneToOne : Type 0
NibblesOneToOne = (g h : ℕ) → g < 16 → h < 16 → nibble_of g ≡ nibble_of h → g ≡ h

-- No two commands share a code.
abbrev pub NoSharedCode : Type 0
NoSharedCode = (j k : RadioCommand) → command_ok j ≡ true → command_ok k ≡ true → four_bytes j ≡ four_bytes k → j ≡ k

-- "There are 544 codes": of all lists of bytes, those that the reader does not refuse are the 544 of one list, which has none twice.
pub record Exactly544 : Type 0 where
  pub as_many : length codes ≡ 544
  pub none_twice : (i j : ℕ) → i < 544 → j < 544 → get_or codes i [] ≡ get_or codes j [] → i ≡ j
  pub each_read : (code : List ℕ) → Memᴰ code codes → (read_report (read_answer code)).number ≡ 0
  pub no_other : (code : List ℕ) → (read_report (read_answer code)).number ≡ 0 → Memᴰ code codes

-- Reading what was written gives the command back: a command with house and unit 0 to 15 is written as its four bytes, and these are
-- read as that command.
abbrev pub ReadOfWritten : Type 0
ReadOfWritten = (k : RadioCommand) → command_ok k ≡ true
    → (write_report (write_answer k) ≡ reports (four_bytes k)) × (read_answer (four_bytes k) ≡ Ok k)

-- Writing what was read gives the four bytes back: where the reader gives a command for bytes, the writer gives them for it.
abbrev pub WrittenOfRead : Type 0
WrittenOfRead = (k : RadioCommand) (code : List ℕ) → read_answer code ≡ Ok k → write_report (write_answer k) ≡ reports code

-- ---- the unit's bits (02, A4)

-- a command for a house and a unit is an on or an off
pub data OnOrOff : (ℕ → ℕ → RadioCommand) → Type 0 where
  on : OnOrOff On
  off : OnOrOff Off

-- "work the unit from its bits by 01's rule": four bytes that are read as on or off have the unit that the bits of b and c tell.
abbrev pub UnitByItsBits : Type 0
UnitByItsBits = (switch : ℕ → ℕ → RadioCommand) → OnOrOff switch → (h u b x c y : ℕ)
    → read_answer (b ∷ x ∷ c ∷ y ∷ []) ≡ Ok (switch h u) → u ≡ unit_from b c

-- a number with its bit of a weight turned: more by the weight where the bit was 0, less by it where the bit was 1
abbrev pub turned : ℕ → ℕ → ℕ
turned w n = pick (eqb (digit n w) 0) (n + w) (n - w)

-- which is the exclusive or of the number and the weight
abbrev pub TurnedIsXor : Type 0
TurnedIsXor = (k n : ℕ) → turned (2 ^ k) n ≡ bit_xor n (2 ^ k)

-- four bytes with a bit of b, or of c, turned, "and its complement"
abbrev pub turned_at : Place → ℕ → ℕ → ℕ → ℕ → List ℕ
turned_at (b's i) b x c y = turned (2 ^ i) b ∷ turned (2 ^ i) x ∷ c ∷ y ∷ []
turned_at (c's i) b x c y = b ∷ x ∷ turned (2 ^ i) c ∷ turned (2 ^ i) y ∷ []

-- "in a code for on or off, turning one of the four unit bits, and its complement, gives the code of the same command, the unit moved by
-- that bit's weight": the turned bytes are read as that command, and written for it.
abbrev pub TurnedUnitBit : Type 0
TurnedUnitBit = (switch : ℕ → ℕ → RadioCommand) → OnOrOff switch → (w : ℕ) (p : Place) → Memᴰ (its w p) unit_bits → (h u b x c y : ℕ)
    → read_answer (b ∷ x ∷ c ∷ y ∷ []) ≡ Ok (switch h u)
    → (read_answer (turned_at p b x c y) ≡ Ok (switch h (turned w u)))
    × (write_report (write_answer (switch h (turned w u))) ≡ reports (turned_at p b x c y))

-- ---- messages, and the lowest number

-- What a command means is valid: each message that is given for it, whatever the command.
abbrev pub MessagesValid : Type 0
MessagesValid = (k : RadioCommand) (m : Message) → Memᴰ m (messages_report (messages_answer k)).values → message_ok m ≡ true

-- "Within one routine the lowest number that applies is given."
pub record LowestNumbers : Type 0 where
  pub by_write : (k : RadioCommand) → (write_report (write_answer k)).number ≡ lowest (write_causes k)
  pub by_read : (code : List ℕ) → (read_report (read_answer code)).number ≡ lowest (read_causes code)
  pub by_messages : (k : RadioCommand) → (messages_report (messages_answer k)).number ≡ lowest (messages_causes k)
