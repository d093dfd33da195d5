-- Houses, units, messages and numbers as bytes (01, 'Line examples').
use Rattle.std.specs.Prelude.{ℕ, zero, suc, ◌+◌, ◌/◌, ◌%◌, ◌≤◌, ◌<◌, ◌≡◌, List, [], ◌∷◌, ◌++◌, leb, ltb, eqb, length, take, replicate}
use Rattle.std.proofs.lemmas.List.Edits.{sets}
use Rattle.ground.specs.Choice.{pick}
use Rattle.ground.specs.Text.{bytes_of}
use Rattle.message.specs.Codes.{function_code, name_at}
use Rattle.message.specs.declared.Message.{Message}
use Rattle.message.specs.declared.Message.TheVariants.{Address, Function as Command, Extended}
use Rattle.text.specs.declared.Text.{Text}

-- a number in decimal, of at most so many digits
unfoldable pub digits_up_to : ℕ → ℕ → List ℕ
digits_up_to zero n = []
digits_up_to (suc k) n = pick (ltb n 10) ((48 + n) ∷ []) (digits_up_to k (n / 10) ++ ((48 + n % 10) ∷ []))

-- a number below 2 ^ 64 has no more than twenty
abbrev pub digits_of : ℕ → List ℕ
digits_of n = digits_up_to 20 n

-- "house letter", A to P; `?` for a house above 15
abbrev pub letter_of : ℕ → ℕ
letter_of house = pick (leb house 15) (65 + house) 63

-- "each byte two capital hexadecimal digits"
abbrev pub hex_digit : ℕ → ℕ
hex_digit n = pick (ltb n 10) (48 + n) (55 + n)

abbrev pub hex_of : ℕ → List ℕ
hex_of b = hex_digit (b / 16) ∷ hex_digit (b % 16) ∷ []

-- a word as the code keeps it, filled up with 0: as far as its first 0
unfoldable pub trimmed : List ℕ → List ℕ
trimmed [] = []
trimmed (b ∷ bs) = pick (eqb b 0) [] (b ∷ trimmed bs)

-- a module by its house and unit, as on its dial: A1 to P16
abbrev pub place_text : ℕ → ℕ → List ℕ
place_text h u = letter_of h ∷ digits_of (u + 1)

-- "house letter, then unit 1 to 16, or the function name listed above in capitals with its spaces, or unit, data and command, each byte two capital
-- hexadecimal digits", its fields parted by a byte: a tab in the trace, a space elsewhere
unfoldable pub message_text : ℕ → Message → List ℕ
message_text between (Address h u) = bytes_of "ADDRESS" ++ (between ∷ letter_of h ∷ between ∷ digits_of (u + 1))
message_text between (Command h f) = bytes_of "FUNCTION" ++ (between ∷ letter_of h ∷ between ∷ name_at (function_code f))
message_text between (Extended h u d c) =
    bytes_of "EXTENDED" ++ (between ∷ letter_of h ∷ between ∷ (digits_of (u + 1) ++ (between ∷ (hex_of d ++ (between ∷ hex_of c)))))

-- a text handed back by value: at the front of 32 bytes, those past it 0
unfoldable pub text_of : List ℕ → Text
text_of l = record { bytes = sets (replicate 32 0) 0 l; length = length l }

-- a text is put into a buffer at a place: the buffer then, and the place after it
pub record Put (before : List ℕ) (at : ℕ) (text after : List ℕ) (next : ℕ) : Type 0 where
  pub bytes : after ≡ sets before at text
  pub place : next ≡ at + length text

-- a text before anything is put into it
abbrev pub blank : Text
blank = record { bytes = replicate 32 0; length = 0 }

-- bytes are put after those that a text has
abbrev pub Adds : Text → List ℕ → Text → Type 0
Adds before text after = Put before.bytes before.length text after.bytes after.length

-- ---- what holds of texts: proofs/TextLaws.antt

-- the unit that a message names; 0 where it names none
abbrev pub unit_of : Message → ℕ
unit_of (Address h u) = u
unit_of (Command h f) = 0
unit_of (Extended h u d c) = u

-- no text is longer than 32 bytes; a unit is a byte
pub record FitsInText : Type 0 where
  pub decimal : (n : ℕ) → length (digits_of n) ≤ 20
  pub hex : (b : ℕ) → length (hex_of b) ≡ 2
  pub place : (h u : ℕ) → u < 256 → length (place_text h u) ≤ 4
  pub message : (between : ℕ) (m : Message) → unit_of m < 256 → length (message_text between m) ≤ 27

-- a text that fits is read back from its front
abbrev pub FrontIsText : Type 0
FrontIsText = (l : List ℕ) → length l ≤ 32 → take (text_of l).length (text_of l).bytes ≡ l
