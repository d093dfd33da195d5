-- The bits that a message's frame carries, as one number, highest bit first (01, 'Frames and bursts').
use Rattle.std.specs.Prelude.{ℕ, ◌+◌, ◌*◌, ◌/◌, ◌%◌, ◌^◌, ◌≡◌, true, List, [], ◌∷◌, eqb, ltb, Result, Ok, Err}
use Rattle.ground.specs.Refusals.{Report, reports, refuses, Cause, unless, judged}
use Rattle.ground.specs.declared.Refusal.TheVariants as refusal
use Rattle.message.specs.Messages.{message_ok}
use Rattle.ground.specs.Choice.{pick}
use Rattle.message.specs.Codes.{code_of, number_of, function_code, meaning_of}
use Rattle.message.specs.declared.Message.{Message}
use Rattle.message.specs.declared.Message.TheVariants.{Address, Function as Command, Extended}
use Rattle.message.specs.declared.codes.Meaning.{Meaning}
use Rattle.message.specs.declared.codes.Meaning.TheVariants.{Function as Carries, Extended as Longer, Unsupported}
use Rattle.message.specs.declared.word.Word.{Word}
use Rattle.message.specs.declared.word.Reading.{Reading}
use Rattle.message.specs.declared.word.Reading.TheVariants.{Message as Says, Longer as More, Unsupported as Unread}
use Rattle.ground.specs.declared.Refusal.{Refusal}

-- "Standard: house 4 bits, code 4 bits, function bit"
abbrev pub nine : ℕ → ℕ → ℕ → ℕ
nine house code function = (house * 16 + code) * 2 + function

-- the bits: "function bit (0 for an address)"; "Extended: house, code 7 with function bit 1, unit 4 bits, data 8, command 8"
abbrev pub word_of : Message → ℕ
word_of (Address h u) = nine (code_of h) (code_of u) 0
word_of (Command h f) = nine (code_of h) (function_code f) 1
word_of (Extended h u d c) = ((nine (code_of h) 7 1 * 16 + code_of u) * 256 + d) * 256 + c

-- how many bits
abbrev pub bit_count : Message → ℕ
bit_count (Address h u) = 9
bit_count (Command h f) = 9
bit_count (Extended h u d c) = 29

-- the bits and their count together; 2 for a "house or unit above 15"
abbrev pub word_in : Message → Word
word_in m = record { bits = word_of m; count = bit_count m }

abbrev pub word_causes : Message → List Cause
word_causes m = unless (message_ok m) refusal.Message ∷ []

unfoldable pub word_answer : Message → Result Word Refusal
word_answer m = judged (word_causes m) (Ok (word_in m)) Err

abbrev pub word_report : Result Word Refusal → Report Word
word_report (Ok w) = reports (w ∷ [])
word_report (Err why) = refuses why

-- ---- the same read back

-- what nine bits say, by the house number and by what the code stands for with function bit 1
abbrev pub function_reading : ℕ → Meaning → Reading
function_reading house (Carries f) = Says (Command house f)
function_reading house Longer = More
function_reading house Unsupported = Unread

unfoldable pub standard_of : ℕ → Reading
standard_of w =
    pick (eqb (w % 2) 0)
    (Says (Address (number_of (w / 32 % 16)) (number_of (w / 2 % 16))))
    (function_reading (number_of (w / 32 % 16)) (meaning_of (w / 2 % 16)))

-- and what 29 bits say that begin with a house, code 7 and function bit 1
abbrev pub extended_of : ℕ → Message
extended_of w = Extended (number_of (w / 2 ^ 25 % 16)) (number_of (w / 2 ^ 16 % 16)) (w / 256 % 256) (w % 256)

-- "more pairs than its frame has": a number of more than nine bits; one of more than 29, or whose first nine do not say code 7 with function bit 1
abbrev pub standard_causes : ℕ → List Cause
standard_causes w = unless (ltb w (2 ^ 9)) refusal.State ∷ []

unfoldable pub standard_answer : ℕ → Result Reading Refusal
standard_answer w = judged (standard_causes w) (Ok (standard_of w)) Err

abbrev pub extended_causes : ℕ → List Cause
extended_causes w = unless (ltb w (2 ^ 29)) refusal.State ∷ unless (eqb (w / 2 ^ 20 % 32) 15) refusal.State ∷ []

unfoldable pub extended_answer : ℕ → Result Reading Refusal
extended_answer w = judged (extended_causes w) (Ok (Says (extended_of w))) Err

-- 01's number and value for each reading: "10, 11 .. receiver events, not refusals"
abbrev pub said : Reading → Report Message
said (Says m) = reports (m ∷ [])
said More = reports []
said Unread = record { number = 11; values = [] }

abbrev pub reading_report : Result Reading Refusal → Report Message
reading_report (Ok r) = said r
reading_report (Err why) = refuses why

-- ---- what holds of every valid message: proofs/WordLaws.antt

-- what the bits of a message say, by their count
abbrev pub read_word : Word → Result Reading Refusal
read_word w = pick (eqb w.count 9) (standard_answer w.bits) (extended_answer w.bits)

abbrev pub WordsReadBack : Type 0
WordsReadBack = (m : Message) → message_ok m ≡ true → read_word (word_in m) ≡ Ok (Says m)

-- two valid messages with the same bits are one message
abbrev pub WordsOneToOne : Type 0
WordsOneToOne = (m n : Message) → message_ok m ≡ true → message_ok n ≡ true → word_in m ≡ word_in n → m ≡ n
