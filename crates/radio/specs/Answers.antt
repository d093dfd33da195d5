-- What the routines on radio bytes answer (01, 'Radio bytes', 'Numbers given back').
use Rattle.std.specs.Prelude.{ℕ, ◌-◌, Bool, ◌&&◌, List, [], ◌∷◌, eqb, length, get_or, drop, Result, Ok, Err}
use Rattle.ground.specs.Refusals.{Report, reports, refuses, Cause, unless, judged}
use Rattle.ground.specs.declared.Refusal.TheVariants as refusal
use Rattle.message.specs.declared.Function.{Function}
use Rattle.message.specs.declared.Function.TheVariants as function
use Rattle.message.specs.declared.Message.{Message}
use Rattle.message.specs.declared.Message.TheVariants as message
use Rattle.radio.specs.Codes.{command_ok, among, four_bytes, command_of}
use Rattle.radio.specs.declared.RadioCommand.{RadioCommand}
use Rattle.radio.specs.declared.RadioCommand.TheVariants.{On, Off, Bright, Dim}
use Rattle.radio.specs.declared.RadioMessages.{RadioMessages}
use Rattle.radio.specs.declared.RadioMessages.TheVariants as messages
use Rattle.ground.specs.declared.Refusal.{Refusal}

-- ---- the writer

-- 2: "house or unit above 15"
abbrev pub write_causes : RadioCommand → List Cause
write_causes k = unless (command_ok k) refusal.Message ∷ []

-- "the writer takes such a command and hands its four bytes back by value"
unfoldable pub write_answer : RadioCommand → Result (List ℕ) Refusal
write_answer k = judged (write_causes k) (Ok (four_bytes k)) Err

-- the number and the bytes of each answer
abbrev pub write_report : Result (List ℕ) Refusal → Report ℕ
write_report (Ok bytes) = reports bytes
write_report (Err why) = refuses why

-- ---- the reader

-- "a pair not complementary": the second byte against the first, the fourth against the third
abbrev pub complementary : List ℕ → Bool
complementary code = eqb (get_or code 1 0) (255 - get_or code 0 0) && eqb (get_or code 3 0) (255 - get_or code 2 0)

-- 12, 13, 14: "not 4 bytes; a pair not complementary; not among the 544"
abbrev pub read_causes : List ℕ → List Cause
read_causes code =
    unless (eqb (length code) 4) refusal.RfLength
    ∷ unless (complementary code) refusal.Complement
    ∷ unless (among code) refusal.Code
    ∷ []

unfoldable pub read_answer : List ℕ → Result RadioCommand Refusal
read_answer code = judged (read_causes code) (Ok (command_of code)) Err

-- what is left to answer where 12 and 13 do not apply: by the third cause alone
abbrev pub named_answer : List ℕ → Result RadioCommand Refusal
named_answer code = judged (drop 2 (read_causes code)) (Ok (command_of code)) Err

-- the number and the command of each answer
abbrev pub read_report : Result RadioCommand Refusal → Report RadioCommand
read_report (Ok k) = reports (k ∷ [])
read_report (Err why) = refuses why

-- ---- the messages

-- "On or off means two messages, address then function; bright and dim mean one."
abbrev pub address_then : ℕ → ℕ → Function → RadioMessages
address_then h u f = messages.Two (message.Address h u) (message.Function h f)

abbrev pub messages_meant : RadioCommand → RadioMessages
messages_meant (On h u) = address_then h u function.On
messages_meant (Off h u) = address_then h u function.Off
messages_meant (Bright h) = messages.One (message.Function h function.Bright)
messages_meant (Dim h) = messages.One (message.Function h function.Dim)

-- 2: "house or unit above 15"
abbrev pub messages_causes : RadioCommand → List Cause
messages_causes k = unless (command_ok k) refusal.Message ∷ []

unfoldable pub messages_answer : RadioCommand → Result RadioMessages Refusal
messages_answer k = judged (messages_causes k) (Ok (messages_meant k)) Err

-- the number and the messages of each answer
abbrev pub in_order : RadioMessages → List Message
in_order (messages.Two m n) = m ∷ n ∷ []
in_order (messages.One m) = m ∷ []

abbrev pub messages_report : Result RadioMessages Refusal → Report Message
messages_report (Ok ms) = reports (in_order ms)
messages_report (Err why) = refuses why

-- the messages that a command means, in a list
abbrev pub messages_of : RadioCommand → List Message
messages_of k = in_order (messages_meant k)
