-- A message as five numbers, and as five bytes: kind (1 address, 2 function, 3 extended), house, unit or function code, data, command.
use Rattle.std.specs.Prelude.{ℕ, ◌≡◌, Bool, true, false, ◌&&◌, ◌||◌, List, [], ◌∷◌, eqb, get_or, Result, Ok, Err, Option, Some, None}
use Rattle.ground.specs.Choice.{pick}
use Rattle.ground.specs.Refusals.{Report, reports, refuses, Cause, unless, judged}
use Rattle.ground.specs.declared.Refusal.TheVariants as refusal
use Rattle.message.specs.Codes.{function_code, function_answer}
use Rattle.message.specs.Messages.{message_ok}
use Rattle.message.specs.declared.Function.{Function}
use Rattle.message.specs.declared.Message.{Message}
use Rattle.message.specs.declared.Message.TheVariants.{Address, Function as Command, Extended}
use Rattle.wire.specs.declared.Five.{Five}
use Rattle.ground.specs.declared.Refusal.{Refusal}

-- ---- five numbers

-- "house or unit above 15"
unfoldable pub taken_message : Message → Result Message Refusal
taken_message m = judged (unless (message_ok m) refusal.Message ∷ []) (Ok m) Err

-- a function by its code: a code that is none of the twelve functions makes no message
abbrev pub function_from : ℕ → Result Function Refusal → Result Message Refusal
function_from house (Ok f) = taken_message (Command house f)
function_from house (Err why) = Err refusal.Message

-- the message that five numbers say; a kind other than 1, 2 and 3 makes none. Data and command are looked at for kind 3 only.
unfoldable pub message_from : ℕ → ℕ → ℕ → ℕ → ℕ → Result Message Refusal
message_from kind house third «data» command =
    pick (eqb kind 1) (taken_message (Address house third))
    (pick (eqb kind 2) (function_from house (function_answer third))
    (pick (eqb kind 3) (taken_message (Extended house third «data» command))
    (Err refusal.Message)))

abbrev pub says_message : Result Message Refusal → Bool
says_message (Ok m) = true
says_message (Err why) = false

-- 2 where they make none
abbrev pub message_causes : ℕ → ℕ → ℕ → ℕ → ℕ → List Cause
message_causes kind house third «data» command = unless (says_message (message_from kind house third «data» command)) refusal.Message ∷ []

-- 01's number and value for each answer
abbrev pub message_report : Result Message Refusal → Report Message
message_report (Ok m) = reports (m ∷ [])
message_report (Err why) = refuses why

-- ---- five bytes

-- the message that a list's first five bytes say
abbrev pub message_in : List ℕ → Result Message Refusal
message_in bytes = message_from (get_or bytes 0 0) (get_or bytes 1 0) (get_or bytes 2 0) (get_or bytes 3 0) (get_or bytes 4 0)

-- the five bytes of a message: "0 for data and command where the kind has none"
abbrev pub message_bytes : Message → List ℕ
message_bytes (Address h u) = 1 ∷ h ∷ u ∷ 0 ∷ 0 ∷ []
message_bytes (Command h f) = 2 ∷ h ∷ function_code f ∷ 0 ∷ 0 ∷ []
message_bytes (Extended h u d c) = 3 ∷ h ∷ u ∷ d ∷ c ∷ []

-- five numbers in their order
abbrev pub listed : Five → List ℕ
listed f = f.kind ∷ f.house ∷ f.third ∷ f.data ∷ f.command ∷ []

-- whether data and command are as those bytes have them, by the kind
abbrev pub as_written : ℕ → ℕ → ℕ → Bool
as_written kind «data» command = eqb kind 3 || (eqb «data» 0 && eqb command 0)

-- ---- a message or none, kept in five bytes

-- five 0 for none
abbrev pub none_bytes : List ℕ
none_bytes = 0 ∷ 0 ∷ 0 ∷ 0 ∷ 0 ∷ []

abbrev pub kept_bytes : Option Message → List ℕ
kept_bytes None = none_bytes
kept_bytes (Some m) = message_bytes m

-- what five bytes keep, by the message that they say. 6: "house or unit above 15", or bytes that are no message's
abbrev pub kept_as : Result Message Refusal → Result (Option Message) Refusal
kept_as (Ok m) = Ok (Some m)
kept_as (Err why) = Err refusal.State

-- none where all five are 0, else the message that they say; data and command are 0 for kinds 1 and 2
unfoldable pub kept_from : ℕ → ℕ → ℕ → ℕ → ℕ → Result (Option Message) Refusal
kept_from kind house third «data» command =
    pick (eqb kind 0 && eqb house 0 && eqb third 0 && (eqb «data» 0 && eqb command 0)) (Ok None)
    (pick (as_written kind «data» command) (kept_as (message_from kind house third «data» command))
    (Err refusal.State))

-- what a list's first five bytes keep
abbrev pub kept_in : List ℕ → Result (Option Message) Refusal
kept_in bytes = kept_from (get_or bytes 0 0) (get_or bytes 1 0) (get_or bytes 2 0) (get_or bytes 3 0) (get_or bytes 4 0)

abbrev pub is_kept : Result (Option Message) Refusal → Bool
is_kept (Ok None) = true
is_kept (Ok (Some m)) = true
is_kept (Err why) = false

-- 6 where they keep neither
abbrev pub kept_causes : ℕ → ℕ → ℕ → ℕ → ℕ → List Cause
kept_causes kind house third «data» command = unless (is_kept (kept_from kind house third «data» command)) refusal.State ∷ []

-- 01's number and value for each answer
abbrev pub kept_report : Result (Option Message) Refusal → Report Message
kept_report (Ok None) = reports []
kept_report (Ok (Some m)) = reports (m ∷ [])
kept_report (Err why) = refuses why

-- ---- what holds of them: proofs/MessageLaws.antt

-- a message is read back from its bytes; and bytes that say a message, data and command as written, are that message's
pub record MessagesReadBack : Type 0 where
  pub message_of_bytes : (m : Message) → message_ok m ≡ true → message_in (message_bytes m) ≡ Ok m
  pub bytes_of-message : (kind house third «data» command : ℕ) (m : Message) → as_written kind «data» command ≡ true
      → message_from kind house third «data» command ≡ Ok m → message_bytes m ≡ kind ∷ house ∷ third ∷ «data» ∷ command ∷ []
  -- what is read is a message of a house and unit 0 to 15
  pub valid_message : (kind house third «data» command : ℕ) (m : Message) → message_from kind house third «data» command ≡ Ok m
      → message_ok m ≡ true

-- none and a message are read back from the bytes that keep them; and bytes that keep either are its own
pub record KeptReadBack : Type 0 where
  pub none : kept_in none_bytes ≡ Ok None
  pub message : (m : Message) → message_ok m ≡ true → kept_in (message_bytes m) ≡ Ok (Some m)
  pub bytes_of-none : (kind house third «data» command : ℕ) → kept_from kind house third «data» command ≡ Ok None
      → kind ∷ house ∷ third ∷ «data» ∷ command ∷ [] ≡ none_bytes
  pub bytes_of-message : (kind house third «data» command : ℕ) (m : Message) → kept_from kind house third «data» command ≡ Ok (Some m)
      → (message_ok m ≡ true) × (kind ∷ house ∷ third ∷ «data» ∷ command ∷ [] ≡ message_bytes m)
