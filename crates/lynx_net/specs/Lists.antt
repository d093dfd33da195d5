-- The messages of a payload as one value: up to seventeen, of which a reader is told how many there are and which is the i-th.
use Rattle.std.specs.Prelude.{ℕ, zero, suc, ◌+◌, ◌-◌, ◌*◌, ◌/◌, ◌%◌, ◌^◌, min, List, [], ◌∷◌, ◌++◌, map, length, slice_index}
use Rattle.std.specs.Prelude.{Result, Ok, Err, Option, Some, None}
use Rattle.ground.specs.Refusals.{Report, reports, refuses, Cause, unless, judged}
use Rattle.ground.specs.declared.Refusal.{Refusal}
use Rattle.ground.specs.declared.Refusal.TheVariants as refusal
use Rattle.message.specs.declared.Message.{Message}
use Rattle.message.specs.declared.Message.TheVariants.{Address, Function as Command, Extended}
use Rattle.lynx_net.specs.declared.payload.Form.{Form}
use Rattle.lynx_net.specs.declared.payload.Form.TheVariants.{Addresses, Units, ExtendedCode, EveryHouse, Unknown}
use Rattle.lynx_net.specs.declared.payload.Ending.{Ending}
use Rattle.lynx_net.specs.declared.payload.Ending.TheVariants as ending
use Rattle.lynx_net.specs.declared.payload.Messages.{Messages}
use Rattle.lynx_net.specs.Payloads.{form_in, house_in, units_in, numbers_from, houses, payload_ok}

-- ---- units as one number

-- units as the hexadecimal digits of a number, the first unit the lowest
unfoldable pub number_of : List ℕ → ℕ
number_of [] = 0
number_of (u ∷ us) = number_of us * 16 + u

-- digit i
abbrev pub digit_at : ℕ → ℕ → ℕ
digit_at number i = number / 2 ^ (4 * i) % 16

-- ---- the messages that a value holds

abbrev pub ending_list : Ending → List Message
ending_list ending.Nothing = []
ending_list (ending.Message m) = m ∷ []
ending_list (ending.EveryHouse f) = map (λ h. Command h f) houses

-- a value with more than sixteen units is as one with sixteen
abbrev pub unit_count : Messages → ℕ
unit_count ms = min ms.count 16

-- an address for each unit, and what ends them
abbrev pub addresses_of : Messages → List Message
addresses_of ms = map (λ i. Address ms.house (digit_at ms.units i)) (numbers_from 0 (unit_count ms))

unfoldable pub listed : Messages → List Message
listed ms = addresses_of ms ++ ending_list ms.ending

-- the i-th of a list, from 0 on
abbrev pub nth : List Message → ℕ → Option Message
nth [] i = None
nth (m ∷ ms) zero = Some m
nth (m ∷ ms) (suc i) = nth ms i

-- ---- the value of a payload

abbrev pub with_units : List ℕ → Ending → Messages
with_units p end = record { house = house_in p; count = length p - 3; units = number_of (units_in p); ending = end }

abbrev pub ending_only : Ending → Messages
ending_only end = record { house = 0; count = 0; units = 0; ending = end }

abbrev pub held_by : Form → List ℕ → Messages
held_by Addresses p = with_units p ending.Nothing
held_by (Units f most) p = with_units p (ending.Message (Command (house_in p) f))
held_by (ExtendedCode command) p = ending_only (ending.Message (Extended (house_in p) (slice_index p 2) (slice_index p 4) command))
held_by (EveryHouse f) p = ending_only (ending.EveryHouse f)
held_by Unknown p = ending_only ending.Nothing

abbrev pub held_in : List ℕ → Messages
held_in p = held_by (form_in p) p

-- ---- reading a payload

-- 22: "PAYLOAD not of these forms"
abbrev pub payload_causes : List ℕ → List Cause
payload_causes p = unless (payload_ok p) refusal.Payload ∷ []

unfoldable pub payload_answer : List ℕ → Result Messages Refusal
payload_answer p = judged (payload_causes p) (Ok (held_in p)) Err

-- the number and the messages of each answer
abbrev pub payload_report : Result Messages Refusal → Report Message
payload_report (Ok ms) = reports (listed ms)
payload_report (Err why) = refuses why
