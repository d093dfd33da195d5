-- The payload of a LynX-NET packet on the X-10 network (02, A6; source 002, 'X-10 payload description'): which bytes are one, the messages that it stands
-- for, and the payload that a message makes. Where 002 and A6 differ, A6 decides.
use Rattle.std.specs.Prelude.{ℕ, zero, suc, ◌+◌, ◌-◌, Bool, true, false, ◌&&◌, ◌||◌, leb, List, [], ◌∷◌, ◌++◌, map, length, take, drop, ◌==◌, nat_le, slice_index}
use Rattle.ground.specs.Choice.{pick}
use Rattle.ground.specs.Records.{all_below}
use Rattle.message.specs.Codes.{function_code}
use Rattle.message.specs.declared.Function.{Function}
use Rattle.message.specs.declared.Function.TheVariants.{AllUnitsOff, AllLightsOn, On, Off, Dim, Bright, AllLightsOff, HailRequest, HailAcknowledge}
use Rattle.message.specs.declared.Function.TheVariants.{StatusOn, StatusOff, StatusRequest}
use Rattle.message.specs.declared.Message.{Message}
use Rattle.message.specs.declared.Message.TheVariants.{Address, Function as Command, Extended}
use Rattle.lynx_net.specs.declared.payload.Form.{Form}
use Rattle.lynx_net.specs.declared.payload.Form.TheVariants.{Addresses, Units, ExtendedCode, EveryHouse, Unknown}

-- ---- the forms

-- what closes a list of units: 002's "EOL"
abbrev pub CLOSE : ℕ
CLOSE = 0xFF

-- the form that a payload's first byte asks for. "Forms, after the house: 08 has 1 to 16 units, 12 and 13 none to 16, 1F none or one, 10, 11, 16, 1D and 1E
-- none, each closed by FF", "B0 and B1 have one unit, FF and the data byte. 20 to 22 have no house, FF only"
unfoldable pub form_of : ℕ → Form
form_of code =
    pick (code == 0x08) Addresses
    (pick (code == 0x12) (Units On 16)
    (pick (code == 0x13) (Units Off 16)
    (pick (code == 0x1F) (Units StatusRequest 1)
    (pick (code == 0x10) (Units AllUnitsOff 0)
    (pick (code == 0x11) (Units AllLightsOn 0)
    (pick (code == 0x16) (Units AllLightsOff 0)
    (pick (code == 0x1D) (Units StatusOn 0)
    (pick (code == 0x1E) (Units StatusOff 0)
    (pick (code == 0xB0) (ExtendedCode 0x30)
    (pick (code == 0xB1) (ExtendedCode 0x31)
    (pick (code == 0x20) (EveryHouse AllUnitsOff)
    (pick (code == 0x21) (EveryHouse AllLightsOff)
    (pick (code == 0x22) (EveryHouse AllLightsOn)
    Unknown)))))))))))))

-- a payload's own form, its house, and the units between the house and the byte that closes them
abbrev pub form_in : List ℕ → Form
form_in p = form_of (slice_index p 0)

abbrev pub house_in : List ℕ → ℕ
house_in p = slice_index p 1

abbrev pub units_in : List ℕ → List ℕ
units_in p = take (length p - 3) (drop 2 p)

-- "Houses and units are numbers 0 to 15."
abbrev pub units_fit : List ℕ → Bool
units_fit us = all_below (length us) (λ k. leb (slice_index us k) 15)

-- a house, so many units at least and at most, "closed by FF"
unfoldable pub closed_units : ℕ → ℕ → List ℕ → Bool
closed_units least most p =
    (nat_le 3 (length p) && (nat_le least (length p - 3) && nat_le (length p - 3) most))
    && ((nat_le (house_in p) 15 && slice_index p (length p - 1) == CLOSE) && units_fit (units_in p))

-- a house, "one unit, FF and the data byte"
unfoldable pub closed_extended : List ℕ → Bool
closed_extended p = length p == 5 && ((nat_le (house_in p) 15 && nat_le (slice_index p 2) 15) && slice_index p 3 == CLOSE)

-- "no house, FF only"
unfoldable pub closed_alone : List ℕ → Bool
closed_alone p = length p == 2 && slice_index p 1 == CLOSE

-- whether bytes are a payload of a form
abbrev pub fits_form : Form → List ℕ → Bool
fits_form Addresses p = closed_units 1 16 p
fits_form (Units f most) p = closed_units 0 most p
fits_form (ExtendedCode command) p = closed_extended p
fits_form (EveryHouse f) p = closed_alone p
fits_form Unknown p = false

-- "PAYLOAD not of these forms" is any other list of bytes
abbrev pub payload_ok : List ℕ → Bool
payload_ok p = fits_form (form_in p) p

-- ---- the messages of a payload

-- n numbers from k on; the houses A to P
abbrev pub numbers_from : ℕ → ℕ → List ℕ
numbers_from k zero = []
numbers_from k (suc n) = k ∷ numbers_from (suc k) n

abbrev pub houses : List ℕ
houses = numbers_from 0 16

-- "the units are sent as addresses before the function"; 20 to 22 "stand for sixteen messages, A to P"
abbrev pub messages_by : Form → List ℕ → List Message
messages_by Addresses p = map (Address (house_in p)) (units_in p)
messages_by (Units f most) p = map (Address (house_in p)) (units_in p) ++ (Command (house_in p) f ∷ [])
messages_by (ExtendedCode command) p = Extended (house_in p) (slice_index p 2) (slice_index p 4) command ∷ []
messages_by (EveryHouse f) p = map (λ h. Command h f) houses
messages_by Unknown p = []

unfoldable pub messages_of : List ℕ → List Message
messages_of p = messages_by (form_in p) p

-- ---- the payload of a message

-- "a message makes the payload that means it alone": an address 08, a function 10 and its code, extended commands 30 and 31 B0 and B1
abbrev pub payload_of : Message → List ℕ
payload_of (Address h u) = 0x08 ∷ h ∷ u ∷ CLOSE ∷ []
payload_of (Command h f) = (0x10 + function_code f) ∷ h ∷ CLOSE ∷ []
payload_of (Extended h u d c) = (0x80 + c) ∷ h ∷ u ∷ CLOSE ∷ d ∷ []

-- "a message with none": dim and bright, whose payload has a count of steps, both hails, and extended commands other than 30 and 31
abbrev pub function_sent : Function → Bool
function_sent AllUnitsOff = true
function_sent AllLightsOn = true
function_sent On = true
function_sent Off = true
function_sent Dim = false
function_sent Bright = false
function_sent AllLightsOff = true
function_sent HailRequest = false
function_sent HailAcknowledge = false
function_sent StatusOn = true
function_sent StatusOff = true
function_sent StatusRequest = true

abbrev pub has_payload : Message → Bool
has_payload (Address h u) = true
has_payload (Command h f) = function_sent f
has_payload (Extended h u d c) = c == 0x30 || c == 0x31
