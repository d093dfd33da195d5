-- Code numbers (01, 'Code numbers'; XTC798, the tables of house codes, unit codes and functions).
use Rattle.std.specs.Prelude.{ℕ, zero, suc, ◌-◌, ◌<◌, ◌≡◌, Bool, true, false, List, [], ◌∷◌, ◌++◌, eqb, length, get_or, replicate, Result, Ok, Err}
use Rattle.ground.specs.Choice.{pick}
use Rattle.ground.specs.Text.{bytes_of}
use Rattle.ground.specs.Refusals.{Report, reports, refuses, Cause, unless}
use Rattle.ground.specs.declared.Refusal.TheVariants as refusal
use Rattle.message.specs.declared.Function.{Function}
use Rattle.message.specs.declared.Function.TheVariants.{AllUnitsOff, AllLightsOn, On, Off, Dim, Bright}
use Rattle.message.specs.declared.Function.TheVariants.{AllLightsOff, HailRequest, HailAcknowledge, StatusOn, StatusOff, StatusRequest}
use Rattle.message.specs.declared.codes.Meaning.{Meaning}
use Rattle.message.specs.declared.codes.Meaning.TheVariants.{Function as Carries, Extended, Unsupported}
use Rattle.ground.specs.declared.Refusal.{Refusal}

-- "Houses A to P and units 1 to 16 share one table of four-bit codes, in order"
unfoldable pub line_codes : List ℕ
line_codes = 6 ∷ 14 ∷ 2 ∷ 10 ∷ 1 ∷ 9 ∷ 5 ∷ 13 ∷ 7 ∷ 15 ∷ 3 ∷ 11 ∷ 0 ∷ 8 ∷ 4 ∷ 12 ∷ []

-- the place of an entry in a table, counted from 0; the table's length where it has no such entry
unfoldable pub place_in : {A : Type 0} → (A → A → Bool) → A → List A → ℕ
place_in same a [] = zero
place_in same a (x ∷ xs) = pick (same a x) zero (suc (place_in same a xs))

-- the code of a house or unit number
unfoldable pub code_of : ℕ → ℕ
code_of n = get_or line_codes n 0

-- the house or unit number that has a code
unfoldable pub number_of : ℕ → ℕ
number_of c = place_in eqb c line_codes

-- "Functions (four-bit code, function bit 1)"
abbrev pub function_code : Function → ℕ
function_code AllUnitsOff = 0
function_code AllLightsOn = 1
function_code On = 2
function_code Off = 3
function_code Dim = 4
function_code Bright = 5
function_code AllLightsOff = 6
function_code HailRequest = 8
function_code HailAcknowledge = 9
function_code StatusOn = 13
function_code StatusOff = 14
function_code StatusRequest = 15

-- the same read the other way, code after code: "Code 7 is extended code 1. Codes 10, 11 and 12 are unsupported."
unfoldable pub meanings : List Meaning
meanings =
    Carries AllUnitsOff ∷ Carries AllLightsOn ∷ Carries On ∷ Carries Off
    ∷ Carries Dim ∷ Carries Bright ∷ Carries AllLightsOff ∷ Extended
    ∷ Carries HailRequest ∷ Carries HailAcknowledge ∷ Unsupported ∷ Unsupported
    ∷ Unsupported ∷ Carries StatusOn ∷ Carries StatusOff ∷ Carries StatusRequest ∷ []

unfoldable pub meaning_of : ℕ → Meaning
meaning_of c = get_or meanings c Unsupported

-- what a function's code is read as: 2 for a code that makes no function, and so no message
abbrev pub function_read : Meaning → Result Function Refusal
function_read (Carries f) = Ok f
function_read Extended = Err refusal.Message
function_read Unsupported = Err refusal.Message

unfoldable pub function_answer : ℕ → Result Function Refusal
function_answer c = function_read (meaning_of c)

abbrev pub is_function : Result Function Refusal → Bool
is_function (Ok f) = true
is_function (Err why) = false

abbrev pub function_causes : ℕ → List Cause
function_causes c = unless (is_function (function_answer c)) refusal.Message ∷ []

-- 01's number and value for each answer
abbrev pub function_report : Result Function Refusal → Report Function
function_report (Ok f) = reports (f ∷ [])
function_report (Err why) = refuses why

-- "the function name listed above in capitals with its spaces", each at its code; XTC798's names at 7, 10, 11 and 12
unfoldable pub function_names : List (List ℕ)
function_names =
    bytes_of "ALL UNITS OFF" ∷ bytes_of "ALL LIGHTS ON" ∷ bytes_of "ON" ∷ bytes_of "OFF"
    ∷ bytes_of "DIM" ∷ bytes_of "BRIGHT" ∷ bytes_of "ALL LIGHTS OFF" ∷ bytes_of "EXTENDED CODE 1"
    ∷ bytes_of "HAIL REQUEST" ∷ bytes_of "HAIL ACKNOWLEDGE" ∷ bytes_of "EXTENDED CODE 3" ∷ bytes_of "UNUSED"
    ∷ bytes_of "EXTENDED CODE 2" ∷ bytes_of "STATUS ON" ∷ bytes_of "STATUS OFF" ∷ bytes_of "STATUS REQUEST" ∷ []

-- the name at a code, and no letter at a number above 15
unfoldable pub name_at : ℕ → List ℕ
name_at c = get_or function_names c []

-- a name as the table of the code keeps it: filled up with 0 to sixteen bytes
unfoldable pub padded : List ℕ → List ℕ
padded t = t ++ replicate (16 - length t) 0

-- ---- what holds of the tables: proofs/CodeLaws.antt

-- no code and no name stands twice
abbrev pub CodesOneToOne : Type 0
CodesOneToOne = (i j : ℕ) → i < 16 → j < 16 → code_of i ≡ code_of j → i ≡ j

abbrev pub NamesOneToOne : Type 0
NamesOneToOne = (i j : ℕ) → i < 16 → j < 16 → name_at i ≡ name_at j → i ≡ j

-- a code is read back, both ways: of houses and units, and of functions
pub record CodesReadBack : Type 0 where
  pub number_of-code : (n : ℕ) → n < 16 → number_of (code_of n) ≡ n
  pub code_of-number : (c : ℕ) → c < 16 → code_of (number_of c) ≡ c
  pub function_of_code : (f : Function) → function_answer (function_code f) ≡ Ok f
  pub code_of-function : (c : ℕ) (f : Function) → function_answer c ≡ Ok f → function_code f ≡ c
