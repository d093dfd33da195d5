-- How many modules of a house are lit (02, A3): why the question is refused, what is answered, and what the answer says of the records.
use Rattle.std.specs.Prelude.{ℕ, ◌<◌, ◌≡◌, true, List, [], ◌∷◌, eqb, leb, length, Result, Ok, Err}
use Rattle.ground.specs.Refusals.{Cause, unless, judged, number_given, lowest}
use Rattle.ground.specs.declared.Refusal.TheVariants as refusal
use Rattle.record.specs.Layout.{TABLE_BYTES, HOUSES, RECORDS, record_at, lit_byte}
use Rattle.record.specs.ModuleTable.{table_ok, lit_in}
use Rattle.ground.specs.declared.Refusal.{Refusal}

-- "1 speaks of 3,104" (02, A5); "MESSAGE: house .. above 15"; "it reads that byte alone and gives 3 only above 16"
abbrev pub lit_causes : ℕ → List ℕ → List Cause
lit_causes h t =
    unless (eqb (length t) TABLE_BYTES) refusal.Table
    ∷ unless (leb h 15) refusal.Message
    ∷ unless (leb (lit_byte t h) 16) refusal.Record
    ∷ []

-- the answer: the byte at 3,088 + h, whatever else the table holds
unfoldable pub lit_answer : ℕ → List ℕ → Result ℕ Refusal
lit_answer h t = judged (lit_causes h t) (Ok (lit_byte t h)) Err

-- ---- what holds of it: proofs/LitLaws.antt

-- "Asking for it must equal the count over the records of a valid table"
abbrev pub LitIsTheCount : Type 0
LitIsTheCount = (h : ℕ) (t : List ℕ) → h < HOUSES → table_ok t ≡ true → lit_answer h t ≡ Ok (lit_in t h)

-- "it reads that byte alone": tables of one length with that byte in common are answered alike
abbrev pub ThatByteAlone : Type 0
ThatByteAlone = (h : ℕ) (t u : List ℕ) → length t ≡ length u → lit_byte t h ≡ lit_byte u h → lit_answer h t ≡ lit_answer h u

-- the lit bytes of a valid table are a function of its records, and of these by their levels alone
abbrev pub LitOfRecords : Type 0
LitOfRecords =
    (t u : List ℕ) → table_ok t ≡ true → table_ok u ≡ true → ((i : ℕ) → i < RECORDS → (record_at t i).level ≡ (record_at u i).level)
    → (h : ℕ) → h < HOUSES → lit_byte t h ≡ lit_byte u h

-- "Within one routine the lowest number that applies is given."
abbrev pub LitLowest : Type 0
LitLowest = (h : ℕ) (t : List ℕ) → lowest (lit_causes h t) ≡ number_given (lit_causes h t)
