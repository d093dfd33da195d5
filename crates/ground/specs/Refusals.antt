-- Refusals (01, 'Numbers given back'): the number of each, what an answer reports, and the list of causes by which a routine refuses.
use Rattle.std.specs.Prelude.{ℕ, ◌<◌, min, ◌≡◌, Bool, true, ◌&&◌, not, List, [], ◌∷◌, eqb, leb, Result, Ok, Err}
use Rattle.ground.specs.Choice.{pick}
use Rattle.ground.specs.declared.Refusal.{Refusal}
use Rattle.ground.specs.declared.Refusal.TheVariants.{Table, Message, Record, NotCarried, Half, State, Draw}
use Rattle.ground.specs.declared.Refusal.TheVariants.{Busy, Short, RfLength, Complement, Code, Fault, ShutterTable, ShutterRecord, Opening}
use Rattle.ground.specs.declared.Refusal.TheVariants.{PacketLength, Check, Network, Payload}

-- 01's table, but for 10 and 11, which are "receiver events, not refusals"
abbrev pub refusal_number : Refusal → ℕ
refusal_number Table = 1
refusal_number Message = 2
refusal_number Record = 3
refusal_number NotCarried = 4
refusal_number Half = 5
refusal_number State = 6
refusal_number Draw = 7
refusal_number Busy = 8
refusal_number Short = 9
refusal_number RfLength = 12
refusal_number Complement = 13
refusal_number Code = 14
refusal_number Fault = 15
-- 02, A1: "16 SHUTTER TABLE (length not 5,120)", "17 SHUTTER RECORD (a rule here broken ..)", "18 OPENING"
refusal_number ShutterTable = 16
refusal_number ShutterRecord = 17
refusal_number Opening = 18
-- 02, A6: "19 PACKET LENGTH, 20 CHECK, 21 NETWORK other than 0x10, 22 PAYLOAD not of these forms, or a message with none"
refusal_number PacketLength = 19
refusal_number Check = 20
refusal_number Network = 21
refusal_number Payload = 22

-- ---- what an answer reports

-- "a definition gives this paper's number and values for each case": the number given back, 0 where nothing is refused, and the values
pub record Report (A : Type 0) : Type 0 where
  pub number : ℕ
  pub values : List A

abbrev pub reports : {A : Type 0} → List A → Report A
reports xs = record { number = 0; values = xs }

abbrev pub refuses : {A : Type 0} → Refusal → Report A
refuses why = record { number = refusal_number why; values = [] }

-- the count of an answer that counts: "Each refusal .. returns its number with count 0"
abbrev pub count_of : Result ℕ Refusal → ℕ
count_of (Ok n) = n
count_of (Err why) = 0

abbrev pub count_report : Result ℕ Refusal → Report ℕ
count_report (Ok n) = reports (n ∷ [])
count_report (Err why) = refuses why

-- ---- the causes of a routine, in its own order

-- a cause, by a test that shows it or by a test that rules it out, and the refusal that it leads to
pub data Cause : Type 0 where
  when : Bool → Refusal → Cause
  unless : Bool → Refusal → Cause

-- the first cause that applies is refused; where none applies, the routine does what it is for
unfoldable pub judged {ℓ} : {A : Type ℓ} → List Cause → A → (Refusal → A) → A
judged [] done refused = done
judged (when bad why ∷ cs) done refused = pick bad (refused why) (judged cs done refused)
judged (unless fine why ∷ cs) done refused = pick fine (judged cs done refused) (refused why)

-- the number given back, and 0 where no cause applies
abbrev pub number_given : List Cause → ℕ
number_given cs = judged cs 0 refusal_number

-- ---- "Within one routine the lowest number that applies is given."

abbrev pub applies : Cause → Bool
applies (when bad why) = bad
applies (unless fine why) = not fine

abbrev pub cause_number : Cause → ℕ
cause_number (when bad why) = refusal_number why
cause_number (unless fine why) = refusal_number why

-- the lower of a number and another, where 0 stands for no other
abbrev pub lower : ℕ → ℕ → ℕ
lower n other = pick (eqb other 0) n (min n other)

-- the lowest number that applies, and 0 where none does
abbrev pub lowest : List Cause → ℕ
lowest [] = 0
lowest (c ∷ cs) = pick (applies c) (lower (cause_number c) (lowest cs)) (lowest cs)

-- the numbers of the list rise
abbrev pub all_from : ℕ → List Cause → Bool
all_from n [] = true
all_from n (c ∷ cs) = leb n (cause_number c) && all_from n cs

abbrev pub rising : List Cause → Bool
rising [] = true
rising (c ∷ cs) = all_from (cause_number c) cs && rising cs

-- where they rise, the number given is the lowest that applies: proofs/Causes.antt
abbrev pub LowestGiven : Type 0
LowestGiven = (cs : List Cause) → rising cs ≡ true → lowest cs ≡ number_given cs

-- a refusal is never taken for what is done: its number is not 0
abbrev pub SomeNumber : Type 0
SomeNumber = (why : Refusal) → 0 < refusal_number why
