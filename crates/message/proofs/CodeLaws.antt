-- Laws of the code numbers: each table is one-to-one, and reading a code back gives the number it came from.
--
--     codes_one_to_one, names_one_to_one     CodesOneToOne, NamesOneToOne
--     number_of-code, code_of-number         a code read back, both ways; with the functions' codes: codes_read_back
--     code_below, number_below               codes and numbers are below 16
--     meaning_of-function, function_of_meaning     a function's code read back, both ways
--     extended_meaning, function_code-below        code 7 alone is extended; function codes are below 16
--     function_refused                             a code that is no function is refused by 2
--     extended_below                               the four numbers of a valid extended message; data and command are bytes
--     same_is_equal                                SameIsEqual
use Rattle.std.specs.Prelude.{Ok, Err}
use mathlib.Core.Path.{◌≡◌, refl, sym, ap, ap₂, subst, ◌∙◌}
use mathlib.Core.Bool.{Bool, true, false, false≢true, ◌&&◌, and-eq-true_iff}
use mathlib.Core.List.{List, [], ◌∷◌}
use Prim.Native.Nat.{ℕ, ◌≤◌, ◌<◌}
use native.Mathlib.Decide.{dec_lt}
use native.Mathlib.Omega.{arith}
use borrow.Author.Tests.{eqb-true, ltb-true, leb-true, eq-eqb}
use lib.ListN.{get_or-eq_default}
use Rattle.ground.proofs.Choices.{both, both_below}
use lib.Dec.{eqb, ltb, leb, lit<}
use Rattle.ground.specs.Text.{bytes_of, bytes_from}
use Rattle.message.specs.Codes.{line_codes, place_in, code_of, number_of, function_names, name_at}
use Rattle.message.specs.Codes.{function_code, meanings, meaning_of, function_read, function_answer}
use Rattle.message.specs.Codes.{CodesOneToOne, NamesOneToOne, CodesReadBack}
use Rattle.message.specs.Messages.{message_ok, same_message, SameIsEqual}
use Rattle.ground.specs.declared.Refusal.{Refusal}
use Rattle.ground.specs.declared.Refusal.TheVariants as refusal
use Rattle.message.specs.declared.Message.{Message}
use Rattle.message.specs.declared.Message.TheVariants.{Address, Function as Command, Extended as Longer}
use Rattle.message.specs.declared.Function.{Function}
use Rattle.message.specs.declared.Function.TheVariants.{AllUnitsOff, AllLightsOn, On, Off, Dim, Bright}
use Rattle.message.specs.declared.Function.TheVariants.{AllLightsOff, HailRequest, HailAcknowledge, StatusOn, StatusOff, StatusRequest}
use Rattle.message.specs.declared.codes.Meaning.{Meaning}
use Rattle.message.specs.declared.codes.Meaning.TheVariants.{Function as Carries, Extended, Unsupported}
use Rattle.message.proofs.Tables.{every_from, every_at, ReadsBack, read_back, one_to_one, entry_below}

-- ---- the line codes

entries_read_back : ReadsBack eqb line_codes
unfolding line_codes place_in
entries_read_back = refl

pub codes_one_to_one : CodesOneToOne
unfolding code_of line_codes
codes_one_to_one i j hi hj e = one_to_one eqb line_codes 0 i j entries_read_back hi hj e

pub number_of-code : (n : ℕ) → n < 16 → number_of (code_of n) ≡ n
unfolding code_of number_of line_codes
number_of-code n h = read_back eqb line_codes 0 n entries_read_back h

pub code_below : (n : ℕ) → code_of n < 16
unfolding code_of line_codes
code_below n = entry_below line_codes n 16 0 refl (lit< tt)

-- the sixteen codes, one after the other
sixteen : List ℕ
sixteen = 0 ∷ 1 ∷ 2 ∷ 3 ∷ 4 ∷ 5 ∷ 6 ∷ 7 ∷ 8 ∷ 9 ∷ 10 ∷ 11 ∷ 12 ∷ 13 ∷ 14 ∷ 15 ∷ []

-- what a test says at each of the sixteen
at_sixteen : (f : ℕ → Bool) → every_from (λ k x. f k) 0 sixteen ≡ true → (n : ℕ) → n < 16 → f n ≡ true
unfolding sixteen
at_sixteen f t n h = every_at (λ k x. f k) sixteen 0 n t h

pub code_of-number : (c : ℕ) → c < 16 → code_of (number_of c) ≡ c
unfolding code_of number_of line_codes place_in sixteen
code_of-number c h = eqb-true (code_of (number_of c)) c (at_sixteen (λ k. eqb (code_of (number_of k)) k) refl c h)

pub number_below : (c : ℕ) → c < 16 → number_of c < 16
unfolding code_of number_of line_codes place_in sixteen
number_below c h = ltb-true (number_of c) 16 (at_sixteen (λ k. ltb (number_of k) 16) refl c h)

-- ---- the function names

abbrev same_text : List ℕ → List ℕ → Bool
same_text [] [] = true
same_text [] (y ∷ ys) = false
same_text (x ∷ xs) [] = false
same_text (x ∷ xs) (y ∷ ys) = eqb x y && same_text xs ys

names_read_back : ReadsBack same_text function_names
unfolding function_names bytes_of bytes_from place_in
names_read_back = refl

pub names_one_to_one : NamesOneToOne
unfolding name_at function_names
names_one_to_one i j hi hj e = one_to_one same_text function_names [] i j names_read_back hi hj e

-- ---- the functions

pub meaning_of-function : (f : Function) → meaning_of (function_code f) ≡ Carries f
unfolding meaning_of meanings
meaning_of-function AllUnitsOff = refl
meaning_of-function AllLightsOn = refl
meaning_of-function On = refl
meaning_of-function Off = refl
meaning_of-function Dim = refl
meaning_of-function Bright = refl
meaning_of-function AllLightsOff = refl
meaning_of-function HailRequest = refl
meaning_of-function HailAcknowledge = refl
meaning_of-function StatusOn = refl
meaning_of-function StatusOff = refl
meaning_of-function StatusRequest = refl

-- where a meaning is a function, the function has that code
abbrev has_code : ℕ → Meaning → Bool
has_code c (Carries f) = eqb (function_code f) c
has_code c Extended = eqb c 7
has_code c Unsupported = true

meanings_have_codes : every_from has_code 0 meanings ≡ true
unfolding meanings
meanings_have_codes = refl

pub function_of_meaning : (c : ℕ) (f : Function) → c < 16 → meaning_of c ≡ Carries f → function_code f ≡ c
unfolding meaning_of meanings
function_of_meaning c f h e =
    eqb-true (function_code f) c
    (ap (has_code c) (sym e) ∙ every_at has_code meanings Unsupported c meanings_have_codes h)

-- extended code 1 is code 7 and no other
pub extended_meaning : (c : ℕ) → c < 16 → meaning_of c ≡ Extended → c ≡ 7
unfolding meaning_of meanings
extended_meaning c h e =
    eqb-true c 7 (ap (has_code c) (sym e) ∙ every_at has_code meanings Unsupported c meanings_have_codes h)

pub function_code-below : (f : Function) → function_code f < 16
function_code-below AllUnitsOff = lit< tt
function_code-below AllLightsOn = lit< tt
function_code-below On = lit< tt
function_code-below Off = lit< tt
function_code-below Dim = lit< tt
function_code-below Bright = lit< tt
function_code-below AllLightsOff = lit< tt
function_code-below HailRequest = lit< tt
function_code-below HailAcknowledge = lit< tt
function_code-below StatusOn = lit< tt
function_code-below StatusOff = lit< tt
function_code-below StatusRequest = lit< tt

-- ---- a function read back from its code

-- a meaning that is read as a function is that function
read_as : (m : Meaning) (f : Function) → function_read m ≡ Ok f → m ≡ Carries f
read_as (Carries g) f e = cc
read_as Extended f e = cc
read_as Unsupported f e = cc

-- a meaning that is no function is refused by 2
refused_as : (m : Meaning) {why : Refusal} → function_read m ≡ Err why → why ≡ refusal.Message
refused_as (Carries g) e = cc
refused_as Extended e = cc
refused_as Unsupported e = cc

pub function_refused : (c : ℕ) {why : Refusal} → function_answer c ≡ Err why → why ≡ refusal.Message
unfolding function_answer
function_refused c e = refused_as (meaning_of c) e

-- what is past the last code stands for nothing
within : (c : ℕ) (f : Function) → meaning_of c ≡ Carries f → c < 16
unfolding meaning_of meanings
within c f t = go (dec_lt c 16)
  where
    go : Dec (c < 16) → c < 16
    go (yes h) = h
    go (no h) =
        let past : 16 ≤ c = omega arith in
        let p : Unsupported ≡ Carries f = sym (get_or-eq_default meanings Unsupported past) ∙ t in
        absurd (false≢true cc)

pub codes_read_back : CodesReadBack
unfolding function_answer
codes_read_back = record {
  number_of-code = number_of-code;
  code_of-number = code_of-number;
  function_of_code = λ f. ap function_read (meaning_of-function f);
  code_of-function = λ c f e. let t = read_as (meaning_of c) f e in function_of_meaning c f (within c f t) t;
}

-- ---- one message

pub extended_below : (h u d c : ℕ) → message_ok (Longer h u d c) ≡ true → (h < 16) × (u < 16) × (d < 256) × (c < 256)
extended_below h u d c t =
    let p = (and-eq-true_iff (leb h 15 && leb u 15) (leb d 255 && leb c 255)).0 t in
    let q = (and-eq-true_iff (leb d 255) (leb c 255)).0 p.1 in
    let numbers = both_below h u p.0 in
    let hd : d ≤ 255 = leb-true d 255 q.0 in
    let hc : c ≤ 255 = leb-true c 255 q.1 in
    (numbers.0, numbers.1, omega arith, omega arith)

same_function : (f k : Function) → function_code f ≡ function_code k → f ≡ k
same_function f k e =
    let p : Carries f ≡ Carries k = sym (meaning_of-function f) ∙ ap meaning_of e ∙ meaning_of-function k in
    cc

same_self : (m : Message) → same_message m m ≡ true
same_self (Address h u) = both (eq-eqb h h refl) (eq-eqb u u refl)
same_self (Command h f) = both (eq-eqb h h refl) (eq-eqb (function_code f) (function_code f) refl)
same_self (Longer h u d c) = both (both (both (eq-eqb h h refl) (eq-eqb u u refl)) (eq-eqb d d refl)) (eq-eqb c c refl)

pub same_is_equal : SameIsEqual
same_is_equal m n = (to m n, λ e. subst (λ (k : Message). same_message m k ≡ true) e (same_self m))
  where
    to : (m n : Message) → same_message m n ≡ true → m ≡ n
    to (Address h u) (Address g v) t =
        let p = (and-eq-true_iff (eqb h g) (eqb u v)).0 t in
        ap₂ Address (eqb-true h g p.0) (eqb-true u v p.1)
    to (Command h f) (Command g k) t =
        let p = (and-eq-true_iff (eqb h g) (eqb (function_code f) (function_code k))).0 t in
        ap₂ Command (eqb-true h g p.0) (same_function f k (eqb-true (function_code f) (function_code k) p.1))
    to (Longer h u d c) (Longer g v e b) t =
        let p = (and-eq-true_iff (eqb h g && eqb u v && eqb d e) (eqb c b)).0 t in
        let q = (and-eq-true_iff (eqb h g && eqb u v) (eqb d e)).0 p.0 in
        let r = (and-eq-true_iff (eqb h g) (eqb u v)).0 q.0 in
        simp (eqb-true h g r.0, eqb-true u v r.1, eqb-true d e q.1, eqb-true c b p.1)
    to (Address h u) (Command g k) t = absurd (false≢true t)
    to (Address h u) (Longer g v e b) t = absurd (false≢true t)
    to (Command h f) (Address g v) t = absurd (false≢true t)
    to (Command h f) (Longer g v e b) t = absurd (false≢true t)
    to (Longer h u d c) (Address g v) t = absurd (false≢true t)
    to (Longer h u d c) (Command g k) t = absurd (false≢true t)
