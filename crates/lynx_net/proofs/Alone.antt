-- Payloads and the messages that they mean: the theorems of specs/Statements.antt on messages.
--
--     Told, form_told     a form tells its code byte, its function and its command
--     means_it_alone, no_other_means_it, messages_valid, one_to_seventeen
use Rattle.std.proofs.Common.{◌≡◌, ℕ, zero, suc, ◌+◌, ◌-◌, ◌<◌, ◌≤◌, Bool, true, false, ◌&&◌, ◌||◌, eqb, leb, List, [], ◌∷◌, ◌++◌, map, length, get_or, sym, refl, ap, ◌∙◌, subst, ap₂, arith, length-append, eqb-true, le-leb}
use mathlib.Core.Bool.{and-eq-true_iff, false≢true}
use lib.ListN.{length-map}
use Rattle.ground.specs.Choice.{pick}
use Rattle.ground.specs.Records.{all_below}
use Rattle.ground.proofs.Choices.{both}
use Rattle.ground.proofs.Lists.{bytes_whole}
use Rattle.message.specs.Codes.{function_code}
use Rattle.message.specs.declared.Function.{Function}
use Rattle.message.specs.declared.Function.TheVariants.{AllUnitsOff, AllLightsOn, On, Off, Dim, Bright, AllLightsOff, HailRequest, HailAcknowledge}
use Rattle.message.specs.declared.Function.TheVariants.{StatusOn, StatusOff, StatusRequest}
use Rattle.message.specs.declared.Message.{Message}
use Rattle.message.specs.declared.Message.TheVariants.{Address, Function as Command, Extended}
use Rattle.lynx_net.specs.declared.payload.Form.{Form}
use Rattle.lynx_net.specs.declared.payload.Form.TheVariants.{Addresses, Units, ExtendedCode, EveryHouse, Unknown}
use Rattle.lynx_net.specs.Payloads.{CLOSE, form_of, form_in, house_in, units_in, numbers_from, closed_units, closed_extended}
use Rattle.lynx_net.specs.Payloads.{fits_form, payload_ok, messages_by, messages_of, payload_of, function_sent, has_payload}
use Rattle.lynx_net.specs.Statements.{MeansItAlone, NoOtherMeansIt, AllValid, MessagesValid, OneToSeventeen}
use Rattle.lynx_net.proofs.FormLaws.{AtMost16, most_of, units_parts, units_length, extended_length}
use Rattle.lynx_net.proofs.ListLaws.{fit_at}

-- ---- a message's payload

pub means_it_alone : MeansItAlone
unfolding form_of closed_units closed_extended all_below messages_of
means_it_alone (Address h u) ok has =
    let p = (and-eq-true_iff (leb h 15) (leb u 15)).0 ok in
    (rw (p.0, p.1), refl)
means_it_alone (Command h AllUnitsOff) ok has = (rw ok, refl)
means_it_alone (Command h AllLightsOn) ok has = (rw ok, refl)
means_it_alone (Command h On) ok has = (rw ok, refl)
means_it_alone (Command h Off) ok has = (rw ok, refl)
means_it_alone (Command h Dim) ok has = absurd (false≢true has)
means_it_alone (Command h Bright) ok has = absurd (false≢true has)
means_it_alone (Command h AllLightsOff) ok has = (rw ok, refl)
means_it_alone (Command h HailRequest) ok has = absurd (false≢true has)
means_it_alone (Command h HailAcknowledge) ok has = absurd (false≢true has)
means_it_alone (Command h StatusOn) ok has = (rw ok, refl)
means_it_alone (Command h StatusOff) ok has = (rw ok, refl)
means_it_alone (Command h StatusRequest) ok has = (rw ok, refl)
means_it_alone (Extended h u d c) ok has = go (eqb c 0x30) refl has
  where
    parts : (leb h 15 ≡ true) × (leb u 15 ≡ true)
    parts = (and-eq-true_iff (leb h 15) (leb u 15)).0 ((and-eq-true_iff (leb h 15 && leb u 15) _).0 ok).0

    by : (k : ℕ) → c ≡ k → (payload_ok (payload_of (Extended h u d k)) ≡ true) × (messages_of (payload_of (Extended h u d k)) ≡ Extended h u d k ∷ [])
        → (payload_ok (payload_of (Extended h u d c)) ≡ true) × (messages_of (payload_of (Extended h u d c)) ≡ Extended h u d c ∷ [])
    by k e right = rw e right

    go : (b : Bool) → eqb c 0x30 ≡ b → (b || eqb c 0x31) ≡ true
        → (payload_ok (payload_of (Extended h u d c)) ≡ true) × (messages_of (payload_of (Extended h u d c)) ≡ Extended h u d c ∷ [])
    go true is t = by 0x30 (eqb-true c 0x30 is) (rw (parts.0, parts.1), refl)
    go false is t = by 0x31 (eqb-true c 0x31 t) (rw (parts.0, parts.1), refl)

-- ---- the code byte of a form

-- what a form tells of its code byte; the payload of every house is not asked
abbrev pub Told : ℕ → Form → Type 0
Told code Addresses = code ≡ 0x08
Told code (Units f most) = (code ≡ 0x10 + function_code f) × (function_sent f ≡ true)
Told code (ExtendedCode command) = (code ≡ 0x80 + command) × ((eqb command 0x30 || eqb command 0x31) ≡ true) × (command ≤ 255)
Told code (EveryHouse f) = Unit {0}
Told code Unknown = Unit {0}

told_case : (code k : ℕ) (f rest : Form) → Told k f → Told code rest → Told code (pick (eqb code k) f rest)
told_case code k f rest this others = go (eqb code k) refl
  where
    go : (b : Bool) → eqb code k ≡ b → Told code (pick b f rest)
    go true is = subst (λ (n : ℕ). Told n f) (sym (eqb-true code k is)) this
    go false is = others

pub form_told : (code : ℕ) → Told code (form_of code)
unfolding form_of
form_told code =
    told_case code 0x08 _ _ refl
    (told_case code 0x12 _ _ (refl, refl)
    (told_case code 0x13 _ _ (refl, refl)
    (told_case code 0x1F _ _ (refl, refl)
    (told_case code 0x10 _ _ (refl, refl)
    (told_case code 0x11 _ _ (refl, refl)
    (told_case code 0x16 _ _ (refl, refl)
    (told_case code 0x1D _ _ (refl, refl)
    (told_case code 0x1E _ _ (refl, refl)
    (told_case code 0xB0 _ _ (refl, refl, omega arith)
    (told_case code 0xB1 _ _ (refl, refl, omega arith)
    (told_case code 0x20 _ _ tt
    (told_case code 0x21 _ _ tt
    (told_case code 0x22 _ _ tt tt)))))))))))))

-- ---- a payload that means one message

-- what is claimed of it
abbrev Sole : Message → List ℕ → Type 0
Sole m p = (has_payload m ≡ true) × (p ≡ payload_of m)

head_is : (m n : Message) (ms ns : List Message) → m ∷ ms ≡ n ∷ ns → m ≡ n
head_is m n ms ns e = cc

-- one unit, and none, by the bytes
module _ (m : Message) where
  one_address : (p : List ℕ) → length p ≡ 4 → closed_units 1 16 p ≡ true → get_or p 0 0 ≡ 0x08 → messages_by Addresses p ≡ m ∷ [] → Sole m p
  one_address p four = subst Claim (bytes_whole p 4 four) (claim (get_or p 0 0) (get_or p 1 0) (get_or p 2 0) (get_or p 3 0))
    where
      Claim : List ℕ → Type 0
      Claim q = closed_units 1 16 q ≡ true → get_or q 0 0 ≡ 0x08 → messages_by Addresses q ≡ m ∷ [] → Sole m q

      claim : (a b c d : ℕ) → Claim (a ∷ b ∷ c ∷ d ∷ [])
      claim a b c d fits code one =
          let is = head_is (Address b c) m [] [] one in
          let close : d ≡ CLOSE = (units_parts (a ∷ b ∷ c ∷ d ∷ []) 1 16 fits).close in
          (ap has_payload (sym is), rw (code, close) (ap payload_of is))

  one_function : (f : Function) (most : ℕ) (p : List ℕ) → length p ≡ 3 → closed_units 0 most p ≡ true
      → get_or p 0 0 ≡ 0x10 + function_code f → function_sent f ≡ true → messages_by (Units f most) p ≡ m ∷ [] → Sole m p
  one_function f most p three = subst Claim (bytes_whole p 3 three) (claim (get_or p 0 0) (get_or p 1 0) (get_or p 2 0))
    where
      Claim : List ℕ → Type 0
      Claim q = closed_units 0 most q ≡ true → get_or q 0 0 ≡ 0x10 + function_code f → function_sent f ≡ true → messages_by (Units f most) q ≡ m ∷ [] → Sole m q

      claim : (a b c : ℕ) → Claim (a ∷ b ∷ c ∷ [])
      claim a b c fits code sent one =
          let is = head_is (Command b f) m [] [] one in
          let close : c ≡ CLOSE = (units_parts (a ∷ b ∷ c ∷ []) 0 most fits).close in
          (ap has_payload (sym is) ∙ sent, rw (code, close) (ap payload_of is))

  one_extended : (command : ℕ) (p : List ℕ) → length p ≡ 5 → closed_extended p ≡ true → get_or p 0 0 ≡ 0x80 + command
      → (eqb command 0x30 || eqb command 0x31) ≡ true → messages_by (ExtendedCode command) p ≡ m ∷ [] → Sole m p
  unfolding closed_extended
  one_extended command p five fits code has one =
      let is = head_is (Extended (get_or p 1 0) (get_or p 2 0) (get_or p 4 0) command) m [] [] one in
      let ends = ((and-eq-true_iff (eqb (length p) 5) _).0 fits).1 in
      let close : get_or p 3 0 ≡ CLOSE = eqb-true _ _ ((and-eq-true_iff (leb (get_or p 1 0) 15 && leb (get_or p 2 0) 15) _).0 ends).1 in
      let bytes : p ≡ payload_of (Extended (get_or p 1 0) (get_or p 2 0) (get_or p 4 0) command) =
      sym (bytes_whole p 5 five)
      ∙ ap₂ (λ (x y : ℕ). x ∷ get_or p 1 0 ∷ get_or p 2 0 ∷ y ∷ get_or p 4 0 ∷ []) code close in
      (ap has_payload (sym is) ∙ has, bytes ∙ ap payload_of is)

-- how many addresses there are
units_count : (p : List ℕ) (least most : ℕ) → closed_units least most p ≡ true → length (map (Address (house_in p)) (units_in p)) ≡ length p - 3
units_count p least most fits = length-map (units_in p) (Address (house_in p)) ∙ units_length p (units_parts p least most fits).long

pub no_other_means_it : NoOtherMeansIt
unfolding messages_of
no_other_means_it p m ok one = go (form_in p) (form_told (get_or p 0 0)) ok one
  where
    go : (f : Form) → Told (get_or p 0 0) f → fits_form f p ≡ true → messages_by f p ≡ m ∷ [] → Sole m p
    go Addresses told fits e =
        let four : length p ≡ 4 = omega (arith, units_count p 1 16 fits, ap length e, (units_parts p 1 16 fits).long) in
        one_address m p four fits told e
    go (Units f most) told fits e =
        let count = length-append (map (Address (house_in p)) (units_in p)) (Command (house_in p) f ∷ []) in
        let three : length p ≡ 3 = omega (arith, units_count p 0 most fits, count, ap length e, (units_parts p 0 most fits).long) in
        one_function m f most p three fits told.0 told.1 e
    go (ExtendedCode command) told fits e = one_extended m command p (extended_length p fits) fits told.0 told.1 e
    go (EveryHouse f) told fits e = absurd (omega (arith, ap length e))
    go Unknown told fits e = absurd (false≢true fits)

-- ---- how many messages there are, and that they are valid

pub one_to_seventeen : OneToSeventeen
unfolding messages_of
one_to_seventeen p ok = go (form_in p) (most_of (get_or p 0 0)) ok
  where
    go : (f : Form) → AtMost16 f → fits_form f p ≡ true → (1 ≤ length (messages_by f p)) × (length (messages_by f p) ≤ 17)
    go Addresses few fits =
        let parts = units_parts p 1 16 fits in
        (omega (arith, units_count p 1 16 fits, parts.enough), omega (arith, units_count p 1 16 fits, parts.few))
    go (Units f most) few fits =
        let count = length-append (map (Address (house_in p)) (units_in p)) (Command (house_in p) f ∷ []) in
        (omega (arith, count), omega (arith, count, units_count p 0 most fits, (units_parts p 0 most fits).few))
    go (ExtendedCode command) few fits = (omega arith, omega arith)
    go (EveryHouse f) few fits = (omega arith, omega arith)
    go Unknown few fits = absurd (false≢true fits)

-- valid messages, and then others
valid_append : (ms ns : List Message) → AllValid ms → AllValid ns → AllValid (ms ++ ns)
valid_append [] ns a b = b
valid_append (m ∷ ms) ns a b = (a.0, valid_append ms ns a.1 b)

addresses_valid : (h : ℕ) (us : List ℕ) → h ≤ 15 → ((k : ℕ) → k < length us → get_or us k 0 ≤ 15) → AllValid (map (Address h) us)
addresses_valid h [] low each = tt
addresses_valid h (u ∷ us) low each =
    (both (le-leb h 15 low) (le-leb u 15 (each 0 (omega arith))), addresses_valid h us low (λ k l. each (suc k) (omega arith)))

houses_valid : (f : Function) (k n : ℕ) → k + n ≤ 16 → AllValid (map (λ h. Command h f) (numbers_from k n))
houses_valid f k zero few = tt
houses_valid f k (suc n) few = (le-leb k 15 (omega arith), houses_valid f (suc k) n (omega arith))

pub messages_valid : MessagesValid
unfolding messages_of closed_extended
messages_valid p ok bytes = go (form_in p) (form_told (get_or p 0 0)) ok
  where
    addressed : (least most : ℕ) → closed_units least most p ≡ true → AllValid (map (Address (house_in p)) (units_in p))
    addressed least most fits =
        let c = units_parts p least most fits in
        addresses_valid (house_in p) (units_in p) c.house (fit_at (units_in p) c.fit)

    go : (f : Form) → Told (get_or p 0 0) f → fits_form f p ≡ true → AllValid (messages_by f p)
    go Addresses told fits = addressed 1 16 fits
    go (Units f most) told fits =
        valid_append (map (Address (house_in p)) (units_in p)) (Command (house_in p) f ∷ []) (addressed 0 most fits)
        (le-leb (house_in p) 15 (units_parts p 0 most fits).house, tt)
    go (ExtendedCode command) told fits =
        let ends = ((and-eq-true_iff (eqb (length p) 5) _).0 fits).1 in
        let places = ((and-eq-true_iff (leb (get_or p 1 0) 15 && leb (get_or p 2 0) 15) _).0 ends).0 in
        let small = bytes 4 in
        (both places (both (le-leb (get_or p 4 0) 255 (omega arith)) (le-leb command 255 told.2)), tt)
    go (EveryHouse f) told fits = houses_valid f 0 16 (omega arith)
    go Unknown told fits = tt
