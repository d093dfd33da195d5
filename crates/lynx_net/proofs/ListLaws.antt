-- Laws of the messages of a payload.
--
--     fit_at                                 of units that fit, each is 0 to 15
--     number_end, number_turn, number_fits   units as one number, from the last on; it is below 2 ^ 64
--     nth_here, nth_later                    the i-th of a list in two parts
--     each-length, each_at, none_at          of what each of n numbers gives
--     listed_few, count_by, address_at, ending_at   how many messages a value has, and the i-th of them
--     nothing_there, last_there, past_last, house_there, past_houses        the i-th message past the addresses
--     listed_held                            the value that is read of a payload has the payload's messages
--     answered, not_answered                 what a payload's reader answers
--     payload_told, no_payload_told          what that answer tells
use Rattle.std.proofs.Common.{◌≡◌, ℕ, zero, suc, ◌+◌, ◌-◌, ◌*◌, ◌/◌, ◌^◌, ◌<◌, ◌≤◌, min, Bool, true, false, leb, List, [], ◌∷◌, ◌++◌, map, length, get_or, drop, sym, refl, ap, ◌∙◌, ap₂, append-nil, le_of_suc-le-suc, not-suc-le-zero, add-zero, add-suc, suc-add, pow-suc, zero-add, sub-one, arith, lit<, length-append, length-drop, get_or-drop, drop-cons, shr-shr, leb-true}
use Rattle.std.specs.Prelude.{Result, Ok, Err, Some, None}
use native.Mathlib.Nat.{pow-le-pow_right}
use lib.Seq.{drop-length}
use Rattle.ground.specs.Choice.{pick}
use Rattle.ground.proofs.Records.{below_at}
use Rattle.ground.specs.Refusals.{judged, reports, refuses}
use Rattle.ground.specs.declared.Refusal.{Refusal}
use Rattle.ground.specs.declared.Refusal.TheVariants as refusal
use Rattle.ground.proofs.Causes.{judged_map, judged_same, none_stops}
use Rattle.message.specs.declared.Function.{Function}
use Rattle.message.specs.declared.Message.{Message}
use Rattle.message.specs.declared.Message.TheVariants.{Address, Function as Command}
use Rattle.lynx_net.specs.declared.payload.Form.{Form}
use Rattle.lynx_net.specs.declared.payload.Form.TheVariants.{Addresses, Units, ExtendedCode, EveryHouse, Unknown}
use Rattle.lynx_net.specs.declared.payload.Ending.{Ending}
use Rattle.lynx_net.specs.declared.payload.Ending.TheVariants as ending
use Rattle.lynx_net.specs.declared.payload.Messages.{Messages}
use Rattle.lynx_net.specs.Payloads.{numbers_from, form_in, house_in, units_in, units_fit, fits_form, payload_ok, messages_by, messages_of}
use Rattle.lynx_net.proofs.FormLaws.{AtMost16, most_of, units_parts, units_length}
use Rattle.lynx_net.specs.Lists.{number_of, digit_at, ending_list, unit_count, addresses_of, listed, nth, held_by, held_in, payload_causes, payload_answer, payload_report}

-- ---- units as one number

pub fit_at : (us : List ℕ) → units_fit us ≡ true → (k : ℕ) → k < length us → get_or us k 0 ≤ 15
fit_at us fit k h = leb-true (get_or us k 0) 15 (below_at (λ i. leb (get_or us i 0) 15) (length us) fit k h)

-- the number of no units, and of the units from one place earlier on
pub number_end : (us : List ℕ) → 0 ≡ number_of (drop (length us) us)
unfolding number_of
number_end us = rw (drop-length us)

pub number_turn : (us : List ℕ) (k : ℕ) → 0 < k → k ≤ length us → number_of (drop k us) * 16 + get_or us (k - 1) 0 ≡ number_of (drop (k - 1) us)
unfolding number_of
number_turn us zero h l = absurd (omega arith)
number_turn us (suc k) h l = rw sub-one (sym (ap number_of (drop-cons us k 0 l)))

number_below : (us : List ℕ) → ((k : ℕ) → k < length us → get_or us k 0 ≤ 15) → number_of us < 16 ^ length us
unfolding number_of
number_below [] each = lit< tt
number_below (u ∷ us) each =
    let more = number_below us (λ k h. each (suc k) (omega arith)) in
    let low : u ≤ 15 = each 0 (omega arith) in
    rw (pow-suc 16 (length us)) (omega arith)

-- of at most sixteen units it fits 64 bits
pub number_fits : (us : List ℕ) (k : ℕ) → length us ≤ 16 → units_fit us ≡ true → 0 < k → k ≤ length us
    → number_of (drop k us) * 16 + get_or us (k - 1) 0 < 2 ^ 64
number_fits us k few fit h l =
    let j = k - 1 in
    let each : (i : ℕ) → i < length (drop j us) → get_or (drop j us) i 0 ≤ 15 =
    λ i below. rw (get_or-drop j us i 0) (fit_at us fit (j + i) (omega (arith, length-drop j us))) in
    let small = number_below (drop j us) each in
    let most : 16 ^ length (drop j us) ≤ 16 ^ 16 = pow-le-pow_right {n = 16} (omega arith) {i = length (drop j us)} {j = 16} (omega (arith, length-drop j us)) in
    rw (number_turn us k h l) (omega arith)

-- the digits of that number are the units
digit_of_lem : (us : List ℕ) → ((k : ℕ) → k < length us → get_or us k 0 ≤ 15) → (i : ℕ) → i < length us → digit_at (number_of us) i ≡ get_or us i 0
unfolding number_of
digit_of_lem [] each i h = absurd (not-suc-le-zero h)
digit_of_lem (u ∷ us) each zero h =
    let low : u ≤ 15 = each 0 (omega arith) in
    omega arith
digit_of_lem (u ∷ us) each (suc i) h =
    let low : u ≤ 15 = each 0 (omega arith) in
    let four : 4 * suc i ≡ 4 + 4 * i = omega arith in
    let rest : (number_of us * 16 + u) / 2 ^ 4 ≡ number_of us = omega arith in
    rw (four, ← shr-shr (number_of us * 16 + u) 4 (4 * i), rest) (digit_of_lem us (λ k l. each (suc k) (omega arith)) i (le_of_suc-le-suc h))

-- ---- the i-th of a list

module _ (xs ys : List Message) where
  pub nth_here : (i : ℕ) → i < length xs → nth (xs ++ ys) i ≡ nth xs i
  nth_here i h = go xs i h
    where
      go : (zs : List Message) (i : ℕ) → i < length zs → nth (zs ++ ys) i ≡ nth zs i
      go [] i h = absurd (not-suc-le-zero h)
      go (z ∷ zs) zero h = refl
      go (z ∷ zs) (suc i) h = go zs i (le_of_suc-le-suc h)

  pub nth_later : (i : ℕ) → nth (xs ++ ys) (length xs + i) ≡ nth ys i
  nth_later i = go xs
    where
      go : (zs : List Message) → nth (zs ++ ys) (length zs + i) ≡ nth ys i
      go [] = rw (zero-add i)
      go (z ∷ zs) = rw (suc-add (length zs) i) (go zs)

-- of what each of n numbers gives
module _ (g : ℕ → Message) where
  pub each-length : (k n : ℕ) → length (map g (numbers_from k n)) ≡ n
  each-length k zero = refl
  each-length k (suc n) = ap suc (each-length (suc k) n)

  pub each_at : (k n i : ℕ) → i < n → nth (map g (numbers_from k n)) i ≡ Some (g (k + i))
  each_at k zero i h = absurd (not-suc-le-zero h)
  each_at k (suc n) zero h = rw (add-zero k)
  each_at k (suc n) (suc i) h = rw (add-suc k i, ← suc-add k i) (each_at (suc k) n i (le_of_suc-le-suc h))

  pub none_at : (k n i : ℕ) → n ≤ i → nth (map g (numbers_from k n)) i ≡ None
  none_at k zero i h = refl
  none_at k (suc n) zero h = absurd (not-suc-le-zero h)
  none_at k (suc n) (suc i) h = none_at (suc k) n i (le_of_suc-le-suc h)

-- ---- the messages that a value holds

module _ (ms : Messages) where
  pub addresses_length : length (addresses_of ms) ≡ unit_count ms
  addresses_length = each-length (λ i. Address ms.house (digit_at ms.units i)) 0 (unit_count ms)

  pub listed_length : length (listed ms) ≡ unit_count ms + length (ending_list ms.ending)
  unfolding listed
  listed_length = length-append (addresses_of ms) (ending_list ms.ending) ∙ ap (λ (n : ℕ). n + length (ending_list ms.ending)) addresses_length

  -- a payload has at most seventeen messages, any value at most 32
  pub listed_few : length (listed ms) ≤ 32
  listed_few = let most = ending_few ms.ending in omega (arith, listed_length)
    where
      ending_few : (e : Ending) → length (ending_list e) ≤ 16
      ending_few ending.Nothing = omega arith
      ending_few (ending.Message m) = omega arith
      ending_few (ending.EveryHouse f) = omega arith

  pub count_by : {n : ℕ} → n ≡ unit_count ms → {e : Ending} → ms.ending ≡ e → n + length (ending_list e) ≡ length (listed ms)
  count_by is told = sym (listed_length ∙ ap₂ (λ (k : ℕ) (d : Ending). k + length (ending_list d)) (sym is) told)

  pub address_at : (i : ℕ) → i < unit_count ms → nth (listed ms) i ≡ Some (Address ms.house (digit_at ms.units i))
  unfolding listed
  address_at i h =
      nth_here (addresses_of ms) (ending_list ms.ending) i (rw addresses_length h)
      ∙ each_at (λ i. Address ms.house (digit_at ms.units i)) 0 (unit_count ms) i h
      ∙ rw (zero-add i)

  pub ending_at : (i : ℕ) → unit_count ms ≤ i → nth (listed ms) i ≡ nth (ending_list ms.ending) (i - unit_count ms)
  unfolding listed
  ending_at i h =
      let split : i ≡ length (addresses_of ms) + (i - unit_count ms) = omega (arith, addresses_length) in
      ap (nth (addresses_of ms ++ ending_list ms.ending)) split ∙ nth_later (addresses_of ms) (ending_list ms.ending) (i - unit_count ms)

  -- by the ending, n being the units' count as it was asked for
  module _ (i n : ℕ) (is : n ≡ unit_count ms) (past : n ≤ i) where
    ending_told : {e : Ending} → ms.ending ≡ e → nth (listed ms) i ≡ nth (ending_list e) (i - n)
    ending_told {e} told = rw is (ending_at i (rw is at past) ∙ ap (λ (d : Ending). nth (ending_list d) (i - unit_count ms)) told)

    pub nothing_there : ms.ending ≡ ending.Nothing → None ≡ nth (listed ms) i
    nothing_there told = sym (ending_told told)

    pub last_there : (m : Message) → ms.ending ≡ ending.Message m → i ≡ n → Some m ≡ nth (listed ms) i
    last_there m told last =
        let first : i - n ≡ 0 = omega arith in
        sym (ending_told told ∙ ap (nth (m ∷ [])) first)

    pub past_last : (m : Message) → ms.ending ≡ ending.Message m → (i ≡ n → ⊥) → None ≡ nth (listed ms) i
    past_last m told more =
        let later : i - n ≡ suc (i - n - 1) = omega arith in
        sym (ending_told told ∙ ap (nth (m ∷ [])) later)

    pub house_there : (f : Function) → ms.ending ≡ ending.EveryHouse f → i < n + 16 → Some (Command (i - n) f) ≡ nth (listed ms) i
    house_there f told h = sym (ending_told told ∙ each_at (λ g. Command g f) 0 16 (i - n) (omega arith) ∙ rw (zero-add (i - n)))

    pub past_houses : (f : Function) → ms.ending ≡ ending.EveryHouse f → n + 16 ≤ i → None ≡ nth (listed ms) i
    past_houses f told h = sym (ending_told told ∙ none_at (λ g. Command g f) 0 16 (i - n) (omega arith))

-- ---- the messages of a payload

-- units that are a number's digits, one after the other
units_listed : (h number k : ℕ) (us : List ℕ) → ((i : ℕ) → i < length us → digit_at number (k + i) ≡ get_or us i 0)
    → map (λ i. Address h (digit_at number i)) (numbers_from k (length us)) ≡ map (Address h) us
units_listed h number k [] each = refl
units_listed h number k (u ∷ us) each =
    ap₂ (λ (m : Message) (ms : List Message). m ∷ ms) (ap (Address h) (rw add-zero at (each 0 (omega arith))))
    (units_listed h number (suc k) us (λ i l. rw (suc-add k i, ← add-suc k i) (each (suc i) (omega arith))))

module _ (p : List ℕ) where
  addresses_held : 3 ≤ length p → length p - 3 ≤ 16 → units_fit (units_in p) ≡ true
      → map (λ i. Address (house_in p) (digit_at (number_of (units_in p)) i)) (numbers_from 0 (min (length p - 3) 16)) ≡ map (Address (house_in p)) (units_in p)
  addresses_held long few fit =
      let n : min (length p - 3) 16 ≡ length (units_in p) = omega (arith, units_length p long) in
      rw n (
      units_listed (house_in p) (number_of (units_in p)) 0 (units_in p)
      (λ i h. rw (zero-add i) (digit_of_lem (units_in p) (fit_at (units_in p) fit) i h))
      )

  pub listed_held : payload_ok p ≡ true → listed (held_in p) ≡ messages_of p
  unfolding messages_of listed
  listed_held ok = go (form_in p) (most_of (get_or p 0 0)) ok
    where
      go : (f : Form) → AtMost16 f → fits_form f p ≡ true → listed (held_by f p) ≡ messages_by f p
      go Addresses few fits =
          let c = units_parts p 1 16 fits in
          append-nil _ ∙ addresses_held c.long c.few c.fit
      go (Units f most) few fits =
          let c = units_parts p 0 most fits in
          ap (λ (ms : List Message). ms ++ (Command (house_in p) f ∷ [])) (addresses_held c.long (omega (arith, c.few)) c.fit)
      go (ExtendedCode command) few fits = refl
      go (EveryHouse f) few fits = refl
      go Unknown few fits = refl

-- ---- reading a payload

module _ (p : List ℕ) where
  payload_reported : payload_report (payload_answer p) ≡ judged (payload_causes p) (reports (messages_of p)) refuses
  unfolding payload_answer
  payload_reported =
      judged_map payload_report (Ok (held_in p)) Err (payload_causes p)
      ∙ judged_same refuses (payload_causes p) (λ none. ap reports (listed_held p (none_stops (payload_ok p) refusal.Payload [] none).0))

  -- where the payload is one, and where it is none
  pub answered : {ms : Messages} → payload_ok p ≡ true → ms ≡ held_in p → (Ok ms ≡ payload_answer p)
      × (payload_report (Ok ms) ≡ judged (payload_causes p) (reports (messages_of p)) refuses)
  unfolding payload_answer judged
  answered {ms} ok held =
      let answer : Ok ms ≡ payload_answer p = rw ok (ap Ok held) in
      (answer, ap payload_report answer ∙ payload_reported)

  pub not_answered : payload_ok p ≡ false → (Err refusal.Payload ≡ payload_answer p)
      × (payload_report (Err refusal.Payload) ≡ judged (payload_causes p) (reports (messages_of p)) refuses)
  unfolding payload_answer judged
  not_answered bad = let answer : Err refusal.Payload ≡ payload_answer p = rw bad in (answer, ap payload_report answer ∙ payload_reported)

  -- what an answer tells of the payload
  pub payload_told : {r : Result Messages Refusal} {ms : Messages} → r ≡ payload_answer p → r ≡ Ok ms → (payload_ok p ≡ true) × (ms ≡ held_in p)
  unfolding payload_answer judged
  payload_told {r} {ms} e is = go (payload_ok p) (sym e ∙ is)
    where
      go : (b : Bool) → pick b (Ok (held_in p)) (Err refusal.Payload) ≡ Ok ms → (b ≡ true) × (ms ≡ held_in p)
      go true q = (refl, cc)
      go false q = let z : ◌≡◌ {A = ℕ} 0 1 = cc in absurd (omega arith)

  pub no_payload_told : {r : Result Messages Refusal} {why : Refusal} → r ≡ payload_answer p → r ≡ Err why → (payload_ok p ≡ false) × (why ≡ refusal.Payload)
  unfolding payload_answer judged
  no_payload_told {r} {why} e is = go (payload_ok p) (sym e ∙ is)
    where
      go : (b : Bool) → pick b (Ok (held_in p)) (Err refusal.Payload) ≡ Err why → (b ≡ false) × (why ≡ refusal.Payload)
      go true q = let z : ◌≡◌ {A = ℕ} 0 1 = cc in absurd (omega arith)
      go false q = (refl, cc)
