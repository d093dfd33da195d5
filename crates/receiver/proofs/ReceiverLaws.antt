-- Laws of one call of the receiver.
--
--     Taken, taken                       the ways in which a half-cycle is taken, each with what holds there
--     step_number                        the event's number is 01's number for the call
--     hunts_none, hunts_not, hunts_waiting, hunts_range      which places are those of the hunt
--     waits_range, near_ok, far_ok       a waiting by its numbers, and back
--     Waits, waits_hunts, waits_more, waits_next, waits_broken      what a waiting goes on to, and what a break begins
--     hunt_found, wait_on, wait_found, wait_near, wait_far      the hunt while a start is waited for, case by case
--     at_most, valid_parts               what holds of a receiver that is not refused
--     ten_to_twelve, nine_ok, nine_ok_lem       what nine bits say, judged by their numbers; one computed test over the table of meanings
--     nine_taken, read_nine, read_all, last_code      a complete frame's bits are not refused
--     standard_ok, extended_ok           what they say is a valid message, if any
--     begun_code                         only code 7 with function bit 1 begins a longer frame
--     step_lowest, fresh_is_valid, stays_valid, gives_valid      StepLowest, FreshIsValid, StaysValid and GivesValid
use Rattle.std.specs.Prelude.{Option, Some, None, Result, Ok}
use Rattle.std.specs.Result.{IsOk}
use mathlib.Core.Logic.{◌≢◌, ◌⊎◌, inl, inr, ⊎_elim}
use mathlib.Core.Path.{◌≡◌, refl, sym, ap, ◌∙◌}
use mathlib.Core.Bool.{Bool, true, false, false≢true, ◌&&◌, ◌||◌, not, and-eq-true_iff, and-false, or-true}
use Prim.Native.Nat.{ℕ, ◌+◌, ◌-◌, ◌*◌, ◌/◌, ◌%◌, ◌^◌, ◌≤◌, ◌<◌}
use native.Mathlib.Omega.{arith}
use native.Mathlib.Decide.{dec_le, ℕ_discrete}
use borrow.Author.Tests.{leb-true, eqb-true, not-true, le-leb, lt-leb, lt-ltb, eq-eqb, ne_eqb}
use lib.Dec.{leb, eqb, lit<, lit≤}
use lib.Pow.{field, mod-mod-pow, shr-shr}
use Rattle.ground.specs.Choice.{pick}
use Rattle.ground.specs.Refusals.{refusal_number, judged}
use Rattle.ground.specs.declared.Refusal.{Refusal}
use Rattle.ground.specs.declared.Refusal.TheVariants as refusal
use Rattle.ground.proofs.Causes.{judged_map, lowest_given}
use Rattle.message.specs.Codes.{number_of, meaning_of, meanings}
use Rattle.message.specs.Messages.{message_ok}
use Rattle.message.specs.Words.{function_reading, standard_of, extended_of, standard_answer, extended_answer}
use Rattle.message.specs.declared.Message.{Message}
use Rattle.message.specs.declared.word.Reading.{Reading}
use Rattle.message.specs.declared.word.Reading.TheVariants.{Message as Says, Longer, Unsupported}
use Rattle.message.proofs.Tables.{every_at}
use Rattle.message.proofs.CodeLaws.{number_below}
use Rattle.receiver.specs.declared.Receiver.{Receiver}
use Rattle.receiver.specs.declared.Event.{Event}
use Rattle.receiver.specs.declared.Event.TheVariants.{Nothing, Message as Gives, Repeat, BrokenPair, BrokenUnsupported, Refused}
use Rattle.receiver.specs.declared.Heard.{Heard}
use Rattle.receiver.specs.Receivers.{near, far, shifted, waiting, hunting, started, says, start_hunted, start_waited, waits_on, hunt_of, await_of}
use Rattle.receiver.specs.Receivers.{is_repeat, complete_of, outcome_of, pair_of, bits_after, broken, read_of, is_hunting, takes_of}
use Rattle.receiver.specs.Receivers.{event_number, pairs_ok, given_ok, waiting_ok, receiver_ok, step_causes, step_of, unsupported_code, broken_number}
use Rattle.receiver.specs.Receivers.{StepLowest, FreshIsValid, StaysValid, GivesValid}

-- ---- where a receiver stands

pub hunts_none : (at : ℕ) → at ≡ 0 → is_hunting at ≡ true
hunts_none at e = rw e refl

pub hunts_not : (at : ℕ) → at ≢ 0 → at ≤ 62 → is_hunting at ≡ false
hunts_not at n most = rw (ne_eqb at 0 n, lt-leb 63 at (omega arith))

pub hunts_waiting : (at : ℕ) → 62 < at → is_hunting at ≡ true
hunts_waiting at over = rw (ne_eqb at 0 (λ e. omega arith), le-leb 63 at over)

or_split : (a b : Bool) → (a || b) ≡ true → (a ≡ true) ⊎ (b ≡ true)
or_split true b t = inl refl
or_split false b t = inr t

pub hunts_range : (at : ℕ) → is_hunting at ≡ true → (at ≡ 0) ⊎ (62 < at)
hunts_range at t = ⊎_elim (λ z. inl (eqb-true at 0 z)) (λ w. inr (leb-true 63 at w)) (or_split (eqb at 0) (leb 63 at) t)

-- a waiting that is not refused, by its numbers
pub waits_range : (at : ℕ) → waiting_ok at ≡ true → ((70 ≤ at) × (at ≤ 89)) ⊎ ((152 ≤ at) × (at ≤ 193))
waits_range at t =
    ⊎_elim
    (λ n. let p = (and-eq-true_iff (leb 70 at) (leb at 89)).0 n in inl (leb-true 70 at p.0, leb-true at 89 p.1))
    (λ f. let p = (and-eq-true_iff (leb 152 at) (leb at 193)).0 f in inr (leb-true 152 at p.0, leb-true at 193 p.1))
    (or_split (leb 70 at && leb at 89) (leb 152 at && leb at 193) t)

pub near_ok : (at : ℕ) → 70 ≤ at → at ≤ 89 → waiting_ok at ≡ true
near_ok at low high = rw (le-leb 70 at low, le-leb at 89 high)

pub far_ok : (at : ℕ) → 152 ≤ at → at ≤ 193 → waiting_ok at ≡ true
far_ok at low high = rw (le-leb 152 at low, le-leb at 193 high, or-true (leb 70 at && leb at 89))

-- hunting, while a start is waited for or none is
abbrev pub Waits : ℕ → Type 0
Waits at = (at ≡ 0) ⊎ (waiting_ok at ≡ true)

pub waits_none : Waits 0
waits_none = inl refl

pub waits_some : {at : ℕ} → waiting_ok at ≡ true → Waits at
waits_some t = inr t

pub waits_hunts : (at : ℕ) → Waits at → is_hunting at ≡ true
waits_hunts at (inl z) = hunts_none at z
waits_hunts at (inr t) = hunts_waiting at (⊎_elim (λ n. omega arith) (λ f. omega arith) (waits_range at t))

pub waits_more : (at : ℕ) → at ≢ 0 → at ≢ 89 → at ≢ 193 → waits_on at ≡ at + 1
waits_more at a b c = rw (ne_eqb at 89 b, ne_eqb at 0 a, ne_eqb at 193 c)

pub waits_next : (at : ℕ) → Waits at → Waits (waits_on at)
waits_next at (inl z) = inl (rw z refl)
waits_next at (inr t) = go (waits_range at t) (ℕ_discrete at 89) (ℕ_discrete at 193)
  where
    go : ((70 ≤ at) × (at ≤ 89)) ⊎ ((152 ≤ at) × (at ≤ 193)) → Dec (at ≡ 89) → Dec (at ≡ 193) → Waits (waits_on at)
    go q (yes e) s = inr (rw e refl)
    go q (no a) (yes e) = inl (rw e refl)
    go (inl n) (no a) (no b) = let more = waits_more at (λ z. omega arith) a b in inr (rw more (near_ok (at + 1) (omega arith) (omega arith)))
    go (inr f) (no a) (no b) = let more = waits_more at (λ z. omega arith) a b in inr (rw more (far_ok (at + 1) (omega arith) (omega arith)))

pub waits_below : (at : ℕ) → waiting_ok at ≡ true → at ≤ 193
waits_below at t = ⊎_elim (λ n. omega arith) (λ f. omega arith) (waits_range at t)

-- an equal pair ends at an even place
pub waits_broken : (at : ℕ) → 5 ≤ at → at ≤ 62 → at % 2 ≡ 0 → waiting_ok (pick (leb at 22) (near at) (far at)) ≡ true
waits_broken at some most even = go (dec_le at 22)
  where
    go : Dec (at ≤ 22) → waiting_ok (pick (leb at 22) (near at) (far at)) ≡ true
    go (yes low) = rw (le-leb at 22 low) (near_ok (near at) (omega arith) (omega arith))
    go (no n) = let over : 22 < at = omega arith in rw (lt-leb at 22 over) (far_ok (far at) (omega arith) (omega arith))

-- ---- the hunt, while a start is waited for

module _ (past at h : ℕ) where
  pub hunt_found : start_hunted past h ≡ true → hunt_of past at h ≡ says Nothing (started (shifted past h))
  unfolding hunt_of
  hunt_found t = rw t

  -- before the fourth half-cycle
  pub wait_on : waiting_ok at ≡ true → start_hunted past h ≡ false → (not (eqb at 89) && not (eqb at 193)) ≡ true
      → hunt_of past at h ≡ says Nothing (waiting (shifted past h) (at + 1))
  unfolding hunt_of
  wait_on w n t =
      let p = (and-eq-true_iff (not (eqb at 89)) (not (eqb at 193))).0 t in
      let a = not-true (eqb at 89) p.0 in
      let b = not-true (eqb at 193) p.1 in
      let c : eqb at 0 ≡ false = ne_eqb at 0 (λ e. ⊎_elim (λ n. omega arith) (λ f. omega arith) (waits_range at w)) in
      rw (n, a, b, c) refl

  -- with the fourth
  fourth : (not (eqb at 89) && not (eqb at 193)) ≡ false → (eqb at 89 || eqb at 193) ≡ true
  fourth t = go (eqb at 89) (eqb at 193) t
    where
      go : (a b : Bool) → (not a && not b) ≡ false → (a || b) ≡ true
      go true b u = refl
      go false true u = refl
      go false false u = absurd (false≢true (sym u))

  pub wait_found : (not (eqb at 89) && not (eqb at 193)) ≡ false → (eqb (past % 8) 7 && eqb h 0) ≡ true
      → hunt_of past at h ≡ says Nothing (started (shifted past h))
  unfolding hunt_of
  wait_found t s = rw (fourth t, s, or-true (start_hunted past h))

  pub wait_near : start_hunted past h ≡ false → (eqb (past % 8) 7 && eqb h 0) ≡ false → at ≡ 89
      → hunt_of past at h ≡ says Nothing (waiting (shifted past h) 154)
  unfolding hunt_of
  wait_near n s e = rw (n, s, e) refl

  pub wait_far : start_hunted past h ≡ false → (not (eqb at 89) && not (eqb at 193)) ≡ false → (eqb (past % 8) 7 && eqb h 0) ≡ false → at ≢ 89
      → hunt_of past at h ≡ says Nothing (hunting (shifted past h))
  unfolding hunt_of
  wait_far n t s d = ⊎_elim
      (λ a. absurd (d (eqb-true at 89 a)))
      (λ b. let e = eqb-true at 193 b in rw (n, s, e) refl)
      (or_split (eqb at 89) (eqb at 193) (fourth t))

-- ---- the ways in which a half-cycle is taken

pub data Taken (r : Receiver) (h : ℕ) : Heard → Type 0 where
  hunted : is_hunting r.at ≡ true → Taken r h (hunt_of r.past r.at h)
  lapsed : r.at ≤ 4 → Taken r h (hunt_of r.past 0 h)
  awaited : r.at ≤ 4 → Taken r h (says Nothing (record { past = shifted r.past h; at = r.at + 1; bits = 0; given = r.given }))
  first : 5 ≤ r.at → r.at ≤ 62 → r.at % 2 ≡ 1
      → Taken r h (says Nothing (record { past = shifted r.past h; at = r.at + 1; bits = r.bits; given = r.given }))
  equal : 5 ≤ r.at → r.at ≤ 62 → r.at % 2 ≡ 0 → r.past % 2 ≡ h → Taken r h (says BrokenPair (broken (shifted r.past h) r.at))
  ninth : r.at ≡ 22 → (r.past % 2 ≡ h → ⊥) → Taken r h (outcome_of r (bits_after r) (shifted r.past h) (standard_of (bits_after r)))
  last : r.at ≡ 62 → (r.past % 2 ≡ h → ⊥) → Taken r h (complete_of r.given (extended_of (bits_after r)) (shifted r.past h))
  paired : 5 ≤ r.at → r.at ≤ 62 → r.at % 2 ≡ 0 → (r.past % 2 ≡ h → ⊥) → (r.at ≡ 22 → ⊥) → (r.at ≡ 62 → ⊥)
      → Taken r h (says Nothing (record { past = shifted r.past h; at = r.at + 1; bits = bits_after r; given = r.given }))

module _ (r : Receiver) (h : ℕ) where
  taken_await : r.at ≤ 4 → Taken r h (await_of r h)
  unfolding await_of
  taken_await a = go (ℕ_discrete h (pick (leb r.at 3) 1 0))
    where
      go : Dec (h ≡ pick (leb r.at 3) 1 0) → Taken r h (await_of r h)
      go (yes e) = rw (eq-eqb h (pick (leb r.at 3) 1 0) e) (awaited a)
      go (no n) = rw (ne_eqb h (pick (leb r.at 3) 1 0) n) (lapsed a)

  taken_pair : 5 ≤ r.at → r.at ≤ 62 → r.at % 2 ≡ 0 → (r.past % 2 ≡ h → ⊥) → Taken r h (pair_of r (bits_after r) (shifted r.past h))
  unfolding pair_of
  taken_pair a most even d = go (ℕ_discrete r.at 22) (ℕ_discrete r.at 62)
    where
      go : Dec (r.at ≡ 22) → Dec (r.at ≡ 62) → Taken r h (pair_of r (bits_after r) (shifted r.past h))
      go (yes e) q = rw (eq-eqb r.at 22 e) (ninth e d)
      go (no n) (yes e) = rw (ne_eqb r.at 22 n, eq-eqb r.at 62 e) (last e d)
      go (no n) (no n') = rw (ne_eqb r.at 22 n, ne_eqb r.at 62 n') (paired a most even d n n')

  taken_read : 5 ≤ r.at → r.at ≤ 62 → Taken r h (read_of r h)
  unfolding read_of
  taken_read a most = go (ℕ_discrete (r.at % 2) 1) (ℕ_discrete (r.past % 2) h)
    where
      go : Dec (r.at % 2 ≡ 1) → Dec (r.past % 2 ≡ h) → Taken r h (read_of r h)
      go (yes e) q = rw (eq-eqb (r.at % 2) 1 e) (first a most e)
      go (no n) (yes e) = rw (ne_eqb (r.at % 2) 1 n, eq-eqb (r.past % 2) h e) (equal a most (omega arith) e)
      go (no n) (no d) = rw (ne_eqb (r.at % 2) 1 n, ne_eqb (r.past % 2) h d) (taken_pair a most (omega arith) d)

  pub taken : Taken r h (takes_of r h)
  unfolding takes_of
  taken = go (ℕ_discrete r.at 0) (dec_le r.at 4) (dec_le r.at 62)
    where
      go : Dec (r.at ≡ 0) → Dec (r.at ≤ 4) → Dec (r.at ≤ 62) → Taken r h (takes_of r h)
      go (yes e) q s = let at = hunts_none r.at e in rw at (hunted at)
      go (no n) (yes a) s = rw (hunts_not r.at n (omega arith), le-leb r.at 4 a) (taken_await a)
      go (no n) (no b) (yes c) = let past : 4 < r.at = omega arith in rw (hunts_not r.at n c, lt-leb r.at 4 past) (taken_read past c)
      go (no n) (no b) (no c) = let at = hunts_waiting r.at (omega arith) in rw at (hunted at)

-- ---- what nine bits say

number_ok : (c : ℕ) → leb (number_of (c % 16)) 15 ≡ true
number_ok c = let low : c % 16 < 16 = omega arith in le-leb (number_of (c % 16)) 15 (omega (arith, number_below (c % 16) low))

abbrev pub ten_to_twelve : ℕ → Bool
ten_to_twelve c = leb 10 c && leb c 12

-- by the function bit and the code: a message is valid, only code 7 begins a longer frame, and codes 10, 11 and 12 alone are unsupported
abbrev pub nine_ok : Bool → ℕ → Reading → Bool
nine_ok b c (Says m) = message_ok m && not (b && ten_to_twelve c)
nine_ok b c Longer = b && eqb c 7
nine_ok b c Unsupported = b && ten_to_twelve c

function_ok : (house c : ℕ) → leb house 15 ≡ true → c < 16 → nine_ok true c (function_reading house (meaning_of c)) ≡ true
unfolding meaning_of meanings
function_ok house c ok low = every_at (λ k x. nine_ok true k (function_reading house x)) meanings (meaning_of 16) c (rw ok) low

pub nine_ok_lem : (w : ℕ) → nine_ok (eqb (w % 2) 1) (w / 2 % 16) (standard_of w) ≡ true
unfolding standard_of
nine_ok_lem w = go (ℕ_discrete (w % 2) 0)
  where
    go : Dec (w % 2 ≡ 0) → nine_ok (eqb (w % 2) 1) (w / 2 % 16) (standard_of w) ≡ true
    go (yes z) = simp (z, number_ok (w / 32), number_ok (w / 2))
    go (no n) = let one : w % 2 ≡ 1 = omega arith in rw one (function_ok (number_of (w / 32 % 16)) (w / 2 % 16) (number_ok (w / 32)) (omega arith))

-- ---- the number of a call

complete_number : (given : Option Message) (m : Message) (past : ℕ) → event_number (complete_of given m past).event ≡ 0
unfolding complete_of
complete_number given m past = go (is_repeat given m)
  where
    go : (b : Bool) → event_number (pick b (says Repeat (hunting past)) (says (Gives m) (record { past = past; at = 1; bits = 0; given = Some m }))).event ≡ 0
    go true = refl
    go false = refl

outcome_number : (r : Receiver) (bits past : ℕ) (x : Reading) (b : Bool) (c : ℕ) → nine_ok b c x ≡ true
    → event_number (outcome_of r bits past x).event ≡ pick (b && ten_to_twelve c) 11 0
outcome_number r bits past (Says m) b c t =
    let other : (b && ten_to_twelve c) ≡ false = not-true (b && ten_to_twelve c) ((and-eq-true_iff (message_ok m) (not (b && ten_to_twelve c))).0 t).1 in
    complete_number r.given m past ∙ sym (rw other)
outcome_number r bits past Longer b c t =
    let seven = eqb-true c 7 ((and-eq-true_iff b (eqb c 7)).0 t).1 in
    let other : ten_to_twelve c ≡ false = ap ten_to_twelve seven in
    sym (rw (other, and-false b))
outcome_number r bits past Unsupported b c t = sym (rw t)

module _ (r : Receiver) (h : ℕ) where
  -- what stands for the number where the pair is complete and unequal
  unequal : 5 ≤ r.at → r.at ≤ 62 → r.at % 2 ≡ 0 → (r.past % 2 ≡ h → ⊥) → broken_number r h ≡ pick (unsupported_code r) 11 0
  unfolding broken_number
  unequal a most even d = simp (le-leb 5 r.at a, le-leb r.at 62 most, eq-eqb (r.at % 2) 0 even, ne_eqb (r.past % 2) h d)

  ninth_number : r.at ≡ 22 → (r.past % 2 ≡ h → ⊥)
      → event_number (outcome_of r (bits_after r) (shifted r.past h) (standard_of (bits_after r))).event ≡ broken_number r h
  ninth_number e d =
      let w = bits_after r in
      let bit : w % 2 ≡ r.past % 2 = omega arith in
      let half : w / 2 ≡ r.bits % 2 ^ 28 = omega arith in
      let code : w / 2 % 16 ≡ r.bits % 16 = ap (λ (n : ℕ). n % 16) half ∙ mod-mod-pow r.bits 24 4 in
      outcome_number r w (shifted r.past h) (standard_of w) (eqb (w % 2) 1) (w / 2 % 16) (nine_ok_lem w)
      ∙ (rw (bit, code, eq-eqb r.at 22 e))
      ∙ sym (unequal (omega arith) (omega arith) (omega arith) d)

  number_taken : {o : Heard} → Taken r h o → event_number o.event ≡ broken_number r h
  unfolding hunt_of broken_number
  number_taken (hunted t) = ⊎_elim
      (λ z. simp (lt-leb 5 r.at (omega arith), ne_eqb r.at 22 (λ e. omega arith)))
      (λ w. simp (lt-leb r.at 62 w, and-false (leb 5 r.at), ne_eqb r.at 22 (λ e. omega arith)))
      (hunts_range r.at t)
  number_taken (lapsed a) = simp (lt-leb 5 r.at (omega arith), ne_eqb r.at 22 (λ e. omega arith))
  number_taken (awaited a) = simp (lt-leb 5 r.at (omega arith), ne_eqb r.at 22 (λ e. omega arith))
  number_taken (first a most odd) =
      simp (le-leb 5 r.at a, le-leb r.at 62 most, ne_eqb (r.at % 2) 0 (λ e. omega arith), ne_eqb r.at 22 (λ e. omega arith))
  number_taken (equal a most even same) = simp (le-leb 5 r.at a, le-leb r.at 62 most, eq-eqb (r.at % 2) 0 even, eq-eqb (r.past % 2) h same)
  number_taken (ninth e d) = ninth_number e d
  number_taken (last e d) = complete_number _ _ _ ∙ sym (unequal (omega arith) (omega arith) (omega arith) d ∙ simp (ne_eqb r.at 22 (λ n. omega arith)))
  number_taken (paired a most even d n n') = sym (unequal a most even d ∙ simp (ne_eqb r.at 22 n))

  pub step_number : event_number (step_of r h).event ≡ judged (step_causes r h) (broken_number r h) refusal_number
  unfolding step_of
  step_number =
      judged_map (λ (o : Heard). event_number o.event) (takes_of r h) (λ (why : Refusal). says (Refused why) r) (step_causes r h)
      ∙ ap (λ (n : ℕ). judged (step_causes r h) n refusal_number) (number_taken (taken r h))

pub step_lowest : StepLowest
step_lowest r h = lowest_given (step_causes r h) refl

-- ---- what makes a receiver valid

low_pairs : (at bits : ℕ) → at ≤ 22 → pairs_ok at bits ≡ true
unfolding pairs_ok
low_pairs at bits low = simp (le-leb at 22 low)

high_pairs : (at bits : ℕ) → 22 < at → at ≤ 62 → bits / 2 ^ ((at - 23) / 2) % 32 ≡ 15 → pairs_ok at bits ≡ true
unfolding pairs_ok
high_pairs at bits past low e = simp (lt-leb at 22 past, le-leb at 62 low, eq-eqb (bits / 2 ^ ((at - 23) / 2) % 32) 15 e)

-- and back
pub at_most : (at bits : ℕ) → pairs_ok at bits ≡ true → at ≤ 62
unfolding pairs_ok
at_most at bits t = go (dec_le at 22)
  where
    go : Dec (at ≤ 22) → at ≤ 62
    go (yes low) = omega arith
    go (no past) =
        let over : 22 < at = omega arith in
        let t' : (leb at 62 && eqb (bits / 2 ^ ((at - 23) / 2) % 32) 15) ≡ true = rw (lt-leb at 22 over) at t in
        leb-true at 62 ((and-eq-true_iff (leb at 62) (eqb (bits / 2 ^ ((at - 23) / 2) % 32) 15)).0 t').0

extended_code : (at bits : ℕ) → 22 < at → pairs_ok at bits ≡ true → bits / 2 ^ ((at - 23) / 2) % 32 ≡ 15
unfolding pairs_ok
extended_code at bits over t =
    let t' : (leb at 62 && eqb (bits / 2 ^ ((at - 23) / 2) % 32) 15) ≡ true = rw (lt-leb at 22 over) at t in
    eqb-true (bits / 2 ^ ((at - 23) / 2) % 32) 15 ((and-eq-true_iff (leb at 62) (eqb (bits / 2 ^ ((at - 23) / 2) % 32) 15)).0 t').1

-- a place that is not refused
abbrev pub place_ok : ℕ → ℕ → Bool
place_ok at bits = pairs_ok at bits || waiting_ok at

pub valid_parts : (r : Receiver) → receiver_ok r ≡ true → (place_ok r.at r.bits ≡ true) × (given_ok r.given ≡ true)
unfolding receiver_ok
valid_parts r t =
    let rest = ((and-eq-true_iff (leb r.past 63) (place_ok r.at r.bits && given_ok r.given)).0 t).1 in
    (and-eq-true_iff (place_ok r.at r.bits) (given_ok r.given)).0 rest

-- in a frame, and beyond every frame
pub place_pairs : (at bits : ℕ) → place_ok at bits ≡ true → at ≤ 62 → pairs_ok at bits ≡ true
place_pairs at bits t most =
    ⊎_elim (λ p. p) (λ w. absurd (⊎_elim (λ n. omega arith) (λ f. omega arith) (waits_range at w))) (or_split (pairs_ok at bits) (waiting_ok at) t)

pub place_waits : (at bits : ℕ) → place_ok at bits ≡ true → 62 < at → waiting_ok at ≡ true
place_waits at bits t over = ⊎_elim (λ p. absurd (omega (arith, at_most at bits p))) (λ w. w) (or_split (pairs_ok at bits) (waiting_ok at) t)

pub hunts_waits : (at bits : ℕ) → place_ok at bits ≡ true → is_hunting at ≡ true → Waits at
hunts_waits at bits t h = ⊎_elim (λ z. inl z) (λ over. inr (place_waits at bits t over)) (hunts_range at h)

valid_of : (past at bits : ℕ) (given : Option Message) → past ≤ 63 → pairs_ok at bits ≡ true → given_ok given ≡ true
    → receiver_ok (record { past = past; at = at; bits = bits; given = given }) ≡ true
unfolding receiver_ok
valid_of past at bits given p q g = simp (le-leb past 63 p, q, g)

pub valid_waiting : (past at : ℕ) → past ≤ 63 → Waits at → receiver_ok (waiting past at) ≡ true
unfolding receiver_ok
valid_waiting past at p (inl z) = valid_of past at 0 None p (low_pairs at 0 (omega arith)) refl
valid_waiting past at p (inr t) = simp (le-leb past 63 p, t, or-true (pairs_ok at 0))

pub fresh_is_valid : FreshIsValid
fresh_is_valid = valid_of 63 0 0 None (lit≤ tt) (low_pairs 0 0 (lit≤ tt)) refl

-- ---- a complete frame's bits are not refused

-- one more bit below: the extended code stands one place higher
code_moves : (bits b k : ℕ) → b < 2 → k ≤ 23 → (bits % 2 ^ 28 * 2 + b) / 2 ^ (1 + k) % 32 ≡ bits / 2 ^ k % 32
code_moves bits b k hb hk =
    let w = bits % 2 ^ 28 * 2 + b in
    let half : w / 2 ≡ bits % 2 ^ 28 = omega arith in
    let e : 23 - k + 5 + k ≡ 28 = omega arith in
    ap (λ (n : ℕ). n % 32) (sym (shr-shr w 1 k) ∙ ap (λ (n : ℕ). n / 2 ^ k) half)
    ∙ ap (λ (n : ℕ). bits % 2 ^ n / 2 ^ k % 32) (sym e)
    ∙ ap (λ (n : ℕ). n % 32) (field bits (23 - k + 5) k)
    ∙ mod-mod-pow (bits / 2 ^ k) (23 - k) 5

-- the twenty-ninth pair of a frame that has so many
pub last_code : (r : Receiver) → pairs_ok r.at r.bits ≡ true → r.at ≡ 62 → bits_after r / 2 ^ 20 % 32 ≡ 15
last_code r ok e =
    let further : 19 ≡ (r.at - 23) / 2 = omega arith in
    code_moves r.bits (r.past % 2) 19 (omega arith) (omega arith)
    ∙ ap (λ (k : ℕ). r.bits / 2 ^ k % 32) further
    ∙ extended_code r.at r.bits (omega arith) ok

-- j bits above the lowest k, where n more are kept above them
part : (w n j k : ℕ) → w % 2 ^ (n + j + k) / 2 ^ k % 2 ^ j ≡ w / 2 ^ k % 2 ^ j
part w n j k = ap (λ (x : ℕ). x % 2 ^ j) (field w (n + j) k) ∙ mod-mod-pow (w / 2 ^ k) n j

nine_read : (w : ℕ) → w < 512 → standard_answer w ≡ Ok (standard_of w)
unfolding standard_answer judged
nine_read w low = rw (lt-ltb w 512 low)

-- bits that are handed on are not refused, where they are no more than nine
pub nine_taken : {w : ℕ} {r : Result Reading Refusal} → r ≡ standard_answer w → w < 512 → IsOk r
nine_taken {w} is low = rw (is, nine_read w low) refl

pub read_nine : (w : ℕ) → standard_answer (w % 512) ≡ Ok (standard_of w)
unfolding standard_of
read_nine w =
    let bit : w % 512 % 2 ≡ w % 2 = omega arith in
    let code : w % 512 / 2 % 16 ≡ w / 2 % 16 = part w 4 4 1 in
    let house : w % 512 / 32 % 16 ≡ w / 32 % 16 = part w 0 4 5 in
    nine_read (w % 512) (omega arith) ∙ rw (bit, code, house)

pub read_all : (w : ℕ) → w / 2 ^ 20 % 32 ≡ 15 → extended_answer (w % 536870912) ≡ Ok (Says (extended_of w))
unfolding extended_answer judged
read_all w begun =
    let n = w % 536870912 in
    let low : n < 2 ^ 29 = omega arith in
    let code : n / 2 ^ 20 % 32 ≡ 15 = part w 4 5 20 ∙ begun in
    let house : n / 2 ^ 25 % 16 ≡ w / 2 ^ 25 % 16 = part w 0 4 25 in
    let unit : n / 2 ^ 16 % 16 ≡ w / 2 ^ 16 % 16 = part w 9 4 16 in
    let «data» : n / 256 % 256 ≡ w / 256 % 256 = part w 13 8 8 in
    let command : n % 256 ≡ w % 256 = omega arith in
    rw (lt-ltb n (2 ^ 29) low, eq-eqb (n / 2 ^ 20 % 32) 15 code, house, unit, «data», command)

-- ---- the messages are valid

-- a message that an event gives is valid
abbrev gives_ok : Event → Bool
gives_ok Nothing = true
gives_ok (Gives m) = message_ok m
gives_ok Repeat = true
gives_ok BrokenPair = true
gives_ok BrokenUnsupported = true
gives_ok (Refused why) = true

-- so is a whole one that is read
abbrev pub reads_ok : Reading → Bool
reads_ok (Says m) = message_ok m
reads_ok Longer = true
reads_ok Unsupported = true

reads_ok_lem : (b : Bool) (c : ℕ) (x : Reading) → nine_ok b c x ≡ true → reads_ok x ≡ true
reads_ok_lem b c (Says m) t = ((and-eq-true_iff (message_ok m) (not (b && ten_to_twelve c))).0 t).0
reads_ok_lem b c Longer t = refl
reads_ok_lem b c Unsupported t = refl

pub standard_ok : (w : ℕ) → reads_ok (standard_of w) ≡ true
standard_ok w = reads_ok_lem (eqb (w % 2) 1) (w / 2 % 16) (standard_of w) (nine_ok_lem w)

pub extended_ok : (w : ℕ) → message_ok (extended_of w) ≡ true
extended_ok w =
    simp (number_ok (w / 2 ^ 25), number_ok (w / 2 ^ 16), le-leb (w / 256 % 256) 255 (omega arith), le-leb (w % 256) 255 (omega arith))

complete_gives : (given : Option Message) (m : Message) (past : ℕ) → message_ok m ≡ true → gives_ok (complete_of given m past).event ≡ true
unfolding complete_of
complete_gives given m past ok = go (is_repeat given m)
  where
    go : (b : Bool) → gives_ok (pick b (says Repeat (hunting past)) (says (Gives m) (record { past = past; at = 1; bits = 0; given = Some m }))).event ≡ true
    go true = refl
    go false = ok

outcome_gives : (r : Receiver) (bits past : ℕ) (x : Reading) → reads_ok x ≡ true → gives_ok (outcome_of r bits past x).event ≡ true
outcome_gives r bits past (Says m) ok = complete_gives r.given m past ok
outcome_gives r bits past Longer ok = refl
outcome_gives r bits past Unsupported ok = refl

module _ (r : Receiver) (h : ℕ) where
  gives_taken : {o : Heard} → Taken r h o → gives_ok o.event ≡ true
  unfolding hunt_of
  gives_taken (hunted t) = refl
  gives_taken (lapsed a) = refl
  gives_taken (awaited a) = refl
  gives_taken (first a most odd) = refl
  gives_taken (equal a most even same) = refl
  gives_taken (ninth e d) = outcome_gives r (bits_after r) (shifted r.past h) (standard_of (bits_after r)) (standard_ok (bits_after r))
  gives_taken (last e d) = complete_gives _ _ _ (extended_ok (bits_after r))
  gives_taken (paired a most even d n n') = refl

  step_gives : gives_ok (step_of r h).event ≡ true
  unfolding step_of judged
  step_gives = go (leb h 1) (receiver_ok r)
    where
      go : (a b : Bool) → gives_ok (pick a (pick b (takes_of r h) (says (Refused refusal.State) r)) (says (Refused refusal.Half) r)).event ≡ true
      go true true = gives_taken (taken r h)
      go true false = refl
      go false b = refl

pub gives_valid : GivesValid
gives_valid r h m e = ap gives_ok (sym e) ∙ step_gives r h

-- ---- a valid receiver stays valid

complete_stays : (given : Option Message) (m : Message) (past : ℕ) → past ≤ 63 → message_ok m ≡ true → receiver_ok (complete_of given m past).next ≡ true
unfolding complete_of
complete_stays given m past p ok = go (is_repeat given m)
  where
    go : (b : Bool) → receiver_ok (pick b (says Repeat (hunting past)) (says (Gives m) (record { past = past; at = 1; bits = 0; given = Some m }))).next ≡ true
    go true = valid_of past 0 0 None p (low_pairs 0 0 (lit≤ tt)) refl
    go false = valid_of past 1 0 (Some m) p (low_pairs 1 0 (lit≤ tt)) ok

hunt_stays : (past at h : ℕ) → Waits at → h ≤ 1 → receiver_ok (hunt_of past at h).next ≡ true
unfolding hunt_of
hunt_stays past at h w bit = go (start_hunted past h || start_waited past at h)
  where
    go : (b : Bool) → receiver_ok (pick b (started (shifted past h)) (waiting (shifted past h) (waits_on at))) ≡ true
    go true = valid_of (shifted past h) 5 0 None (omega arith) (low_pairs 5 0 (lit≤ tt)) refl
    go false = valid_waiting (shifted past h) (waits_on at) (omega arith) (waits_next at w)

-- only code 7 with function bit 1 begins an extended message
pub begun_code : (w : ℕ) → standard_of w ≡ Longer → w % 32 ≡ 15
begun_code w e =
    let t : (eqb (w % 2) 1 && eqb (w / 2 % 16) 7) ≡ true = ap (nine_ok (eqb (w % 2) 1) (w / 2 % 16)) (sym e) ∙ nine_ok_lem w in
    let p = (and-eq-true_iff (eqb (w % 2) 1) (eqb (w / 2 % 16) 7)).0 t in
    let bit : w % 2 ≡ 1 = eqb-true (w % 2) 1 p.0 in
    let code : w / 2 % 16 ≡ 7 = eqb-true (w / 2 % 16) 7 p.1 in
    omega arith

outcome_stays : (r : Receiver) (bits past : ℕ) (x : Reading) → receiver_ok r ≡ true → past ≤ 63 → reads_ok x ≡ true
    → (x ≡ Longer → pairs_ok (r.at + 1) bits ≡ true) → receiver_ok (outcome_of r bits past x).next ≡ true
outcome_stays r bits past (Says m) ok p read more = complete_stays r.given m past p read
outcome_stays r bits past Longer ok p read more = valid_of past (r.at + 1) bits r.given p (more refl) (valid_parts r ok).1
outcome_stays r bits past Unsupported ok p read more = valid_of past 0 0 None p (low_pairs 0 0 (lit≤ tt)) refl

-- the tenth pair of an extended frame
tenth_pairs : (at bits : ℕ) → at ≡ 22 → bits % 32 ≡ 15 → pairs_ok (at + 1) bits ≡ true
tenth_pairs at bits e code =
    let next : at + 1 ≡ 23 = omega arith in
    ap (λ (n : ℕ). pairs_ok n bits) next ∙ high_pairs 23 bits (lit< tt) (lit≤ tt) (omega arith)

module _ (r : Receiver) (h : ℕ) (bit : h ≤ 1) (ok : receiver_ok r ≡ true) where
  place : place_ok r.at r.bits ≡ true
  place = (valid_parts r ok).0

  given_ok_lem : given_ok r.given ≡ true
  given_ok_lem = (valid_parts r ok).1

  kept : shifted r.past h ≤ 63
  kept = omega arith

  first_pairs : r.at ≤ 62 → r.at % 2 ≡ 1 → Dec (r.at ≤ 22) → pairs_ok (r.at + 1) r.bits ≡ true
  first_pairs below odd (yes low) = low_pairs (r.at + 1) r.bits (omega arith)
  first_pairs below odd (no n) =
      let over : 22 < r.at = omega arith in
      let same : (r.at + 1 - 23) / 2 ≡ (r.at - 23) / 2 = omega arith in
      high_pairs (r.at + 1) r.bits (omega arith) (omega (arith, below))
      (ap (λ (k : ℕ). r.bits / 2 ^ k % 32) same ∙ extended_code r.at r.bits over (place_pairs r.at r.bits place below))

  second_pairs : r.at ≤ 62 → r.at % 2 ≡ 0 → (r.at ≡ 22 → ⊥) → (r.at ≡ 62 → ⊥) → Dec (r.at ≤ 22) → pairs_ok (r.at + 1) (bits_after r) ≡ true
  second_pairs below even n n' (yes low) = low_pairs (r.at + 1) (bits_after r) (omega arith)
  second_pairs below even n n' (no m) =
      let over : 22 < r.at = omega arith in
      let more : (r.at + 1 - 23) / 2 ≡ 1 + (r.at - 23) / 2 = omega arith in
      high_pairs (r.at + 1) (bits_after r) (omega arith) (omega (arith, below))
      (ap (λ (k : ℕ). bits_after r / 2 ^ k % 32) more
      ∙ code_moves r.bits (r.past % 2) ((r.at - 23) / 2) (omega arith) (omega (arith, below))
      ∙ extended_code r.at r.bits over (place_pairs r.at r.bits place below))

  stays_taken : {o : Heard} → Taken r h o → receiver_ok o.next ≡ true
  stays_taken (hunted t) = hunt_stays r.past r.at h (hunts_waits r.at r.bits place t) bit
  stays_taken (lapsed a) = hunt_stays r.past 0 h waits_none bit
  stays_taken (awaited a) = valid_of (shifted r.past h) (r.at + 1) 0 r.given kept (low_pairs (r.at + 1) 0 (omega arith)) given_ok_lem
  stays_taken (first a most odd) =
      valid_of (shifted r.past h) (r.at + 1) r.bits r.given kept (first_pairs most odd (dec_le r.at 22)) given_ok_lem
  stays_taken (equal a most even same) =
      valid_waiting (shifted r.past h) (pick (leb r.at 22) (near r.at) (far r.at)) kept (waits_some (waits_broken r.at a most even))
  stays_taken (ninth e d) =
      outcome_stays r (bits_after r) (shifted r.past h) (standard_of (bits_after r)) ok kept (standard_ok (bits_after r))
      (λ longer. tenth_pairs r.at (bits_after r) e (begun_code (bits_after r) longer))
  stays_taken (last e d) = complete_stays r.given (extended_of (bits_after r)) (shifted r.past h) kept (extended_ok (bits_after r))
  stays_taken (paired a most even d n n') =
      valid_of (shifted r.past h) (r.at + 1) (bits_after r) r.given kept (second_pairs most even n n' (dec_le r.at 22)) given_ok_lem

pub stays_valid : StaysValid
unfolding step_of judged
stays_valid r h ok = go (leb h 1) (leb-true h 1)
  where
    go : (a : Bool) → (a ≡ true → h ≤ 1)
        → receiver_ok (pick a (pick (receiver_ok r) (takes_of r h) (says (Refused refusal.State) r)) (says (Refused refusal.Half) r)).next ≡ true
    go true bit = rw ok (stays_taken r h (bit refl) ok (taken r h))
    go false bit = ok
