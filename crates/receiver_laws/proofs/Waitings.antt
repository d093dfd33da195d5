-- 6 is given just to the waitings to which no break leads.
--
--     clear_leads             clear half-cycles lead from one waiting to the next
--     first_pair, tenth_pair  half-cycles after which a 0 breaks the first pair, and the tenth
--     led_to, led_only        LeadsTo each that is let pass, and no other
--     unsupported_hunts       BROKEN 11 leads to none
--     waitings_right          WaitingsRight
use Rattle.std.specs.Prelude.{Option, Some, None}
use Prim.Native.Nat.{ℕ, zero, suc, ◌+◌, ◌-◌, ◌%◌, ◌≤◌, ◌<◌}
use mathlib.Core.Logic.{◌≢◌, ⊎_elim, ◌↔◌}
use mathlib.Core.Path.{◌≡◌, refl, sym, ap, subst, ◌∙◌}
use mathlib.Core.Bool.{Bool, true, false, and-true}
use mathlib.Core.List.{List, [], ◌∷◌, ◌++◌}
use native.Mathlib.Omega.{arith}
use borrow.Author.Tests.{le-leb, lt-leb}
use lib.Dec.{leb}
use Rattle.ground.specs.Choice.{pick}
use Rattle.ground.specs.Refusals.{judged}
use Rattle.ground.specs.declared.Refusal.TheVariants as refusal
use Rattle.message.specs.Codes.{meaning_of, meanings}
use Rattle.message.specs.Words.{standard_of, extended_of}
use Rattle.message.specs.declared.Message.{Message}
use Rattle.message.specs.declared.word.Reading.{Reading}
use Rattle.message.specs.declared.word.Reading.TheVariants.{Message as Says, Longer, Unsupported}
use Rattle.receiver.specs.Receivers.{fresh_receiver, near, far, receiver_ok, pairs_ok, given_ok, waiting_ok, waiting, shifted}
use Rattle.receiver.specs.Receivers.{step_of, takes_of, hunt_of, read_of, is_repeat, complete_of, outcome_of, bits_after, pair_of, hunting, says}
use Rattle.receiver.specs.Hearing.{receiver_after}
use Rattle.receiver.specs.declared.Receiver.{Receiver}
use Rattle.receiver.specs.declared.Heard.{Heard}
use Rattle.receiver.specs.declared.Event.TheVariants.{Nothing, Message as Gives, Repeat, BrokenPair, BrokenUnsupported, Refused}
use Rattle.receiver.proofs.ReceiverLaws.{hunts_waiting, waits_range, near_ok, far_ok, waits_some, waits_hunts, waits_more}
use Rattle.receiver.proofs.ReceiverLaws.{Taken, hunted, lapsed, awaited, first, equal, ninth, last, paired, taken}
use Rattle.receiver.proofs.ReceiverLaws.{valid_parts, place_waits, valid_waiting, stays_valid}
use Rattle.receiver.proofs.ReadBack.{run_valid}
use Rattle.receiver_laws.specs.Whole.{clear, last_six}
use Rattle.receiver_laws.specs.Waitings.{LeadsTo, WaitingsRight}
use Rattle.receiver_laws.proofs.Runs.{after-append}
use Rattle.receiver_laws.proofs.Steps.{standing, no_start_past, hunts_on}

-- ---- to each waiting that is let pass

-- not yet at the fourth half-cycle
record Early (a : ℕ) : Type 0 where
  waits : waiting_ok a ≡ true
  not_near : a ≢ near 25
  not_far : a ≢ far 65

clear_step : (p a : ℕ) → p ≤ 63 → p % 2 ≡ 0 → Early a → step_of (waiting p a) 0 ≡ says Nothing (waiting (shifted p 0) (a + 1))
clear_step p a hp c e =
    let waits = waits_some e.waits in
    hunts_on (waiting p a) (valid_waiting p a hp waits) (waits_hunts a waits) 0 (omega arith)
    (no_start_past p a 0 (λ z. omega arith) (λ z f. omega arith) (λ z f. omega arith))
    ∙ ap (λ (x : ℕ). says Nothing (waiting (shifted p 0) x))
    (waits_more a (λ z. ⊎_elim (λ n. omega arith) (λ f. omega arith) (waits_range a e.waits)) e.not_near e.not_far)

clear_leads : (n p a : ℕ) → p ≤ 63 → p % 2 ≡ 0 → ((j : ℕ) → a ≤ j → j < a + n → Early j)
    → receiver_after (waiting p a) (clear n) ≡ waiting (last_six p (clear n)) (a + n)
unfolding receiver_after last_six
clear_leads zero p a hp c e = ap (waiting p) (omega arith)
clear_leads (suc n) p a hp c e =
    ap (λ (x : Heard). receiver_after x.next (clear n)) (clear_step p a hp c (e a (omega arith) (omega arith)))
    ∙ clear_leads n (shifted p 0) (a + 1) (omega arith) (omega arith) (λ j low high. e j (omega arith) (omega arith))
    ∙ ap (waiting (last_six (shifted p 0) (clear n))) (omega arith)

-- a start after three clear half-cycles, and a pair's first half-cycle
first_pair : List ℕ
first_pair = 0 ∷ 0 ∷ 0 ∷ 1 ∷ 1 ∷ 1 ∷ 0 ∷ 0 ∷ []

-- the same with the nine pairs of an extended message's house, code and function bit before it
found : List ℕ
found = 0 ∷ 0 ∷ 0 ∷ 1 ∷ 1 ∷ 1 ∷ 0 ∷ []

house : List ℕ
house = 0 ∷ 1 ∷ 0 ∷ 1 ∷ 0 ∷ 1 ∷ 0 ∷ 1 ∷ []

code : List ℕ
code = 0 ∷ 1 ∷ 1 ∷ 0 ∷ 1 ∷ 0 ∷ 1 ∷ 0 ∷ []

function : List ℕ
function = 1 ∷ 0 ∷ 0 ∷ []

tenth_pair : List ℕ
tenth_pair = found ++ (house ++ (code ++ function))

breaks_first : step_of (receiver_after fresh_receiver first_pair) 0 ≡ says BrokenPair (waiting 56 (near 6))
unfolding receiver_after first_pair step_of judged receiver_ok pairs_ok takes_of hunt_of read_of
breaks_first = refl

after_found : receiver_after fresh_receiver found ≡ standing None 14 5 0
unfolding receiver_after found step_of judged receiver_ok pairs_ok takes_of hunt_of
after_found = refl

after_house : receiver_after (standing None 14 5 0) house ≡ standing None 21 13 0
unfolding receiver_after house step_of judged receiver_ok pairs_ok takes_of read_of pair_of
after_house = refl

after_code : receiver_after (standing None 21 13 0) code ≡ standing None 42 21 7
unfolding receiver_after code step_of judged receiver_ok pairs_ok takes_of read_of pair_of
after_code = refl

after_function : receiver_after (standing None 42 21 7) function ≡ standing None 20 24 15
unfolding receiver_after function step_of judged receiver_ok pairs_ok takes_of read_of pair_of standard_of meaning_of meanings
after_function = refl

after_tenth : receiver_after fresh_receiver tenth_pair ≡ standing None 20 24 15
unfolding tenth_pair
after_tenth =
    after-append fresh_receiver found (house ++ (code ++ function))
    ∙ ap (λ (r : Receiver). receiver_after r (house ++ (code ++ function))) after_found
    ∙ after-append (standing None 14 5 0) house (code ++ function)
    ∙ ap (λ (r : Receiver). receiver_after r (code ++ function)) after_house
    ∙ after-append (standing None 21 13 0) code function
    ∙ ap (λ (r : Receiver). receiver_after r function) after_code
    ∙ after_function

breaks_tenth : step_of (receiver_after fresh_receiver tenth_pair) 0 ≡ says BrokenPair (waiting 40 (far 24))
unfolding step_of judged receiver_ok pairs_ok takes_of read_of
breaks_tenth = rw after_tenth refl

-- clear half-cycles lead on from there
leads : (hs : List ℕ) (p a at : ℕ) → step_of (receiver_after fresh_receiver hs) 0 ≡ says BrokenPair (waiting p a) → p ≤ 63 → p % 2 ≡ 0 → a ≤ at
    → ((j : ℕ) → a ≤ j → j < at → Early j) → LeadsTo (receiver_after fresh_receiver hs) at
leads hs p a at b hp c low e =
    let more = at - a in
    let there : a + more ≡ at = omega arith in
    record {
      half = 0;
      breaks = ap (λ (x : Heard). x.event) b;
      calls = clear more;
      waits = ap (λ (x : Heard). (receiver_after x.next (clear more)).at) b
          ∙ ap (λ (x : Receiver). x.at) (clear_leads more p a hp c (λ j l h. e j l (omega arith))) ∙ there;
    }

led_to : (at : ℕ) → waiting_ok at ≡ true → (hs : List ℕ) × LeadsTo (receiver_after fresh_receiver hs) at
led_to at ok =
    ⊎_elim
    (λ x. (
      first_pair,
      leads first_pair 56 70 at breaks_first (omega arith) (omega arith) x.0
          (λ j low high. record { waits = near_ok j (omega arith) (omega arith); not_near = λ z. omega arith; not_far = λ z. omega arith }),
    ))
    (λ x. (
      tenth_pair,
      leads tenth_pair 40 152 at breaks_tenth (omega arith) (omega arith) x.0
          (λ j low high. record { waits = far_ok j (omega arith) (omega arith); not_near = λ z. omega arith; not_far = λ z. omega arith }),
    ))
    (waits_range at ok)

-- ---- and to no other

-- only a valid receiver gives BROKEN 10
breaks_valid : (r : Receiver) (h : ℕ) → (step_of r h).event ≡ BrokenPair → receiver_ok r ≡ true
unfolding step_of judged
breaks_valid r h e = go (leb h 1) (receiver_ok r) e
  where
    go : (a b : Bool) → (pick a (pick b (takes_of r h) (says (Refused refusal.State) r)) (says (Refused refusal.Half) r)).event ≡ BrokenPair → b ≡ true
    go true true q = refl
    go true false q = absurd (let z : ◌≡◌ {A = ℕ} 0 1 = cc in omega arith)
    go false true q = refl
    go false false q = absurd (let z : ◌≡◌ {A = ℕ} 0 1 = cc in omega arith)

led_only : (from : Receiver) (at : ℕ) → 62 < at → LeadsTo from at → waiting_ok at ≡ true
led_only from at over d =
    let begun = (step_of from d.half).next in
    let s = receiver_after begun d.calls in
    let valid = run_valid begun d.calls (stays_valid from d.half (breaks_valid from d.half d.breaks)) in
    subst (λ (a : ℕ). waiting_ok a ≡ true) d.waits
    (place_waits s.at s.bits (valid_parts s valid).0 (subst (λ (a : ℕ). 62 < a) (sym d.waits) over))

-- ---- BROKEN 11 leads to none

silent : Nothing ≡ BrokenUnsupported → ⊥
silent e = let z : ◌≡◌ {A = ℕ} 0 1 = cc in omega arith

unsupported_complete : (g : Option Message) (m : Message) (past : ℕ) → (complete_of g m past).event ≡ BrokenUnsupported → ⊥
unfolding complete_of
unsupported_complete g m past e = go (is_repeat g m) e
  where
    go : (b : Bool) → (pick b (says Repeat (hunting past)) (says (Gives m) (record { past = past; at = 1; bits = 0; given = Some m }))).event ≡ BrokenUnsupported
        → ⊥
    go true q = let z : ◌≡◌ {A = ℕ} 0 1 = cc in omega arith
    go false q = let z : ◌≡◌ {A = ℕ} 0 1 = cc in omega arith

unsupported_outcome : (r : Receiver) (bits past : ℕ) (x : Reading) → (outcome_of r bits past x).event ≡ BrokenUnsupported
    → (outcome_of r bits past x).next.at ≡ 0
unsupported_outcome r bits past (Says m) e = absurd (unsupported_complete r.given m past e)
unsupported_outcome r bits past Longer e = absurd (silent e)
unsupported_outcome r bits past Unsupported e = refl

unsupported_taken : (r : Receiver) (h : ℕ) {o : Heard} → Taken r h o → o.event ≡ BrokenUnsupported → o.next.at ≡ 0
unfolding hunt_of
unsupported_taken r h (hunted t) e = absurd (silent e)
unsupported_taken r h (lapsed a) e = absurd (silent e)
unsupported_taken r h (awaited a) e = absurd (silent e)
unsupported_taken r h (first a most odd) e = absurd (silent e)
unsupported_taken r h (equal a most even same) e = absurd (let z : ◌≡◌ {A = ℕ} 0 1 = cc in omega arith)
unsupported_taken r h (ninth n d) e = unsupported_outcome r (bits_after r) (shifted r.past h) (standard_of (bits_after r)) e
unsupported_taken r h (last n d) e = absurd (unsupported_complete r.given (extended_of (bits_after r)) (shifted r.past h) e)
unsupported_taken r h (paired a most even d n n') e = absurd (silent e)

unsupported_hunts : (r : Receiver) (h : ℕ) → (step_of r h).event ≡ BrokenUnsupported → (step_of r h).next.at ≡ 0
unfolding step_of judged
unsupported_hunts r h e = go (leb h 1) (receiver_ok r) e
  where
    heard : Bool → Bool → Heard
    heard a b = pick a (pick b (takes_of r h) (says (Refused refusal.State) r)) (says (Refused refusal.Half) r)

    go : (a b : Bool) → (heard a b).event ≡ BrokenUnsupported → (heard a b).next.at ≡ 0
    go true true q = unsupported_taken r h (taken r h) q
    go true false q = absurd (let z : ◌≡◌ {A = ℕ} 0 1 = cc in omega arith)
    go false b q = absurd (let z : ◌≡◌ {A = ℕ} 0 1 = cc in omega arith)

-- ---- and a call is refused

module _ (r : Receiver) (h : ℕ) (over : 62 < r.at) (six : r.past ≤ 63) (given : given_ok r.given ≡ true) (bit : h ≤ 1) where
  -- nothing but the waiting decides
  ok_by : receiver_ok r ≡ waiting_ok r.at
  unfolding receiver_ok pairs_ok
  ok_by = rw (le-leb r.past 63 six, lt-leb r.at 22 (omega arith), lt-leb r.at 62 over, given) (and-true (waiting_ok r.at))

  event_by : (b : Bool) → receiver_ok r ≡ b → (step_of r h).event ≡ (pick b (takes_of r h) (says (Refused refusal.State) r)).event
  unfolding step_of judged
  event_by b e = rw (le-leb h 1 bit, e) refl

  taken_says : waiting_ok r.at ≡ true → (step_of r h).event ≡ Nothing
  unfolding takes_of hunt_of
  taken_says w = event_by true (ok_by ∙ w) ∙ rw (hunts_waiting r.at over) refl

  state_said : ((step_of r h).event ≡ Refused refusal.State) ↔ ((from : Receiver) → LeadsTo from r.at → ⊥)
  state_said = (to, back (waiting_ok r.at) refl)
    where
      to : (step_of r h).event ≡ Refused refusal.State → (from : Receiver) → LeadsTo from r.at → ⊥
      to e from d =
          let told : Nothing ≡ Refused refusal.State = sym (taken_says (led_only from r.at over d)) ∙ e in
          let z : ◌≡◌ {A = ℕ} 0 1 = cc in
          omega arith

      back : (b : Bool) → waiting_ok r.at ≡ b → ((from : Receiver) → LeadsTo from r.at → ⊥) → (step_of r h).event ≡ Refused refusal.State
      back true w n = let x = led_to r.at w in absurd (n (receiver_after fresh_receiver x.0) x.1)
      back false w n = event_by false (ok_by ∙ w)

pub waitings_right : WaitingsRight
waitings_right = record { all = led_only; led = led_to; unsupported = unsupported_hunts; refused = state_said }
