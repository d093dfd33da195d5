-- How a frame begins in the hunt, by the receiver's fields: what is waited for moves on with each half-cycle, and where a start is due the list is as
-- long as the grammar asks.
--
--     place_hunts, place_next             `at` while it hunts: it is one of the hunt's; after one half-cycle more
--     place_broken                        and after an equal pair
--     Since, since_next, since_broken     what broke began before
--     due_early, due_late                 where a start is due
--     Found, found_begins, begins_found   a frame begins exactly where the receiver finds a start
use Prim.Native.Nat.{ℕ, suc, ◌+◌, ◌-◌, ◌*◌, ◌%◌, ◌≤◌}
use mathlib.Core.Logic.{◌⊎◌, inl, inr, ⊎_elim}
use mathlib.Core.Path.{◌≡◌, refl, ap, ◌∙◌}
use mathlib.Core.Bool.{Bool, true, false, ◌&&◌, ◌||◌, and-eq-true_iff, or-true}
use mathlib.Core.List.{List, [], ◌∷◌, ◌++◌}
use native.Mathlib.Decide.{ℕ_discrete, dec_le}
use native.Mathlib.Omega.{arith}
use borrow.Author.Tests.{le-leb, lt-leb, eq-eqb, eqb-true}
use lib.Dec.{eqb, leb}
use lib.ListN.{length, length-append}
use Rattle.ground.specs.Choice.{pick}
use Rattle.receiver.specs.Receivers.{near, far, is_hunting, start_hunted, start_waited, waits_on}
use Rattle.receiver.proofs.ReceiverLaws.{hunts_waiting, waits_more}
use Rattle.receiver_laws.proofs.Pasts.{Bits}
use Rattle.receiver_reading.specs.Reading.{EndsIn, StartAt, hunted_start, Broke, none, early, late, broke_at, Begins}
use Rattle.receiver_reading.specs.Standing.{past_of, place_early, place_late, place_of}
use Rattle.receiver_reading.proofs.Histories.{seven_ends, ends_seven, start_ends, ends_start}

-- ---- `at` while it hunts

late_hunts : (k : ℕ) → is_hunting (place_late k) ≡ true
late_hunts k = go (dec_le k 65)
  where
    go : Dec (k ≤ 65) → is_hunting (place_late k) ≡ true
    go (yes l) = rw (le-leb k 65 l) (hunts_waiting (far k) (omega arith))
    go (no n) = rw (lt-leb k 65 (omega arith)) refl

early_hunts : (k : ℕ) → is_hunting (place_early k) ≡ true
early_hunts k = go (dec_le k 25)
  where
    go : Dec (k ≤ 25) → is_hunting (place_early k) ≡ true
    go (yes l) = rw (le-leb k 25 l) (hunts_waiting (near k) (omega arith))
    go (no n) = rw (lt-leb k 25 (omega arith)) (late_hunts k)

pub place_hunts : (o : Broke) (n : ℕ) → is_hunting (place_of o n) ≡ true
place_hunts none n = refl
place_hunts (early s) n = early_hunts (n - s)
place_hunts (late s) n = late_hunts (n - s)

-- after one half-cycle more: at s+65 the waiting ends, and at s+25 it goes on to s+62
late_next : (k : ℕ) → waits_on (place_late k) ≡ place_late (suc k)
late_next k = go (dec_le k 64) (ℕ_discrete k 65)
  where
    go : Dec (k ≤ 64) → Dec (k ≡ 65) → waits_on (place_late k) ≡ place_late (suc k)
    go (yes l) d =
        rw (le-leb k 65 (omega arith), le-leb (suc k) 65 (omega arith))
        (waits_more (far k) (λ e. omega arith) (λ e. omega arith) (λ e. omega arith) ∙ omega arith)
    go (no l) (yes e) = rw e refl
    go (no l) (no d) = rw (lt-leb k 65 (omega arith), lt-leb (suc k) 65 (omega arith)) refl

early_next : (k : ℕ) → waits_on (place_early k) ≡ place_early (suc k)
early_next k = go (dec_le k 24) (ℕ_discrete k 25)
  where
    go : Dec (k ≤ 24) → Dec (k ≡ 25) → waits_on (place_early k) ≡ place_early (suc k)
    go (yes l) d =
        rw (le-leb k 25 (omega arith), le-leb (suc k) 25 (omega arith))
        (waits_more (near k) (λ e. omega arith) (λ e. omega arith) (λ e. omega arith) ∙ omega arith)
    go (no l) (yes e) = rw e refl
    go (no l) (no d) = rw (lt-leb k 25 (omega arith), lt-leb (suc k) 25 (omega arith)) (late_next k)

-- the frame that broke began among the n half-cycles that came
abbrev pub Since : Broke → ℕ → Type 0
Since none n = Unit {0}
Since (early s) n = s ≤ n
Since (late s) n = s ≤ n

pub place_next : (o : Broke) (n : ℕ) → Since o n → waits_on (place_of o n) ≡ place_of o (suc n)
place_next none n l = refl
place_next (early s) n l = let e : suc (n - s) ≡ suc n - s = omega arith in early_next (n - s) ∙ ap place_early e
place_next (late s) n l = let e : suc (n - s) ≡ suc n - s = omega arith in late_next (n - s) ∙ ap place_late e

pub since_next : (o : Broke) (n : ℕ) → Since o n → Since o (suc n)
since_next none n l = tt
since_next (early s) n l = omega arith
since_next (late s) n l = omega arith

-- n whole pairs and an equal one since the start that began at s
pub place_broken : (s n m a : ℕ) → n ≤ 28 → a ≡ 6 + 2 * n → m ≡ s + a → pick (leb a 22) (near a) (far a) ≡ place_of (broke_at s n) m
place_broken s n m a most e f = go (dec_le n 8)
  where
    k : m - s ≡ a
    k = omega arith

    go : Dec (n ≤ 8) → pick (leb a 22) (near a) (far a) ≡ place_of (broke_at s n) m
    go (yes l) = rw (le-leb n 8 l, le-leb a 22 (omega arith), k, le-leb a 25 (omega arith))
    go (no l) = rw (lt-leb n 8 (omega arith), lt-leb a 22 (omega arith), k, le-leb a 65 (omega arith))

pub since_broken : (s n m : ℕ) → s ≤ m → Since (broke_at s n) m
since_broken s n m l = go (leb n 8)
  where
    go : (b : Bool) → Since (pick b (early s) (late s)) m
    go true = l
    go false = l

-- ---- where a start is due

-- `at` is 89 or 193 where a waited start's last half-cycle comes next, as `start_waited` has it
due_late : (k : ℕ) → (place_late k ≡ 89) ⊎ (place_late k ≡ 193) → k ≡ 65
due_late k d = go (dec_le k 65) d
  where
    go : Dec (k ≤ 65) → (place_late k ≡ 89) ⊎ (place_late k ≡ 193) → k ≡ 65
    go (yes l) = rw (le-leb k 65 l) (λ q. ⊎_elim (λ e. absurd (omega arith)) (λ e. omega arith) q)
    go (no l) = rw (lt-leb k 65 (omega arith)) (λ q. ⊎_elim (λ e. absurd (omega arith)) (λ e. absurd (omega arith)) q)

due_early : (k : ℕ) → (place_early k ≡ 89) ⊎ (place_early k ≡ 193) → (k ≡ 25) ⊎ (k ≡ 65)
due_early k d = go (dec_le k 25) d
  where
    go : Dec (k ≤ 25) → (place_early k ≡ 89) ⊎ (place_early k ≡ 193) → (k ≡ 25) ⊎ (k ≡ 65)
    go (yes l) = rw (le-leb k 25 l) (λ q. ⊎_elim (λ e. inl (omega arith)) (λ e. absurd (omega arith)) q)
    go (no l) = rw (lt-leb k 25 (omega arith)) (λ q. inr (due_late k q))

-- ---- a frame begins

-- the receiver finds a start
abbrev pub Found : ℕ → ℕ → ℕ → Type 0
Found p a h = (start_hunted p h || start_waited p a h) ≡ true

either : (a b : Bool) → (a || b) ≡ true → (a ≡ true) ⊎ (b ≡ true)
either true b t = inl refl
either false b t = inr t

-- in the first way or in the second
found_hunted : (p a h : ℕ) → (p ≡ 7) × (h ≡ 0) → Found p a h
found_hunted p a h e = rw (eq-eqb p 7 e.0, eq-eqb h 0 e.1) refl

found_waited : (p a h : ℕ) → (a ≡ 89) ⊎ (a ≡ 193) → (p % 8 ≡ 7) × (h ≡ 0) → Found p a h
found_waited p a h d e =
    let due : (eqb a 89 || eqb a 193) ≡ true = ⊎_elim (λ x. rw (eq-eqb a 89 x)) (λ x. rw (eq-eqb a 193 x, or-true (eqb a 89))) d in
    rw (due, eq-eqb (p % 8) 7 e.0, eq-eqb h 0 e.1, or-true (eqb p 7 && true))

module _ (hs : List ℕ) (h : ℕ) where
  module _ (b : Bits hs) where
    hunted_ends : start_hunted (past_of hs) h ≡ true → EndsIn hunted_start (hs ++ h ∷ [])
    hunted_ends t =
        let p = (and-eq-true_iff (eqb (past_of hs) 7) (eqb h 0)).0 t in
        rw (eqb-true h 0 p.1) (seven_ends hs b (eqb-true (past_of hs) 7 p.0))

    -- as many half-cycles since s, and 1 1 1 before a 0
    start_at : (s d : ℕ) → length hs - s ≡ d + 3 → (eqb (past_of hs % 8) 7 && eqb h 0) ≡ true → StartAt (s + d) (hs ++ h ∷ [])
    start_at s d e t =
        let p = (and-eq-true_iff (eqb (past_of hs % 8) 7) (eqb h 0)).0 t in
        (rw (eqb-true h 0 p.1) (start_ends hs b (omega arith) (eqb-true (past_of hs % 8) 7 p.0)), omega (arith, length-append hs (h ∷ [])))

    -- the start that is waited for: it is due, and the last four are 1 1 1 0
    waited_due : (a : ℕ) → start_waited (past_of hs) a h ≡ true → ((a ≡ 89) ⊎ (a ≡ 193)) × ((eqb (past_of hs % 8) 7 && eqb h 0) ≡ true)
    waited_due a t =
        let p = (and-eq-true_iff (eqb a 89 || eqb a 193) (eqb (past_of hs % 8) 7 && eqb h 0)).0 t in
        (⊎_elim (λ x. inl (eqb-true a 89 x)) (λ x. inr (eqb-true a 193 x)) (either (eqb a 89) (eqb a 193) p.0), p.1)

    waited_begins : (o : Broke) → start_waited (past_of hs) (place_of o (length hs)) h ≡ true → Begins o (hs ++ h ∷ [])
    waited_begins none t = ⊎_elim (λ e. absurd (omega arith)) (λ e. absurd (omega arith)) (waited_due 0 t).0
    waited_begins (early s) t =
        let w = waited_due (place_of (early s) (length hs)) t in
        inr (⊎_elim (λ e. inl (start_at s 22 e w.1)) (λ e. inr (start_at s 62 e w.1)) (due_early (length hs - s) w.0))
    waited_begins (late s) t =
        let w = waited_due (place_of (late s) (length hs)) t in
        inr (start_at s 62 (due_late (length hs - s) w.0) w.1)

    hunted_begins : (o : Broke) → EndsIn hunted_start (hs ++ h ∷ []) → Begins o (hs ++ h ∷ [])
    hunted_begins none e = e
    hunted_begins (early s) e = inl e
    hunted_begins (late s) e = inl e

    pub found_begins : (o : Broke) → Found (past_of hs) (place_of o (length hs)) h → Begins o (hs ++ h ∷ [])
    found_begins o f =
        ⊎_elim (λ t. hunted_begins o (hunted_ends t)) (λ t. waited_begins o t)
        (either (start_hunted (past_of hs) h) (start_waited (past_of hs) (place_of o (length hs)) h) f)

  -- a start at s+22 or at s+62 ends with the half-cycle s+25 or s+65
  start_due : (s d : ℕ) → StartAt (s + d) (hs ++ h ∷ []) → length hs - s ≡ d + 3
  start_due s d t = omega (arith, length-append hs (h ∷ []), t.1)

  pub begins_found : (o : Broke) → Begins o (hs ++ h ∷ []) → Found (past_of hs) (place_of o (length hs)) h
  begins_found none e = found_hunted (past_of hs) 0 h (ends_seven hs h e)
  begins_found (early s) (inl e) = found_hunted (past_of hs) (place_of (early s) (length hs)) h (ends_seven hs h e)
  begins_found (early s) (inr (inl t)) =
      found_waited (past_of hs) (place_of (early s) (length hs)) h (inl (ap place_early (start_due s 22 t))) (ends_start hs h t.0)
  begins_found (early s) (inr (inr t)) =
      found_waited (past_of hs) (place_of (early s) (length hs)) h (inr (ap place_early (start_due s 62 t))) (ends_start hs h t.0)
  begins_found (late s) (inl e) = found_hunted (past_of hs) (place_of (late s) (length hs)) h (ends_seven hs h e)
  begins_found (late s) (inr t) =
      found_waited (past_of hs) (place_of (late s) (length hs)) h (inr (ap place_late (start_due s 62 t))) (ends_start hs h t.0)
