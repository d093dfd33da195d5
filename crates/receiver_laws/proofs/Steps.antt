-- One half-cycle of 0 or 1 to a valid receiver, by where it stands.
--
--     standing, standing_ok, hunting_ok        a receiver by its fields; these are valid
--     NoStart, no_start_one, no_start_past, no_start_plain      the half-cycle completes neither 0 0 0 1 1 1 0 nor the start that is waited for
--     later, hunts_on, hunts_start, hunts_waited                hunting, without a start, with one, and with that which is waited for
--     step_wanted, step_unwanted               awaiting: the half-cycle that must come, and another
--     step_first, step_second, step_equal      in the pairs: a pair's first half-cycle, and its second, different or equal
use Rattle.std.specs.Prelude.{Option, None}
use Prim.Native.Nat.{ℕ, ◌+◌, ◌*◌, ◌%◌, ◌^◌, ◌≤◌}
use mathlib.Core.Logic.{◌≢◌, ◌⊎◌, ⊎_elim}
use mathlib.Core.Path.{◌≡◌, refl, ◌∙◌}
use mathlib.Core.Bool.{true, false, ◌&&◌, ◌||◌, and-false, or-true}
use native.Mathlib.Decide.{ℕ_discrete}
use native.Mathlib.Omega.{arith}
use borrow.Author.Tests.{le-leb, lt-leb, eq-eqb, ne_eqb}
use lib.Dec.{eqb, leb}
use Rattle.ground.specs.Choice.{pick}
use Rattle.ground.specs.Refusals.{judged}
use Rattle.message.specs.declared.Message.{Message}
use Rattle.receiver.specs.Receivers.{step_of, takes_of, hunt_of, await_of, read_of, pair_of, says, waiting, hunting, started, broken, shifted}
use Rattle.receiver.specs.Receivers.{start_hunted, start_waited, waits_on, is_hunting, receiver_ok, pairs_ok, given_ok}
use Rattle.receiver.proofs.ReceiverLaws.{hunts_not}
use Rattle.receiver.specs.declared.Receiver.{Receiver}
use Rattle.receiver.specs.declared.Event.TheVariants.{Nothing, BrokenPair}

abbrev pub standing : Option Message → ℕ → ℕ → ℕ → Receiver
standing given past at bits = record { past = past; at = at; bits = bits; given = given }

pub standing_ok : (g : Option Message) (p a b : ℕ) → given_ok g ≡ true → p ≤ 63 → pairs_ok a b ≡ true → receiver_ok (standing g p a b) ≡ true
unfolding receiver_ok
standing_ok g p a b hg hp hb = rw (le-leb p 63 hp, hb, hg)

pub hunting_ok : (p : ℕ) → p ≤ 63 → receiver_ok (hunting p) ≡ true
unfolding pairs_ok
hunting_ok p hp = standing_ok None p 0 0 refl hp refl

step_valid : (r : Receiver) (h : ℕ) → receiver_ok r ≡ true → h ≤ 1 → step_of r h ≡ takes_of r h
unfolding step_of judged
step_valid r h v b = rw (le-leb h 1 b, v)

-- ---- hunting

abbrev pub NoStart : ℕ → ℕ → ℕ → Type 0
NoStart past at h = (start_hunted past h || start_waited past at h) ≡ false

pub no_start_one : (p a : ℕ) → NoStart p a 1
no_start_one p a = rw (and-false (eqb p 7), and-false (eqb (p % 8) 7), and-false (eqb a 89 || eqb a 193))

-- not after 0 0 0 1 1 1, nor after 1 1 1 where the start that is waited for would end here
pub no_start_past : (p a h : ℕ) → p ≢ 7 → (a ≡ 89 → p % 8 ≢ 7) → (a ≡ 193 → p % 8 ≢ 7) → NoStart p a h
no_start_past p a h n x y = go (ℕ_discrete a 89) (ℕ_discrete a 193)
  where
    go : Dec (a ≡ 89) → Dec (a ≡ 193) → NoStart p a h
    go (yes e) q = rw (ne_eqb p 7 n, ne_eqb (p % 8) 7 (x e), and-false (eqb a 89 || eqb a 193))
    go (no d) (yes e) = rw (ne_eqb p 7 n, ne_eqb (p % 8) 7 (y e), and-false (eqb a 89 || eqb a 193))
    go (no d) (no f) = rw (ne_eqb p 7 n, ne_eqb a 89 d, ne_eqb a 193 f)

-- where none is waited for
pub no_start_plain : (p h : ℕ) → p ≢ 7 → NoStart p 0 h
no_start_plain p h n = no_start_past p 0 h n (λ e. absurd (omega arith)) (λ e. absurd (omega arith))

-- one half-cycle later
abbrev pub later : Receiver → ℕ → Receiver
later r h = waiting (shifted r.past h) (waits_on r.at)

hunt_on : (p a h : ℕ) → NoStart p a h → hunt_of p a h ≡ says Nothing (waiting (shifted p h) (waits_on a))
unfolding hunt_of
hunt_on p a h n = rw n

module _ (r : Receiver) (v : receiver_ok r ≡ true) (e : is_hunting r.at ≡ true) where
  hunts : (h : ℕ) → h ≤ 1 → step_of r h ≡ hunt_of r.past r.at h
  unfolding takes_of
  hunts h b = step_valid r h v b ∙ rw e

  pub hunts_on : (h : ℕ) → h ≤ 1 → NoStart r.past r.at h → step_of r h ≡ says Nothing (later r h)
  hunts_on h b n = hunts h b ∙ hunt_on r.past r.at h n

  pub hunts_start : r.past ≡ 7 → step_of r 0 ≡ says Nothing (started (shifted r.past 0))
  unfolding hunt_of
  hunts_start s = hunts 0 (omega arith) ∙ rw (eq-eqb r.past 7 s)

  pub hunts_waited : (r.at ≡ 89) ⊎ (r.at ≡ 193) → r.past % 8 ≡ 7 → step_of r 0 ≡ says Nothing (started (shifted r.past 0))
  unfolding hunt_of
  hunts_waited d s =
      let here : (eqb r.at 89 || eqb r.at 193) ≡ true =
      ⊎_elim (λ x. rw (eq-eqb r.at 89 x)) (λ x. rw (eq-eqb r.at 193 x, or-true (eqb r.at 89))) d in
      hunts 0 (omega arith) ∙ rw (here, eq-eqb (r.past % 8) 7 s, or-true (eqb r.past 7 && true))

-- ---- awaiting and in the pairs

module _ (g : Option Message) (p a b h : ℕ) (v : receiver_ok (standing g p a b) ≡ true) (hh : h ≤ 1) where
  module _ (low : 1 ≤ a) (high : a ≤ 4) where
    awaits : step_of (standing g p a b) h ≡ await_of (standing g p a b) h
    unfolding takes_of
    awaits = step_valid (standing g p a b) h v hh ∙ rw (hunts_not a (λ e. omega arith) (omega arith), le-leb a 4 high)

    pub step_wanted : h ≡ pick (leb a 3) 1 0 → step_of (standing g p a b) h ≡ says Nothing (standing g (shifted p h) (a + 1) 0)
    unfolding await_of
    step_wanted e = awaits ∙ rw (eq-eqb h (pick (leb a 3) 1 0) e)

    pub step_unwanted : h ≢ pick (leb a 3) 1 0 → NoStart p 0 h → step_of (standing g p a b) h ≡ says Nothing (hunting (shifted p h))
    unfolding await_of
    step_unwanted e n = awaits ∙ rw (ne_eqb h (pick (leb a 3) 1 0) e) (hunt_on p 0 h n)

  module _ (low : 5 ≤ a) (high : a ≤ 62) where
    reads : step_of (standing g p a b) h ≡ read_of (standing g p a b) h
    unfolding takes_of
    reads = step_valid (standing g p a b) h v hh ∙ rw (hunts_not a (λ e. omega arith) high, lt-leb a 4 low)

    pub step_first : a % 2 ≡ 1 → step_of (standing g p a b) h ≡ says Nothing (standing g (shifted p h) (a + 1) b)
    unfolding read_of
    step_first e = reads ∙ rw (eq-eqb (a % 2) 1 e)

    pub step_second : a % 2 ≡ 0 → p % 2 ≢ h → step_of (standing g p a b) h ≡ pair_of (standing g p a b) (b % 2 ^ 28 * 2 + p % 2) (shifted p h)
    unfolding read_of
    step_second e n = reads ∙ rw (ne_eqb (a % 2) 1 (λ o. omega arith), ne_eqb (p % 2) h n)

    pub step_equal : a % 2 ≡ 0 → p % 2 ≡ h → step_of (standing g p a b) h ≡ says BrokenPair (broken (shifted p h) a)
    unfolding read_of
    step_equal e q = reads ∙ rw (ne_eqb (a % 2) 1 (λ o. omega arith), eq-eqb (p % 2) h q)
