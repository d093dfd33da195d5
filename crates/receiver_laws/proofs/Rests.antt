-- A receiver on a clear line: it hunts and says nothing, and after three clear half-cycles it is ready for a burst.
--
--     Rests, rests_fresh, ready_rests, rests_hunting     has heard c clear half-cycles in a row
--     rested, rests_step, rests_next                     one more
--     rests_ready                                        three are enough
use Prim.Native.Nat.{ℕ, suc, ◌%◌, ◌≤◌}
use mathlib.Core.Logic.{◌≢◌}
use mathlib.Core.Path.{◌≡◌, refl}
use mathlib.Core.Bool.{true}
use native.Mathlib.Omega.{arith}
use Rattle.receiver.specs.Receivers.{step_of, says, hunting, is_hunting, waits_on, shifted, receiver_ok, fresh_receiver}
use Rattle.receiver.proofs.ReceiverLaws.{Waits, valid_parts, hunts_waits, waits_next, waits_hunts, valid_waiting}
use Rattle.receiver.specs.declared.Receiver.{Receiver}
use Rattle.receiver.specs.declared.Event.TheVariants.{Nothing}
use Rattle.receiver_laws.specs.Whole.{Ready}
use Rattle.receiver_laws.proofs.Steps.{hunting_ok, NoStart, no_start_past, no_start_plain, later, hunts_on}

-- A valid hunting receiver, with a start waited for or none, that has heard c clear half-cycles or more in a row; a 0 begins no frame.
pub record Rests (c : ℕ) (r : Receiver) : Type 0 where
  pub valid : receiver_ok r ≡ true
  pub hunts : is_hunting r.at ≡ true
  pub unstarted : NoStart r.past r.at 0
  pub one : 1 ≤ c → r.past % 2 ≡ 0
  pub two : 2 ≤ c → r.past % 4 ≡ 0
  pub three : 3 ≤ c → r.past % 8 ≡ 0

-- one of which no clear half-cycle is known
pub rests_hunting : (p : ℕ) → p ≤ 63 → p ≢ 7 → Rests 0 (hunting p)
rests_hunting p hp n = record {
  valid = hunting_ok p hp;
  hunts = refl;
  unstarted = no_start_plain p 0 n;
  one = λ l. absurd (omega arith);
  two = λ l. absurd (omega arith);
  three = λ l. absurd (omega arith);
}

pub rests_fresh : Rests 0 fresh_receiver
rests_fresh = rests_hunting 63 (omega arith) (omega arith)

pub ready_rests : (r : Receiver) → Ready r → Rests 3 r
ready_rests r h = record {
  valid = h.valid;
  hunts = h.hunts;
  unstarted = no_start_past r.past r.at 0 (λ e. omega (arith, h.cleared)) (λ e f. omega (arith, h.cleared)) (λ e f. omega (arith, h.cleared));
  one = λ l. omega (arith, h.cleared);
  two = λ l. omega (arith, h.cleared);
  three = λ l. h.cleared;
}

pub rests_ready : (c : ℕ) (r : Receiver) → 3 ≤ c → Rests c r → Ready r
rests_ready c r l h = record { valid = h.valid; hunts = h.hunts; cleared = h.three l }

-- after one more
abbrev pub rested : Receiver → Receiver
rested r = later r 0

pub rests_step : {c : ℕ} {r : Receiver} → Rests c r → step_of r 0 ≡ says Nothing (rested r)
rests_step {r = r} h = hunts_on r h.valid h.hunts 0 (omega arith) h.unstarted

pub later_waits : (r : Receiver) → receiver_ok r ≡ true → is_hunting r.at ≡ true → Waits (waits_on r.at)
later_waits r v e = waits_next r.at (hunts_waits r.at r.bits (valid_parts r v).0 e)

pub rests_next : {c : ℕ} {r : Receiver} → Rests c r → Rests (suc c) (rested r)
rests_next {c} {r} h = let waits = later_waits r h.valid h.hunts in record {
  valid = valid_waiting (shifted r.past 0) (waits_on r.at) (omega arith) waits;
  hunts = waits_hunts (waits_on r.at) waits;
  unstarted = no_start_past (shifted r.past 0) (waits_on r.at) 0 (omega arith) (λ e. omega arith) (λ e. omega arith);
  one = λ l. omega arith;
  two = λ l. let e = h.one (omega arith) in omega arith;
  three = λ l. let e = h.two (omega arith) in omega arith;
}
