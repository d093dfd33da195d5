-- After an equal pair: the pairs that are left of that copy, and then the other copy's start or clear half-cycles, while a start is waited for.
--
--     Between, between_broken     where a receiver that waits stands between two pairs; after an equal pair
--     Waited, pairs_waited        pairs begin no frame, and the waiting goes on
--     ends_at, waited_starts      where the copy ends, the other's start is the one that is waited for
--     between_rests, rests_tells  clear half-cycles begin no frame
use Rattle.std.specs.Prelude.{None}
use Prim.Native.Nat.{ℕ, zero, suc, ◌+◌, ◌-◌, ◌*◌, ◌%◌, ◌≤◌, ◌<◌}
use mathlib.Core.Logic.{◌≢◌, ◌⊎◌, inl, inr, ⊎_elim}
use mathlib.Core.Path.{◌≡◌, refl, ap, subst, ◌∙◌}
use mathlib.Core.Bool.{true}
use mathlib.Core.List.{List, [], ◌∷◌}
use native.Mathlib.Decide.{dec_le, ℕ_discrete}
use native.Mathlib.Omega.{arith}
use borrow.Author.Tests.{le-leb, lt-leb}
use lib.Dec.{leb}
use lib.ListN.{length, replicate}
use Rattle.ground.specs.Choice.{pick}
use Rattle.burst.specs.Frames.{pairs_of}
use Rattle.receiver.specs.Receivers.{step_of, says, near, far, waiting, started, waiting_ok, waits_on, shifted}
use Rattle.receiver.specs.Hearing.{events_of}
use Rattle.receiver.specs.declared.Receiver.{Receiver}
use Rattle.receiver.specs.declared.Event.TheVariants.{Nothing}
use Rattle.receiver.proofs.ReceiverLaws.{waits_range, near_ok, far_ok, waits_some, waits_hunts, waits_more, waits_broken, valid_waiting}
use Rattle.receiver_laws.specs.Whole.{clear, last_six}
use Rattle.receiver_laws.specs.Inversion.{told}
use Rattle.receiver_laws.proofs.Runs.{Run, run_none, run_more, run-append}
use Rattle.receiver_laws.proofs.Steps.{NoStart, no_start_one, no_start_past, later, hunts_on, hunts_waited}
use Rattle.receiver_laws.proofs.Pasts.{paired, two_more, three_more, Bits, Clean}
use Rattle.receiver_laws.proofs.Hush.{Calm, calm_pair, calm_equal}
use Rattle.receiver_laws.proofs.FrameHeard.{Started, three_ones}
use Rattle.receiver_laws.proofs.Rests.{Rests, rested, rests_step, rests_next}
use Rattle.receiver_laws.proofs.Told.{tells, quietly}

-- The half-cycle that comes next is s+k. Where the coming pair ends s+22's start, the pair before it was not 1 1.
pub record Between (p k a : ℕ) : Type 0 where
  pub calm : Calm p
  pub even : k % 2 ≡ 0
  pub waits : waiting_ok a ≡ true
  pub place : (a ≡ near k) ⊎ (a ≡ far k)
  pub apart : a ≡ near 24 → p % 4 ≢ 3

pub between_broken : (a p x : ℕ) → 5 ≤ a → a % 2 ≡ 1 → a ≤ 61 → x ≤ 1 → Clean p
    → Between (shifted (shifted p x) x) (a + 1) (pick (leb (a + 1) 22) (near (a + 1)) (far (a + 1)))
between_broken a p x low odd high hx c = record {
  calm = calm_equal p x hx c;
  even = omega arith;
  waits = waits_broken (a + 1) (omega arith) (omega arith) (omega arith);
  place = (here (dec_le (a + 1) 22)).0;
  apart = (here (dec_le (a + 1) 22)).1;
}
  where
    here : Dec (a + 1 ≤ 22) → let b = pick (leb (a + 1) 22) (near (a + 1)) (far (a + 1)) in
        ((b ≡ near (a + 1)) ⊎ (b ≡ far (a + 1))) × (b ≡ near 24 → shifted (shifted p x) x % 4 ≢ 3)
    here (yes l) = rw (le-leb (a + 1) 22 l) (inl refl, λ e. absurd (omega arith))
    here (no n) = let over : 22 < a + 1 = omega arith in rw (lt-leb (a + 1) 22 over) (inr refl, λ e. absurd (omega arith))

-- ---- pairs

two_ones_kept : (p : ℕ) → shifted p 1 % 8 ≡ 7 → p % 4 ≡ 3
two_ones_kept p e =
    let kept : (p % 32 * 2 + 1) % 8 ≡ p % 4 * 2 + 1 = omega arith in
    omega arith

module _ (p k a b : ℕ) (B : Between p k a) (most : k ≤ 60) (hb : b ≤ 1) where
  -- before a pair a is even, and no start that is waited for ends there
  place_even : a % 2 ≡ 0
  place_even = let e = B.even in ⊎_elim (λ n. omega arith) (λ f. omega arith) B.place

  -- in its middle s+22's may end, but not s+62's
  not_far : a + 1 ≢ 193
  not_far e = let r = waits_range a B.waits in ⊎_elim (λ n. omega arith) (λ f. omega arith) B.place

  since_first : waits_on a ≡ a + 1
  since_first =
      let e = place_even in
      waits_more a (λ z. ⊎_elim (λ n. omega arith) (λ f. omega arith) (waits_range a B.waits)) (λ z. omega arith) (λ z. omega arith)

  waits_first : waiting_ok (a + 1) ≡ true
  waits_first =
      let e = place_even in
      ⊎_elim (λ n. near_ok (a + 1) (omega arith) (omega arith)) (λ f. far_ok (a + 1) (omega arith) (omega arith)) (waits_range a B.waits)

  first : step_of (waiting p a) b ≡ says Nothing (waiting (shifted p b) (a + 1))
  first =
      let e = place_even in
      let waits = waits_some B.waits in
      hunts_on (waiting p a) (valid_waiting p a B.calm.six waits) (waits_hunts a waits) b hb
      (no_start_past p a b B.calm.ones (λ z. absurd (omega arith)) (λ z. absurd (omega arith)))
      ∙ ap (λ (x : ℕ). says Nothing (waiting (shifted p b) x)) since_first

  no_start : (c : ℕ) → c ≤ 1 → NoStart (shifted p c) (a + 1) (1 - c)
  no_start zero l = no_start_one (shifted p 0) (a + 1)
  no_start (suc zero) l =
      no_start_past (shifted p 1) (a + 1) 0 (λ e. B.calm.two_ones (omega arith))
      (λ e f. B.apart (omega arith) (two_ones_kept p f)) (λ e. absurd (not_far e))
  no_start (suc (suc c)) l = absurd (omega arith)

  second : step_of (waiting (shifted p b) (a + 1)) (1 - b) ≡ says Nothing (waiting (paired p b) (waits_on (a + 1)))
  second =
      let waits = waits_some waits_first in
      hunts_on (waiting (shifted p b) (a + 1)) (valid_waiting (shifted p b) (a + 1) (omega arith) waits) (waits_hunts (a + 1) waits)
      (1 - b) (omega arith) (no_start b hb)

  pub pair_waited : Run (waiting p a) (b ∷ (1 - b) ∷ []) (Nothing ∷ Nothing ∷ []) (waiting (paired p b) (waits_on (a + 1)))
  pair_waited = run_more first (run_more second (run_none (waiting (paired p b) (waits_on (a + 1)))))

  pub between_next : Between (paired p b) (k + 2) (waits_on (a + 1))
  between_next = go (ℕ_discrete (a + 1) 89) (waits_range (a + 1) waits_first)
    where
      two_apart : paired p b % 4 ≢ 3
      two_apart = rw (two_more p b (1 - b) hb) (omega arith)

      e : k % 2 ≡ 0
      e = B.even

      go : Dec (a + 1 ≡ 89) → ((70 ≤ a + 1) × (a + 1 ≤ 89)) ⊎ ((152 ≤ a + 1) × (a + 1 ≤ 193)) → Between (paired p b) (k + 2) (waits_on (a + 1))
      go (yes z) q =
          rw z
          (record {
            calm = calm_pair p b hb;
            even = omega arith;
            waits = refl;
            place = ⊎_elim (λ n. inr (omega arith)) (λ f. absurd (omega arith)) B.place;
            apart = λ x. two_apart;
          })
      go (no z) q =
          let more = waits_more (a + 1) (omega arith) z not_far in
          let on : waiting_ok (a + 1 + 1) ≡ true =
          ⊎_elim (λ n. near_ok (a + 1 + 1) (omega arith) (omega arith)) (λ f. far_ok (a + 1 + 1) (omega arith) (omega (arith, not_far))) q in
          rw more
          (record {
            calm = calm_pair p b hb;
            even = omega arith;
            waits = on;
            place = ⊎_elim (λ n. inl (omega arith)) (λ f. inr (omega arith)) B.place;
            apart = λ x. two_apart;
          })

-- where it waits after pairs
pub record Waited (p k a : ℕ) (bs : List ℕ) : Type 0 where
  pub at : ℕ
  pub run : Run (waiting p a) (pairs_of bs) (replicate (length (pairs_of bs)) Nothing) (waiting (last_six p (pairs_of bs)) at)
  pub between : Between (last_six p (pairs_of bs)) (k + 2 * length bs) at

pub pairs_waited : (bs : List ℕ) (p k a : ℕ) → Bits bs → Between p k a → k + 2 * length bs ≤ 62 → Waited p k a bs
unfolding pairs_of last_six
pairs_waited [] p k a hb B l =
    let none : k ≡ k + 2 * 0 = omega arith in
    record { at = a; run = run_none (waiting p a); between = subst (λ (n : ℕ). Between p n a) none B }
pairs_waited (b ∷ bs) p k a hb B l =
    let most : k ≤ 60 = omega arith in
    let w = pairs_waited bs (paired p b) (k + 2) (waits_on (a + 1)) hb.1 (between_next p k a b B most hb.0) (omega arith) in
    let further : k + 2 + 2 * length bs ≡ k + 2 * suc (length bs) = omega arith in
    record {
      at = w.at;
      run = run-append (pair_waited p k a b B most hb.0) w.run;
      between = subst (λ (n : ℕ). Between (last_six (paired p b) (pairs_of bs)) n w.at) further w.between;
    }

-- ---- the start that is waited for

-- the copy ends at s+22 or at s+62, and so does what is waited for
pub ends_at : {p k a : ℕ} → Between p k a → (k ≡ 22) ⊎ (k ≡ 62) → (a ≡ near 22) ⊎ (a ≡ far 62)
ends_at {p} {k} {a} B (inl e) =
    ⊎_elim (λ n. inl (omega arith)) (λ f. absurd (⊎_elim (λ x. omega arith) (λ x. omega arith) (waits_range a B.waits))) B.place
ends_at {p} {k} {a} B (inr e) =
    ⊎_elim (λ n. absurd (⊎_elim (λ x. omega arith) (λ x. omega arith) (waits_range a B.waits))) (λ f. inr (omega arith)) B.place

-- three half-cycles later its fourth comes
fourth_at : (a : ℕ) → (a ≡ near 22) ⊎ (a ≡ far 62) → let b = waits_on (waits_on (waits_on a)) in (b ≡ near 25) ⊎ (b ≡ far 65)
fourth_at a (inl e) = inl (rw e refl)
fourth_at a (inr e) = inr (rw e refl)

pub waited_starts : (p a : ℕ) → p ≤ 63 → waiting_ok a ≡ true → (a ≡ near 22) ⊎ (a ≡ far 62) → Started (waiting p a) None
unfolding last_six
waited_starts p a hp w e =
    let waits = waits_some w in
    let ones = three_ones (waiting p a) (valid_waiting p a hp waits) (waits_hunts a waits) in
    let s = later (later (later (waiting p a) 1) 1) 1 in
    let three : s.past % 8 ≡ 7 = rw (three_more p 1 1 1 (omega arith)) (omega arith) in
    run-append ones.run
    (run_more (hunts_waited s ones.valid ones.hunts (fourth_at a e) three) (run_none (started (shifted s.past 0))))

-- ---- clear half-cycles

pub between_rests : {p k a : ℕ} → Between p k a → k ≢ 64 → Rests 0 (waiting p a)
between_rests {p} {k} {a} B n =
    let waits = waits_some B.waits in
    let e = B.even in
    record {
      valid = valid_waiting p a B.calm.six waits;
      hunts = waits_hunts a waits;
      unstarted = no_start_past p a 0 B.calm.ones
          (λ z. absurd (⊎_elim (λ x. omega arith) (λ x. omega arith) B.place)) (λ z. absurd (⊎_elim (λ x. omega arith) (λ x. omega arith) B.place));
      one = λ l. absurd (omega arith);
      two = λ l. absurd (omega arith);
      three = λ l. absurd (omega arith);
    }

pub rests_tells : (y c : ℕ) (r : Receiver) → Rests c r → tells r (clear y) ≡ []
unfolding told events_of
rests_tells zero c r h = refl
rests_tells (suc y) c r h = quietly (clear y) (run_more (rests_step h) (run_none (rested r))) refl ∙ rests_tells y (suc c) (rested r) (rests_next h)
