-- A frame is heard whole, by a receiver that is ready and by one that awaits the second copy.
--
--     Before, reading                          where a receiver stands before a pair of m's frame
--     first_half, second_half, equal_half      the half-cycles of a pair, and of one that is equal
--     before_next, reads_pair, hears_pairs     a pair that others follow; all pairs, by induction on the bits left
--     Started, Ones, three_ones, ready_starts, awaiting_starts   the start 1 1 1 0
--     Awaited, awaits_on, awaits_off           a half-cycle of the awaited start, and another
--     hears_frame, hears_repeat                the frame of a valid message
use Rattle.std.specs.Prelude.{Option, Some, None}
use Prim.Native.Nat.{ℕ, zero, suc, ◌+◌, ◌-◌, ◌*◌, ◌/◌, ◌%◌, ◌^◌, ◌≤◌}
use mathlib.Core.Logic.{◌≢◌}
use mathlib.Core.Path.{◌≡◌, refl, ap, ◌∙◌}
use mathlib.Core.Bool.{true}
use mathlib.Core.List.{[], ◌∷◌, ◌++◌}
use native.Mathlib.Nat.{div-one}
use native.Mathlib.Omega.{arith}
use lib.Dec.{leb}
use lib.ListN.{replicate}
use Rattle.ground.specs.Choice.{pick}
use Rattle.message.specs.Messages.{message_ok}
use Rattle.message.specs.Words.{word_of}
use Rattle.message.specs.declared.Message.{Message}
use Rattle.message.proofs.CodeLaws.{same_is_equal}
use Rattle.burst.specs.Frames.{bits_of, pairs_of, frame_of}
use Rattle.receiver.specs.Receivers.{step_of, pair_of, complete_of, says, hunting, started, broken, is_hunting, waits_on, shifted, receiver_ok, given_ok}
use Rattle.receiver.proofs.ReceiverLaws.{waits_hunts, valid_waiting}
use Rattle.receiver.specs.declared.Receiver.{Receiver}
use Rattle.receiver.specs.declared.Event.TheVariants.{Nothing, Message as Gives, Repeat, BrokenPair}
use Rattle.receiver_laws.specs.Whole.{Ready, frame_events, last_six}
use Rattle.receiver_laws.proofs.Runs.{Run, run_none, run_more, run-append}
use Rattle.receiver_laws.proofs.Steps.{standing, standing_ok, NoStart, no_start_one, later, hunts_on, hunts_start, step_wanted, step_unwanted}
use Rattle.receiver_laws.proofs.Steps.{step_first, step_second, step_equal}
use Rattle.receiver_laws.proofs.Rests.{later_waits}
use Rattle.receiver_laws.proofs.FrameBits.{Framed, twice, one_more_bit, pairs_few}
use Rattle.receiver_laws.proofs.Pasts.{start, paired}

-- ---- the pairs

-- at a before a pair after which i bits are left, the last six half-cycles being p
pub record Before {m : Message} (F : Framed m) (i a p : ℕ) : Type 0 where
  pub place : a + 2 * suc i ≡ 7 + 2 * F.rest
  pub within : i ≤ F.rest
  pub six : p ≤ 63

abbrev pub reading : Message → Option Message → ℕ → ℕ → ℕ → Receiver
reading m g i a p = standing g p a (word_of m / 2 ^ suc i)

abbrev pub bit : Message → ℕ → ℕ
bit m i = word_of m / 2 ^ i % 2

module _ (m : Message) (F : Framed m) (g : Option Message) (ok : given_ok g ≡ true) where
  module _ (i a p : ℕ) (h : Before F i a p) (x : ℕ) (hx : x ≤ 1) where
    valid : (b q : ℕ) → (a ≤ b) × (b ≤ a + 1) × (q ≤ 63) → receiver_ok (reading m g i b q) ≡ true
    valid b q l = standing_ok g q b (word_of m / 2 ^ suc i) ok l.2 (F.pairs i b (omega arith) (omega arith))

    pub first_half : step_of (reading m g i a p) x ≡ says Nothing (reading m g i (a + 1) (shifted p x))
    first_half = step_first g p a (word_of m / 2 ^ suc i) x (valid a p (omega arith)) hx (omega arith) (omega arith) (omega arith)

    pub equal_half : step_of (reading m g i (a + 1) (shifted p x)) x ≡ says BrokenPair (broken (shifted (shifted p x) x) (a + 1))
    equal_half =
        step_equal g (shifted p x) (a + 1) (word_of m / 2 ^ suc i) x (valid (a + 1) (shifted p x) (omega arith)) hx
        (omega arith) (omega arith) (omega arith) (omega arith)

    pub second_half : x ≡ bit m i
        → step_of (reading m g i (a + 1) (shifted p x)) (1 - x) ≡ pair_of (reading m g i (a + 1) (shifted p x)) (word_of m / 2 ^ i) (paired p x)
    second_half e =
        let same : (p % 32 * 2 + x) % 2 ≡ word_of m / 2 ^ i % 2 = omega arith in
        step_second g (shifted p x) (a + 1) (word_of m / 2 ^ suc i) (1 - x)
        (valid (a + 1) (shifted p x) (omega arith)) (omega arith) (omega arith) (omega arith) (omega arith) (omega arith)
        ∙ ap (λ (b : ℕ). pair_of (reading m g i (a + 1) (shifted p x)) b (paired p x))
        (ap (λ (y : ℕ). word_of m / 2 ^ suc i % 2 ^ 28 * 2 + y) same ∙ one_more_bit (word_of m) i F.small)

  module _ (i a p : ℕ) (h : Before F (suc i) a p) where
    pub before_next : Before F i (a + 1 + 1) (paired p (bit m (suc i)))
    before_next = omega arith

    pub reads_pair : let x = bit m (suc i) in Run (reading m g (suc i) a p) (x ∷ (1 - x) ∷ []) (Nothing ∷ Nothing ∷ []) (reading m g i (a + 1 + 1) (paired p x))
    reads_pair =
        let x = bit m (suc i) in
        run_more (first_half (suc i) a p h x (omega arith))
        (run_more
        (second_half (suc i) a p h x (omega arith) refl ∙ F.more g (shifted p x) (paired p x) i a (word_of m / 2 ^ suc (suc i)) h.place)
        (run_none (reading m g i (a + 1 + 1) (paired p x))))

  pub hears_pairs : (i a p : ℕ) → Before F i a p
      → let heard = complete_of g m (last_six p (pairs_of (bits_of (suc i) (word_of m)))) in
      Run (reading m g i a p) (pairs_of (bits_of (suc i) (word_of m))) (replicate (suc (twice i)) Nothing ++ heard.event ∷ []) heard.next
  unfolding pairs_of bits_of last_six
  hears_pairs zero a p h =
      let x = bit m zero in
      let q = paired p x in
      run_more (first_half zero a p h x (omega arith))
      (run_more
      (second_half zero a p h x (omega arith) refl
      ∙ ap (λ (b : ℕ). pair_of (reading m g zero (a + 1) (shifted p x)) b q) (div-one (word_of m))
      ∙ F.last g (shifted p x) q a (word_of m / 2) (omega arith))
      (run_none (complete_of g m q).next))
  hears_pairs (suc i) a p h = run-append (reads_pair i a p h) (hears_pairs i (a + 1 + 1) (paired p (bit m (suc i))) (before_next i a p h))

-- ---- the start

-- the start brings r to the pairs, the message given before being g
abbrev pub Started : Receiver → Option Message → Type 0
Started r g = Run r start (replicate 4 Nothing) (standing g (last_six r.past start) 5 0)

-- three ones, heard in the hunt
pub record Ones (r : Receiver) : Type 0 where
  pub run : Run r (1 ∷ 1 ∷ 1 ∷ []) (replicate 3 Nothing) (later (later (later r 1) 1) 1)
  pub valid : receiver_ok (later (later (later r 1) 1) 1) ≡ true
  pub hunts : is_hunting (waits_on (waits_on (waits_on r.at))) ≡ true

pub three_ones : (r : Receiver) → receiver_ok r ≡ true → is_hunting r.at ≡ true → Ones r
three_ones r v e =
    let a = one_valid r v e in
    let b = one_valid (later r 1) a.0 a.1 in
    let c = one_valid (later (later r 1) 1) b.0 b.1 in
    record {
      run = run_more (one_heard r v e)
          (run_more (one_heard (later r 1) a.0 a.1)
          (run_more (one_heard (later (later r 1) 1) b.0 b.1) (run_none (later (later (later r 1) 1) 1))));
      valid = c.0;
      hunts = c.1;
    }
  where
    one_heard : (q : Receiver) → receiver_ok q ≡ true → is_hunting q.at ≡ true → step_of q 1 ≡ says Nothing (later q 1)
    one_heard q u f = hunts_on q u f 1 (omega arith) (no_start_one q.past q.at)

    one_valid : (q : Receiver) → receiver_ok q ≡ true → is_hunting q.at ≡ true → (receiver_ok (later q 1) ≡ true) × (is_hunting (waits_on q.at) ≡ true)
    one_valid q u f =
        let waits = later_waits q u f in
        (valid_waiting (shifted q.past 1) (waits_on q.at) (omega arith) waits, waits_hunts (waits_on q.at) waits)

pub ready_starts : (r : Receiver) → Ready r → Started r None
unfolding last_six
ready_starts r h =
    let ones = three_ones r h.valid h.hunts in
    let s = later (later (later r 1) 1) 1 in
    run-append ones.run (run_more (hunts_start s ones.valid ones.hunts (omega (arith, h.cleared))) (run_none (started (shifted s.past 0))))

-- a receiver that awaits the second copy of m
abbrev pub awaiting : Message → ℕ → Receiver
awaiting m p = standing (Some m) p 1 0

-- the half-cycle h at the awaited place a, from 1 to 4
pub record Awaited (p a h : ℕ) : Type 0 where
  pub six : p ≤ 63
  pub low : 1 ≤ a
  pub high : a ≤ 4
  pub half : h ≤ 1

module _ (m : Message) (ok : message_ok m ≡ true) where
  module _ (p a h : ℕ) (w : Awaited p a h) where
    awaits_ok : receiver_ok (standing (Some m) p a 0) ≡ true
    awaits_ok = standing_ok (Some m) p a 0 ok w.six (pairs_few a 0 (omega arith))

    pub awaits_on : h ≡ pick (leb a 3) 1 0 → step_of (standing (Some m) p a 0) h ≡ says Nothing (standing (Some m) (shifted p h) (a + 1) 0)
    awaits_on e = step_wanted (Some m) p a 0 h awaits_ok w.half w.low w.high e

    pub awaits_off : h ≢ pick (leb a 3) 1 0 → NoStart p 0 h → step_of (standing (Some m) p a 0) h ≡ says Nothing (hunting (shifted p h))
    awaits_off e n = step_unwanted (Some m) p a 0 h awaits_ok w.half w.low w.high e n

  pub awaiting_starts : (p : ℕ) → p ≤ 63 → Started (awaiting m p) (Some m)
  unfolding last_six
  awaiting_starts p hp =
      let p₁ = shifted p 1 in
      let p₂ = shifted p₁ 1 in
      let p₃ = shifted p₂ 1 in
      run_more (awaits_on p 1 1 (omega arith) refl)
      (run_more (awaits_on p₁ 2 1 (omega arith) refl)
      (run_more (awaits_on p₂ 3 1 (omega arith) refl)
      (run_more (awaits_on p₃ 4 0 (omega arith) refl)
      (run_none (standing (Some m) (shifted p₃ 0) 5 0)))))

-- ---- the whole frame

module _ (m : Message) (F : Framed m) (ok : message_ok m ≡ true) where
  hears_whole : (r : Receiver) (g : Option Message) → given_ok g ≡ true → Started r g
      → let heard = complete_of g m (last_six r.past (frame_of m)) in
      Run r (frame_of m) (frame_events m heard.event) heard.next
  unfolding frame_of frame_events last_six
  hears_whole r g hg s =
      let p = last_six r.past start in
      let begins : Before F F.rest 5 p = omega arith in
      rw (F.count, F.lead) (run-append s (rw F.none at (hears_pairs m F g hg F.rest 5 p begins)))

  pub hears_started : (r : Receiver) → Started r None → Run r (frame_of m) (frame_events m (Gives m)) (awaiting m (last_six r.past (frame_of m)))
  unfolding complete_of
  hears_started r s = hears_whole r None refl s

  pub hears_frame : (r : Receiver) → Ready r → Run r (frame_of m) (frame_events m (Gives m)) (awaiting m (last_six r.past (frame_of m)))
  unfolding complete_of
  hears_frame r h = hears_whole r None refl (ready_starts r h)

  pub hears_repeat : (p : ℕ) → p ≤ 63 → Run (awaiting m p) (frame_of m) (frame_events m Repeat) (hunting (last_six p (frame_of m)))
  unfolding complete_of
  hears_repeat p hp =
      rw ((same_is_equal m m).1 refl)
      at (hears_whole (awaiting m p) (Some m) ok (awaiting_starts m ok p hp))
