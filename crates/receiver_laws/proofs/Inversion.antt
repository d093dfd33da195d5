-- A burst with one half-cycle inverted gives its message once, or where that is one of the first four not at all.
--
-- In a start, the inverted half-cycle keeps a hunting receiver hunting and sends an awaiting one back to the hunt; in the pairs it makes an equal
-- pair, after which the other copy's start is waited for. What is left of that copy begins no frame. After a start that was missed neither does the
-- second copy, since no three clear half-cycles come before it; after an equal pair of the first copy the second copy's start is accepted, and its
-- frame is whole.
--
--     inverted_append            an inversion is in the first of two lists or in the second
--     Opens, loses_frame         an inversion in a copy's frame
--     broken_first, broken_last, missed_first, missed_last      what follows after it, in the first copy and in the second
--     one_inversion, exactly_once, inverted_starts              the theorems of specs/Inversion.antt
use Rattle.std.specs.Prelude.{Option, Some, None}
use Prim.Native.Nat.{ℕ, zero, suc, ◌+◌, ◌-◌, ◌*◌, ◌/◌, ◌%◌, ◌^◌, ◌≤◌, ◌<◌, suc-le-suc}
use mathlib.Core.Logic.{◌≢◌, ◌⊎◌, inl, inr, ⊎_elim}
use mathlib.Core.Path.{◌≡◌, refl, sym, ap, ap₂, ◌∙◌}
use mathlib.Core.Bool.{true}
use mathlib.Core.List.{List, [], ◌∷◌, ◌++◌, append_assoc}
use native.Mathlib.Nat.{le_of_suc-le-suc}
use native.Mathlib.Decide.{dec_le}
use native.Mathlib.Omega.{arith}
use borrow.Author.Tests.{le-leb, lt-leb}
use lib.Dec.{leb}
use lib.ListN.{length, replicate, length-append}
use Rattle.ground.specs.Choice.{pick}
use Rattle.message.specs.Messages.{message_ok}
use Rattle.message.specs.Words.{word_of, bit_count}
use Rattle.message.specs.declared.Message.{Message}
use Rattle.message.specs.declared.Message.TheVariants.{Address, Function as Command, Extended}
use Rattle.burst.specs.Frames.{bits_of, pairs_of, frame_of, burst_of}
use Rattle.receiver.specs.Receivers.{near, far, waiting, hunting, broken, shifted, given_ok, fresh_receiver}
use Rattle.receiver.specs.Hearing.{events_of}
use Rattle.receiver.specs.declared.Receiver.{Receiver}
use Rattle.receiver.specs.declared.Event.TheVariants.{Nothing, Message as Gives}
use Rattle.receiver_laws.specs.Whole.{clear, Ready, last_six}
use Rattle.receiver_laws.specs.Inversion.{inverted, told, AtMostOnce, told_of, OneInversion, InPair, ExactlyOnce, InvertedStarts}
use Rattle.receiver_laws.proofs.Runs.{Run, run_none, run_more}
use Rattle.receiver_laws.proofs.Steps.{standing, no_start_plain}
use Rattle.receiver_laws.proofs.FrameBits.{Framed, framed}
use Rattle.receiver_laws.proofs.Pasts.{start, paired, two_more, bits_of_lem, Clean, clean_pair, clean_start, clean_frame}
use Rattle.receiver_laws.proofs.FrameHeard.{Before, reading, bit, first_half, equal_half, before_next, reads_pair, Started, ready_starts, awaiting}
use Rattle.receiver_laws.proofs.FrameHeard.{awaits_on, awaits_off, awaiting_starts, hears_started, hears_frame}
use Rattle.receiver_laws.proofs.Rests.{Rests, rests_fresh, rests_step, rests_next, rests_ready}
use Rattle.receiver_laws.proofs.Hush.{Hush, hush_run, hush_append, hush_clear, Calm, hush_pairs, calm_pairs, hush_frame, calm-frame, Steady}
use Rattle.receiver_laws.proofs.Hush.{hush_start, calm_start}
use Rattle.receiver_laws.proofs.Waited.{Between, between_broken, Waited, pairs_waited, ends_at, waited_starts, between_rests, rests_tells}
use Rattle.receiver_laws.proofs.Told.{tells, told_nothing, told_frame, tells_run, quietly, hush_tells}

abbrev Inverts : List ℕ → List ℕ → ℕ → Type 0
Inverts hs ks i =
    ((i < length hs) × (inverted i (hs ++ ks) ≡ inverted i hs ++ ks))
    ⊎ ((j : ℕ) × (j < length ks) × (inverted i (hs ++ ks) ≡ hs ++ inverted j ks) × (i ≡ length hs + j))

inverted_append : (hs ks : List ℕ) (i : ℕ) → i < length (hs ++ ks) → Inverts hs ks i
unfolding inverted
inverted_append [] ks i l = inr (i, l, refl, omega arith)
inverted_append (h ∷ hs) ks zero l = inl (omega arith, refl)
inverted_append (h ∷ hs) ks (suc i) l =
    ⊎_elim
    (λ x. inl (suc-le-suc x.0, ap (λ (js : List ℕ). h ∷ js) x.1))
    (λ x. inr (x.0, x.1, ap (λ (js : List ℕ). h ∷ js) x.2, omega (arith, x.3)))
    (inverted_append hs ks i (le_of_suc-le-suc l))

-- a receiver that a start brings to the pairs, and that hunts after a start with one half-cycle inverted
record Opens (r : Receiver) (g : Option Message) : Type 0 where
  starts : Started r g
  loses : (i : ℕ) → i < 4 → Run r (inverted i start) (replicate (length (inverted i start)) Nothing) (hunting (last_six r.past (inverted i start)))

hunting_opens : (p : ℕ) → p ≤ 63 → Ready (hunting p) → Opens (hunting p) None
hunting_opens p hp h =
    let steady : Steady p = omega arith in
    record { starts = ready_starts (hunting p) h; loses = λ i l. hush_run (inverted i start) p hp (hush_start i p l steady) }

module _ (m : Message) (ok : message_ok m ≡ true) where
  -- the half-cycles before the inverted one are those awaited, and at that one it hunts
  awaiting_loses : (i p : ℕ) → i < 4 → p ≤ 63 → Hush p (inverted i start)
      → Run (awaiting m p) (inverted i start) (replicate (length (inverted i start)) Nothing) (hunting (last_six p (inverted i start)))
  unfolding inverted last_six
  awaiting_loses zero p l hp u =
      run_more (awaits_off m ok p 1 0 (omega arith) (omega arith) u.1) (hush_run (1 ∷ 1 ∷ 0 ∷ []) (shifted p 0) (omega arith) u.2)
  awaiting_loses (suc zero) p l hp u =
      let p₁ = shifted p 1 in
      run_more (awaits_on m ok p 1 1 (omega arith) refl)
      (run_more (awaits_off m ok p₁ 2 0 (omega arith) (omega arith) u.2.1) (hush_run (1 ∷ 0 ∷ []) (shifted p₁ 0) (omega arith) u.2.2))
  awaiting_loses (suc (suc zero)) p l hp u =
      let p₁ = shifted p 1 in
      let p₂ = shifted p₁ 1 in
      run_more (awaits_on m ok p 1 1 (omega arith) refl)
      (run_more (awaits_on m ok p₁ 2 1 (omega arith) refl)
      (run_more (awaits_off m ok p₂ 3 0 (omega arith) (omega arith) u.2.2.1) (hush_run (0 ∷ []) (shifted p₂ 0) (omega arith) u.2.2.2)))
  awaiting_loses (suc (suc (suc zero))) p l hp u =
      let p₁ = shifted p 1 in
      let p₂ = shifted p₁ 1 in
      let p₃ = shifted p₂ 1 in
      run_more (awaits_on m ok p 1 1 (omega arith) refl)
      (run_more (awaits_on m ok p₁ 2 1 (omega arith) refl)
      (run_more (awaits_on m ok p₂ 3 1 (omega arith) refl)
      (run_more (awaits_off m ok p₃ 4 1 (omega arith) (omega arith) u.2.2.2.1) (run_none (hunting (shifted p₃ 1))))))
  awaiting_loses (suc (suc (suc (suc i)))) p l hp u = absurd (omega arith)

  awaiting_opens : (p : ℕ) → Clean p → Opens (awaiting m p) (Some m)
  awaiting_opens p c =
      let steady : Steady p = omega arith in
      record { starts = awaiting_starts m ok p c.six; loses = λ i l. awaiting_loses i p l c.six (hush_start i p l steady) }

  -- clear half-cycles come where the second copy is awaited
  awaiting_clear : (y p : ℕ) → p ≤ 63 → p ≢ 7 → tells (awaiting m p) (clear y) ≡ []
  unfolding told events_of
  awaiting_clear zero p hp n = refl
  awaiting_clear (suc y) p hp n =
      quietly (clear y) (run_more (awaits_off m ok p 1 0 (omega arith) (omega arith) (no_start_plain p 0 n)) (run_none (hunting (shifted p 0)))) refl
      ∙ hush_tells (clear y) (shifted p 0) (omega arith) (hush_clear y (shifted p 0) (omega arith))

-- ---- an inversion in one copy's frame

-- ms are the messages that ks gives after a copy with an inversion
module _ (m : Message) (F : Framed m) (g : Option Message) (hg : given_ok g ≡ true) (ms : List Message) (ks : List ℕ) where
  -- after an equal pair: the i pairs that are left, while a start is waited for
  abbrev Broke : Type 0
  Broke = (q k a i : ℕ) → Between q k a → k + 2 * i ≡ 6 + 2 * F.rest → tells (waiting q a) (pairs_of (bits_of i (word_of m)) ++ ks) ≡ ms

  -- after a start that is not met: all pairs, while none is
  abbrev Missed : Type 0
  Missed = (q : ℕ) → Calm q → tells (hunting q) (pairs_of (bits_of (bit_count m) (word_of m)) ++ ks) ≡ ms

  module _ (broke : Broke) where
    breaks : (i a p x : ℕ) → Before F i a p → Clean p → x ≤ 1 → tells (reading m g i a p) (x ∷ x ∷ pairs_of (bits_of i (word_of m)) ++ ks) ≡ ms
    unfolding told
    breaks i a p x h c hx =
        let q = shifted (shifted p x) x in
        let equal = run_more (first_half m F g hg i a p h x hx) (run_more (equal_half m F g hg i a p h x hx) (run_none (broken q (a + 1)))) in
        let most = F.most in
        quietly (pairs_of (bits_of i (word_of m)) ++ ks) equal refl
        ∙ broke q (a + 1) (pick (leb (a + 1) 22) (near (a + 1)) (far (a + 1))) i
        (between_broken a p x (omega arith) (omega arith) (omega arith) hx c) (omega (arith, h.place))

    breaks_pairs : (i a p j : ℕ) → Before F i a p → Clean p → j < length (pairs_of (bits_of (suc i) (word_of m)))
        → tells (reading m g i a p) (inverted j (pairs_of (bits_of (suc i) (word_of m))) ++ ks) ≡ ms
    unfolding pairs_of bits_of inverted told
    breaks_pairs i a p zero h c l = breaks i a p (1 - bit m i) h c (omega arith)
    breaks_pairs i a p (suc zero) h c l =
        let back : 1 - (1 - bit m i) ≡ bit m i = omega arith in
        rw back (breaks i a p (bit m i) h c (omega arith))
    breaks_pairs zero a p (suc (suc j)) h c l = absurd (omega arith)
    breaks_pairs (suc i) a p (suc (suc j)) h c l =
        let x = bit m (suc i) in
        quietly (inverted j (pairs_of (bits_of (suc i) (word_of m))) ++ ks) (reads_pair m F g hg i a p h) refl
        ∙ breaks_pairs i (a + 1 + 1) (paired p x) j (before_next m F g hg i a p h) (clean_pair p x (omega arith) c) (le_of_suc-le-suc (le_of_suc-le-suc l))

    breaks_frame : (p j : ℕ) → Clean p → j < length (pairs_of (bits_of (bit_count m) (word_of m)))
        → tells (standing g p 5 0) (inverted j (pairs_of (bits_of (bit_count m) (word_of m))) ++ ks) ≡ ms
    breaks_frame p j c =
        let begins : Before F F.rest 5 p = omega arith in
        rw F.count (λ l. rw F.none at (breaks_pairs F.rest 5 p j begins c l))

  loses_frame : (r : Receiver) → Opens r g → (i : ℕ) → i < length (frame_of m) → (4 ≤ i → Broke) → (i < 4 → Missed)
      → tells r (inverted i (frame_of m) ++ ks) ≡ ms
  unfolding frame_of told
  loses_frame r o i l broke missed =
      let pairs = pairs_of (bits_of (bit_count m) (word_of m)) in
      ⊎_elim
      (λ x. ap (λ (hs : List ℕ). tells r (hs ++ ks)) x.1
      ∙ ap (tells r) (append_assoc (inverted i start) pairs ks)
      ∙ quietly (pairs ++ ks) (o.loses i x.0) (told_nothing (length (inverted i start)))
      ∙ missed x.0 (last_six r.past (inverted i start)) (calm_start i r.past x.0))
      (λ x. let beyond : 4 ≤ i = omega (arith, x.3) in
      ap (λ (hs : List ℕ). tells r (hs ++ ks)) x.2
      ∙ quietly (inverted x.0 pairs ++ ks) o.starts refl
      ∙ breaks_frame (broke beyond) (last_six r.past start) x.0 (clean_start r.past) x.1)
      (inverted_append start pairs i l)

-- ---- what is left after the inversion, and both copies

-- four half-cycles or more
frame_four : (m : Message) → 4 ≤ length (frame_of m)
unfolding frame_of
frame_four m = omega arith

burst_four : (m : Message) → 4 ≤ length (burst_of m)
unfolding burst_of
burst_four m = let l = length-append (frame_of m) (frame_of m) in omega (arith, frame_four m)

in_pair : (m : Message) (i : ℕ) → InPair m i → 4 ≤ i
in_pair (Address h u) i p = omega arith
in_pair (Command h f) i p = omega arith
in_pair (Extended h u d c) i p = omega arith

paired_apart : (q b : ℕ) → b ≤ 1 → paired q b % 4 ≢ 0
paired_apart q zero l = rw (two_more q 0 1 l) (omega arith)
paired_apart q (suc zero) l = rw (two_more q 1 0 l) (omega arith)
paired_apart q (suc (suc b)) l = absurd (omega arith)

-- the last two half-cycles of pairs differ
pairs_apart : (k w q : ℕ) → q % 4 ≢ 0 → last_six q (pairs_of (bits_of k w)) % 4 ≢ 0
unfolding bits_of pairs_of last_six
pairs_apart zero w q n = n
pairs_apart (suc k) w q n =
    let b = w / 2 ^ k % 2 in
    pairs_apart k w (paired q b) (paired_apart q b (omega arith))

last_apart : (k w q : ℕ) → last_six q (pairs_of (bits_of (suc k) w)) % 8 ≢ 0
unfolding bits_of pairs_of last_six
last_apart k w q z =
    let b = w / 2 ^ k % 2 in
    let p = last_six (paired q b) (pairs_of (bits_of k w)) in
    let four : p % 8 % 4 ≡ p % 4 = omega arith in
    pairs_apart k w (paired q b) (paired_apart q b (omega arith)) (omega arith)

length-bits : (k w : ℕ) → length (bits_of k w) ≡ k
unfolding bits_of
length-bits zero w = refl
length-bits (suc k) w = ap suc (length-bits k w)

module _ (m : Message) (ok : message_ok m ≡ true) (y : ℕ) where
  F : Framed m
  F = framed m ok

  -- the pairs that are left after an equal pair
  module _ (q k a i : ℕ) (B : Between q k a) (e : k + 2 * i ≡ 6 + 2 * F.rest) where
    pairs : List ℕ
    pairs = pairs_of (bits_of i (word_of m))

    ended : (k + 2 * length (bits_of i (word_of m)) ≡ 22) ⊎ (k + 2 * length (bits_of i (word_of m)) ≡ 62)
    ended = let n = length-bits i (word_of m) in ⊎_elim (λ f. inl (omega (arith, e, f, n))) (λ f. inr (omega (arith, e, f, n))) F.kinds

    waited : Waited q k a (bits_of i (word_of m))
    waited = pairs_waited (bits_of i (word_of m)) q k a (bits_of_lem i (word_of m)) B (⊎_elim (λ f. omega arith) (λ f. omega arith) ended)

    -- clear half-cycles follow
    broken_last : tells (waiting q a) (pairs_of (bits_of i (word_of m)) ++ clear y) ≡ []
    broken_last =
        quietly (clear y) waited.run (told_nothing (length (pairs_of (bits_of i (word_of m)))))
        ∙ rests_tells y 0 (waiting (last_six q (pairs_of (bits_of i (word_of m)))) waited.at)
        (between_rests waited.between (λ z. ⊎_elim (λ f. omega arith) (λ f. omega arith) ended))

    -- the second copy follows: its start is waited for, and the frame is heard
    broken_first : tells (waiting q a) (pairs_of (bits_of i (word_of m)) ++ (frame_of m ++ clear y)) ≡ m ∷ []
    broken_first =
        let p = last_six q (pairs_of (bits_of i (word_of m))) in
        let r = waiting p waited.at in
        let between = waited.between in
        let calm = calm-frame m p in
        quietly (frame_of m ++ clear y) waited.run (told_nothing (length (pairs_of (bits_of i (word_of m)))))
        ∙ tells_run (clear y) (hears_started m F ok r (waited_starts p waited.at between.calm.six between.waits (ends_at between ended)))
        ∙ ap₂ ◌++◌ (told_frame m (Gives m)) (awaiting_clear m ok y (last_six p (frame_of m)) calm.six calm.ones)

  -- the pairs after a start that was not met, and then clear half-cycles
  missed_last : (q : ℕ) → Calm q → tells (hunting q) (pairs_of (bits_of (bit_count m) (word_of m)) ++ clear y) ≡ []
  missed_last q c =
      let bs = bits_of (bit_count m) (word_of m) in
      let hb = bits_of_lem (bit_count m) (word_of m) in
      hush_tells (pairs_of bs ++ clear y) q c.six
      (hush_append (pairs_of bs) (clear y) q (hush_pairs bs q hb c) (hush_clear y (last_six q (pairs_of bs)) (calm_pairs bs q hb c).ones))

  -- or the second copy: its start comes after a pair, and is not met either
  missed_first : (q : ℕ) → Calm q → tells (hunting q) (pairs_of (bits_of (bit_count m) (word_of m)) ++ (frame_of m ++ clear y)) ≡ []
  missed_first q c =
      let bs = bits_of (bit_count m) (word_of m) in
      let hb = bits_of_lem (bit_count m) (word_of m) in
      let p = last_six q (pairs_of bs) in
      let apart : p % 8 ≢ 0 = rw F.count (last_apart F.rest (word_of m) q) in
      hush_tells (pairs_of bs ++ (frame_of m ++ clear y)) q c.six
      (hush_append (pairs_of bs) (frame_of m ++ clear y) q (hush_pairs bs q hb c)
      (hush_append (frame_of m) (clear y) p (hush_frame m p apart) (hush_clear y (last_six p (frame_of m)) (calm-frame m p).ones)))

  -- by the place of the inversion
  given : ℕ → List Message
  given i = pick (leb 4 i) (m ∷ []) []

  given_beyond : (i : ℕ) → 4 ≤ i → given i ≡ m ∷ []
  unfolding given
  given_beyond i l = rw (le-leb 4 i l)

  given_lost : (i : ℕ) → i < 4 → given i ≡ []
  unfolding given
  given_lost i l = rw (lt-leb 4 i l)

  either_copy : (p i : ℕ) → p ≤ 63 → Ready (hunting p) → i < length (burst_of m) → tells (hunting p) (inverted i (burst_of m) ++ clear y) ≡ given i
  unfolding burst_of
  either_copy p i hp h l =
      let frame = frame_of m in
      let q = last_six p frame in
      let join : List ℕ → List Message = λ hs. tells (hunting p) (hs ++ clear y) in
      ⊎_elim
      (λ x. ap join x.1
      ∙ ap (tells (hunting p)) (append_assoc (inverted i frame) frame (clear y))
      ∙ loses_frame m F None refl (given i) (frame ++ clear y) (hunting p) (hunting_opens p hp h) i x.0
      (λ b q k a j B e. broken_first q k a j B e ∙ sym (given_beyond i b)) (λ s q c. missed_first q c ∙ sym (given_lost i s)))
      (λ x. let beyond : 4 ≤ i = omega (arith, x.3, frame_four m) in
      ap join x.2
      ∙ ap (tells (hunting p)) (append_assoc frame (inverted x.0 frame) (clear y))
      ∙ tells_run (inverted x.0 frame ++ clear y) (hears_frame m F ok (hunting p) h)
      ∙ ap₂ ◌++◌ (told_frame m (Gives m))
      (loses_frame m F (Some m) ok [] (clear y) (awaiting m q) (awaiting_opens m ok q (clean_frame m p)) x.0 x.1 (λ b. broken_last) (λ s. missed_last))
      ∙ sym (given_beyond i beyond))
      (inverted_append frame frame i l)

  -- z clear half-cycles before it, c having come already
  after_clear : (z c p i : ℕ) → p ≤ 63 → Rests c (hunting p) → 3 ≤ c + z → i < length (burst_of m)
      → tells (hunting p) (clear z ++ (inverted i (burst_of m) ++ clear y)) ≡ given i
  unfolding told
  after_clear zero c p i hp h n l = either_copy p i hp (rests_ready c (hunting p) (omega arith) h) l
  after_clear (suc z) c p i hp h n l =
      let q = shifted p 0 in
      quietly (clear z ++ (inverted i (burst_of m) ++ clear y)) (run_more (rests_step h) (run_none (hunting q))) refl
      ∙ after_clear z (suc c) q i (omega arith) (rests_next h) (omega arith) l

  all_told : (z i : ℕ) → 3 ≤ z → i < length (burst_of m) → told_of m z i y ≡ given i
  all_told z i n l =
      ap (tells fresh_receiver) (append_assoc (clear z) (inverted i (burst_of m)) (clear y))
      ∙ after_clear z 0 63 i (omega arith) rests_fresh (omega arith) l

pub inverted_starts : InvertedStarts
inverted_starts = record {
  beyond = λ m ok z i y n b l. all_told m ok y z i n l ∙ given_beyond m ok y i b;
  lost = λ m ok z i y n s. all_told m ok y z i n (omega (arith, s, burst_four m)) ∙ given_lost m ok y i s;
}

pub exactly_once : ExactlyOnce
exactly_once m ok z i y n l p = inverted_starts.beyond m ok z i y n (in_pair m i p) l

pub one_inversion : OneInversion
one_inversion m ok z i y n l = go (dec_le 4 i)
  where
    go : Dec (4 ≤ i) → AtMostOnce m (told_of m z i y)
    go (yes b) = inr (inverted_starts.beyond m ok z i y n b l)
    go (no s) = inl (inverted_starts.lost m ok z i y n (omega arith))
