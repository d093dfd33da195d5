-- Where a receiver stands within a burst and what it says there, half-cycle by half-cycle: for whoever does not hand it a whole burst, as a
-- bench does not.
--
--     stands_at m r k     where a receiver that was ready at r stands, once k half-cycles of m's burst have come
--     event_at m k        what is said at the next: MESSAGE with m at the frame's end, REPEAT at the burst's end, else nothing
--     stands_first       before the first half-cycle it stands at r
--     stands_step        where the next half-cycle is the burst's own, event_at m k is said and it stands at k + 1
--     stands_last        after the last it hunts, and clear half-cycles leave it hunting
--     repeat_ends        REPEAT is said at the burst's end only
use Prim.Native.Nat.{ℕ, zero, suc, ◌+◌, ◌-◌, ◌≤◌, ◌<◌}
use mathlib.Core.Logic.{◌≢◌}
use mathlib.Core.Path.{◌≡◌, refl, ap, ◌∙◌}
use mathlib.Core.Bool.{Bool, true, false}
use mathlib.Core.List.{List, [], ◌∷◌, ◌++◌}
use native.Mathlib.Nat.{le_of_suc-le-suc, not-suc-le-zero}
use native.Mathlib.Decide.{ℕ_discrete}
use native.Mathlib.Omega.{arith}
use borrow.Author.Tests.{eq-eqb, ne_eqb}
use lib.Dec.{eqb}
use lib.ListN.{length, get_or, take, replicate}
use lib.Seq.{append_snoc, take-length}
use Rattle.ground.specs.Choice.{pick}
use Rattle.message.specs.Messages.{message_ok}
use Rattle.message.specs.declared.Message.{Message}
use Rattle.message.specs.declared.Message.TheVariants.{Address, Function as Command, Extended}
use Rattle.burst.specs.Frames.{frame_length, burst_of, burst_length}
use Rattle.receiver.specs.Receivers.{step_of, says}
use Rattle.receiver.specs.Hearing.{events_of, receiver_after}
use Rattle.receiver.specs.declared.Receiver.{Receiver}
use Rattle.receiver.specs.declared.Event.{Event}
use Rattle.receiver.specs.declared.Event.TheVariants.{Nothing, Message as Gives, Repeat}
use Rattle.receiver_laws.specs.Whole.{Ready, frame_events, burst_events, last_six}
use Rattle.receiver_laws.proofs.Pasts.{clean_burst}
use Rattle.receiver_laws.proofs.Rests.{Rests, rests_hunting}
use Rattle.receiver_laws.proofs.Whole.{hears_burst}

unfoldable pub stands_at : Message → Receiver → ℕ → Receiver
stands_at m r k = receiver_after r (take k (burst_of m))

unfoldable pub event_at : Message → ℕ → Event
event_at m k = pick (eqb (suc k) (frame_length m)) (Gives m) (pick (eqb (suc k) (burst_length m)) Repeat Nothing)

-- ---- the events of a burst, one by one

-- n times Nothing, then e, then es
module _ (e : Event) (es : List Event) where
  abbrev late : ℕ → List Event
  late n = replicate n Nothing ++ e ∷ es

  late_at : (n : ℕ) → get_or (late n) n Nothing ≡ e
  late_at zero = refl
  late_at (suc n) = late_at n

  late_after : (n j k : ℕ) → k ≡ suc (n + j) → get_or (late n) k Nothing ≡ get_or es j Nothing
  late_after n j zero q = absurd (omega arith)
  late_after zero j (suc k) q = ap (λ (x : ℕ). get_or es x Nothing) (omega arith)
  late_after (suc n) j (suc k) q = late_after n j k (omega arith)

  late_nothing : (n k : ℕ) → k ≢ n → ((j : ℕ) → k ≡ suc (n + j) → get_or es j Nothing ≡ Nothing) → get_or (late n) k Nothing ≡ Nothing
  late_nothing zero zero q f = absurd (q refl)
  late_nothing zero (suc k) q f = f k (omega arith)
  late_nothing (suc n) zero q f = refl
  late_nothing (suc n) (suc k) q f = late_nothing n k (omega arith) (λ j x. f j (omega arith))

some_frame : (m : Message) → 1 ≤ frame_length m
some_frame (Address h u) = omega arith
some_frame (Command h f) = omega arith
some_frame (Extended h u d c) = omega arith

said : (m : Message) (k : ℕ) → get_or (burst_events m) k Nothing ≡ event_at m k
unfolding burst_events frame_events event_at
said m k =
    ap (λ (es : List Event). get_or es k Nothing) (append_snoc (replicate n Nothing) (Gives m) second)
    ∙ go (ℕ_discrete (suc k) (frame_length m)) (ℕ_discrete (suc k) (burst_length m))
  where
    n : ℕ
    n = frame_length m - 1

    second : List Event
    second = late Repeat [] n

    go : Dec (suc k ≡ frame_length m) → Dec (suc k ≡ burst_length m) → get_or (late (Gives m) second n) k Nothing ≡ event_at m k
    go (yes e) d =
        let last : k ≡ n = omega arith in
        rw (eq-eqb (suc k) (frame_length m) e) (ap (λ (x : ℕ). get_or (late (Gives m) second n) x Nothing) last ∙ late_at (Gives m) second n)
    go (no f) (yes e) =
        let some = some_frame m in
        rw (ne_eqb (suc k) (frame_length m) f, eq-eqb (suc k) (burst_length m) e)
        (late_after (Gives m) second n n k (omega arith) ∙ late_at Repeat [] n)
    go (no f) (no e) =
        let some = some_frame m in
        rw (ne_eqb (suc k) (frame_length m) f, ne_eqb (suc k) (burst_length m) e)
        (late_nothing (Gives m) second n k (omega arith) (λ j x. late_nothing Repeat [] n j (omega arith) (λ i y. refl)))

-- ---- a run taken apart into its steps

step-at : (hs : List ℕ) (r : Receiver) (k : ℕ) → k < length hs
    → step_of (receiver_after r (take k hs)) (get_or hs k 0) ≡ says (get_or (events_of r hs) k Nothing) (receiver_after r (take (suc k) hs))
unfolding events_of receiver_after
step-at [] r k l = absurd (not-suc-le-zero l)
step-at (h ∷ hs) r zero l = refl
step-at (h ∷ hs) r (suc k) l = step-at hs (step_of r h).next k (le_of_suc-le-suc l)

pub stands_first : (m : Message) (r : Receiver) → stands_at m r 0 ≡ r
unfolding stands_at receiver_after
stands_first m r = refl

module _ (m : Message) (ok : message_ok m ≡ true) (r : Receiver) (h : Ready r) where
  pub stands_step : (k : ℕ) → k < length (burst_of m) → step_of (stands_at m r k) (get_or (burst_of m) k 0) ≡ says (event_at m k) (stands_at m r (suc k))
  unfolding stands_at
  stands_step k l =
      step-at (burst_of m) r k l
      ∙ ap (λ (e : Event). says e (receiver_after r (take (suc k) (burst_of m))))
      (ap (λ (es : List Event). get_or es k Nothing) (hears_burst m ok r h).events ∙ said m k)

  pub stands_last : Rests 0 (stands_at m r (length (burst_of m)))
  unfolding stands_at
  stands_last =
      let clean = clean_burst m r.past in
      rw (take-length (burst_of m), (hears_burst m ok r h).stands) (rests_hunting (last_six r.past (burst_of m)) clean.six (omega arith))

pub repeat_ends : (m : Message) (k : ℕ) → event_at m k ≡ Repeat → suc k ≡ burst_length m
unfolding event_at
repeat_ends m k e = go (ℕ_discrete (suc k) (burst_length m))
  where
    other : (b : Bool) → pick b (Gives m) Nothing ≡ Repeat → suc k ≡ burst_length m
    other true q = cc
    other false q = cc

    go : Dec (suc k ≡ burst_length m) → suc k ≡ burst_length m
    go (yes q) = q
    go (no n) = other (eqb (suc k) (frame_length m)) (rw (ne_eqb (suc k) (burst_length m) n) at e)
