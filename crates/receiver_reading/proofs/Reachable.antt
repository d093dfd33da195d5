-- The states that a fresh receiver reaches are those of its grammar: every history stands at one of four places, which says the state, and each of
-- these states is reached: while a start is waited for by the history itself, else by a short one. `past` is given by the last half-cycles alone; of
-- those before a start found in the hunt two count, and the start that is waited for may come after any two.
--
--     six_after, await_is, begun_is     `past` by the frame and the start alone, or by the beginning alone
--     reached                           every history's state is one of these
--     short, opens, gives, begun_by     the short histories
--     reachable_states                  the theorem of specs/Reachable.antt
use Rattle.std.specs.Prelude.{Option, Some, None}
use Prim.Native.Nat.{ℕ, zero, suc, ◌+◌, ◌*◌, ◌/◌, ◌%◌, ◌≤◌}
use mathlib.Core.Path.{◌≡◌, refl, sym, ap, subst, ◌∙◌}
use mathlib.Core.Bool.{true, false≢true}
use mathlib.Core.List.{List, [], ◌∷◌, ◌++◌, append_assoc, append-nil}
use native.Mathlib.Decide.{ℕ_discrete}
use native.Mathlib.Omega.{arith}
use lib.ListN.{length, take, replicate, length-append}
use Rattle.ground.specs.Refusals.{judged}
use Rattle.message.specs.Messages.{message_ok}
use Rattle.message.specs.Words.{word_of, bit_count}
use Rattle.message.specs.declared.Message.{Message}
use Rattle.message.specs.declared.Message.TheVariants.{Address, Function as Command, Extended}
use Rattle.burst.specs.Frames.{bits_of, frame_of}
use Rattle.burst.proofs.FrameLaws.{bits_length, frame_length_lem}
use Rattle.receiver.specs.Receivers.{fresh_receiver, waiting, hunting, step_of, takes_of, hunt_of, read_of, receiver_ok, pairs_ok}
use Rattle.receiver.specs.Hearing.{receiver_after}
use Rattle.receiver.specs.declared.Receiver.{Receiver}
use Rattle.receiver.specs.declared.Event.TheVariants.{Message as Gives}
use Rattle.receiver_laws.specs.Whole.{last_six}
use Rattle.receiver_laws.proofs.Steps.{standing}
use Rattle.receiver_laws.proofs.Pasts.{six_append, two_more, four_more, Bits, bits_of_lem}
use Rattle.receiver_reading.specs.Reading.{EndsIn, start_mark, hunted_start, pairs, none, idle, begun, said}
use Rattle.receiver_reading.specs.Reading.{At, fresh, hunts as hunts_on, hunted as hunted-at, awaited as awaited-at, message}
use Rattle.receiver_reading.specs.Standing as place
use Rattle.receiver_reading.specs.Standing.{past_of, place_of, StandsAfter}
use Rattle.receiver_reading.specs.Reachable.{Beginning, hunted, awaited, Reachable, hunts, waits, awaits, reads, halfway, ReachableStates}
use Rattle.receiver_reading.proofs.Histories.{six_low, six_bits, ends_six}
use Rattle.receiver_reading.proofs.Answers.{state, state_after_lem, Stood}
use Rattle.receiver_reading.proofs.States.{valid_message, begun_ends, message_ends, at_bits, reading_stood, where_at}
use Rattle.receiver_reading.proofs.Standing.{half_stood, stands_state, every_history_stands}

frame_long : (m : Message) → 6 ≤ length (frame_of m)
frame_long (Address h u) = omega (arith, frame_length_lem (Address h u))
frame_long (Command h f) = omega (arith, frame_length_lem (Command h f))
frame_long (Extended h u d c) = omega (arith, frame_length_lem (Extended h u d c))

-- ---- `past` by the last half-cycles alone

six_after : (hs ks xs : List ℕ) → past_of hs ≡ past_of ks → past_of (hs ++ xs) ≡ past_of (ks ++ xs)
six_after hs ks xs e = six_append 63 hs xs ∙ ap (λ (p : ℕ). last_six p xs) e ∙ sym (six_append 63 ks xs)

await_is : {m : Message} {hs : List ℕ} → At (said (Gives m)) hs → past_of hs ≡ past_of (frame_of m)
await_is {m} {hs} at = ends_six (frame_of m) hs (message_ends at) (at_bits at) (frame_long m)

-- before a start two half-cycles count
start_six : (p : ℕ) → last_six p start_mark ≡ p % 4 * 16 + 14
unfolding last_six
start_six p = four_more p 1 1 1 0 (omega arith)

two_six : (a b : ℕ) → a ≤ 1 → past_of (a ∷ b ∷ []) ≡ 60 + (a * 2 + b)
unfolding last_six
two_six a b l = two_more 63 a b l

-- a frame's beginning, with the same last six half-cycles
record Begun (g : Option Message) (hs : List ℕ) : Type 0 where
  pub ks : List ℕ
  pub beginning : Beginning g ks
  pub six : past_of hs ≡ past_of ks

begun_is : {g : Option Message} {hs : List ℕ} → At (begun g) hs → Begun g hs
begun_is (awaited-at {hs} {m} a) =
    record { ks = frame_of m ++ start_mark; beginning = awaited m (valid_message a); six = six_after hs (frame_of m) start_mark (await_is a) }
begun_is (hunted-at {hs} h at s) =
    let e = begun_ends (hunted-at h at s) in
    let p = past_of e.0 in
    let a = p % 4 / 2 in
    let b = p % 2 in
    let two : past_of (a ∷ b ∷ []) % 4 ≡ p % 4 = rw (two_six a b (omega arith)) (omega arith) in
    let six : past_of (hs ++ h ∷ []) ≡ past_of (a ∷ b ∷ start_mark) =
    ap past_of (sym e.1) ∙ six_append 63 e.0 start_mark ∙ start_six p ∙ ap (λ (q : ℕ). q * 16 + 14) (sym two)
    ∙ sym (start_six (past_of (a ∷ b ∷ []))) ∙ sym (six_append 63 (a ∷ b ∷ []) start_mark) in
    record { ks = a ∷ b ∷ start_mark; beginning = hunted a b (omega arith) (omega arith); six = six }

-- ---- every history

reach_by : {r s : Receiver} → r ≡ s → Reachable s → Reachable r
reach_by e x = subst Reachable (sym e) x

reached : {hs : List ℕ} {r : Receiver} → StandsAfter hs r → Reachable r
reached (place.idles {hs} {o} at) = go (ℕ_discrete (place_of o (length hs)) 0)
  where
    go : Dec (place_of o (length hs) ≡ 0) → Reachable (waiting (past_of hs) (place_of o (length hs)))
    go (yes z) = reach_by (ap (waiting (past_of hs)) z) (hunts (past_of hs) (six_low hs (at_bits at)))
    go (no n) = waits at n
reached (place.awaits {hs} {m} k at l) =
    reach_by (ap (λ (p : ℕ). standing (Some m) p (suc k) 0) (six_after hs (frame_of m) (take k start_mark) (await_is at))) (awaits m k (valid_message at) l)
reached (place.reads {hs} {g} n w at low u) =
    let f = begun_is at in
    reach_by (ap (λ (p : ℕ). standing g p (5 + 2 * n) w) (six_after hs f.ks (pairs n w) f.six)) (reads n w f.beginning low u)
reached (place.halfway {hs} {g} n w x at low u l) =
    let f = begun_is at in
    reach_by (ap (λ (p : ℕ). standing g p (6 + 2 * n) w) (six_after hs f.ks (pairs n w ++ x ∷ []) f.six)) (halfway n w x f.beginning low u l)

-- ---- the short histories

-- no frame begins in six half-cycles
seven : (hs : List ℕ) → EndsIn hunted_start hs → 7 ≤ length hs
seven hs e = omega (arith, length-append e.0 hunted_start, ap length e.1)

short_from : (ks hs : List ℕ) → At (idle none) ks → Bits hs → length ks + length hs ≤ 6 → At (idle none) (ks ++ hs)
short_from ks [] at b l = subst (λ (l : List ℕ). At (idle none) l) (sym (append-nil ks)) at
short_from ks (h ∷ hs) at b l =
    let ls = ks ++ h ∷ [] in
    let one = length-append ks (h ∷ []) in
    subst (λ (l : List ℕ). At (idle none) l) (append_assoc ks (h ∷ []) hs)
    (short_from ls hs (hunts_on h at b.0 (λ e. omega (arith, seven ls e, one))) b.1 (omega (arith, one)))

short : (hs : List ℕ) → Bits hs → length hs ≤ 6 → At (idle none) hs
short hs b l = short_from [] hs fresh b (omega arith)

opens : At (begun None) hunted_start
opens = hunted-at 0 (short (0 ∷ 0 ∷ 0 ∷ 1 ∷ 1 ∷ 1 ∷ []) (omega arith) (omega arith)) ([], refl)

gives : (m : Message) → message_ok m ≡ true → At (said (Gives m)) (hunted_start ++ pairs (bit_count m) (word_of m))
gives m ok = message m opens ok (λ e. false≢true cc)

-- a frame breaks in its first pair, and the start that is waited for comes after a and b
waited : (a b : ℕ) → List ℕ
waited a b = hunted_start ++ (replicate 16 1 ++ a ∷ b ∷ start_mark)

-- a history with which a frame begins, with the same last six half-cycles
record Comes (g : Option Message) (ks : List ℕ) : Type 0 where
  pub history : List ℕ
  pub stood : Stood history g 5 0
  pub six : past_of history ≡ past_of ks

begun_by : {g : Option Message} {ks : List ℕ} → Beginning g ks → Comes g ks
unfolding receiver_after waited last_six step_of judged takes_of hunt_of read_of receiver_ok pairs_ok
begun_by (hunted zero zero l k) = record { history = waited 0 0; stood = sym (state_after_lem (waited 0 0)); six = refl }
begun_by (hunted zero (suc zero) l k) = record { history = waited 0 1; stood = sym (state_after_lem (waited 0 1)); six = refl }
begun_by (hunted (suc zero) zero l k) = record { history = waited 1 0; stood = sym (state_after_lem (waited 1 0)); six = refl }
begun_by (hunted (suc zero) (suc zero) l k) = record { history = waited 1 1; stood = sym (state_after_lem (waited 1 1)); six = refl }
begun_by (hunted zero (suc (suc b)) l k) = absurd (omega arith)
begun_by (hunted (suc zero) (suc (suc b)) l k) = absurd (omega arith)
begun_by (hunted (suc (suc a)) b l k) = absurd (omega arith)
begun_by (awaited m ok) =
    let hs = hunted_start ++ pairs (bit_count m) (word_of m) in
    record { history = hs ++ start_mark; stood = where_at (awaited-at (gives m ok)); six = six_after hs (frame_of m) start_mark (await_is (gives m ok)) }

-- ---- both ways

come : {r : Receiver} → Reachable r → (hs : List ℕ) × (state hs ≡ r)
come (hunts p l) =
    let hs = bits_of 6 p in
    (hs, where_at (short hs (bits_of_lem 6 p) (omega (arith, bits_length 6 p))) ∙ ap hunting (six_bits p l))
come (waits {hs} at n) = (hs, where_at at)
come (awaits m k ok l) =
    let hs = hunted_start ++ pairs (bit_count m) (word_of m) in (
      hs ++ take k start_mark,
      stands_state (place.awaits k (gives m ok) l)
          ∙ ap (λ (p : ℕ). standing (Some m) p (suc k) 0) (six_after hs (frame_of m) (take k start_mark) (await_is (gives m ok))),
    )
come (reads {g} {hs} n w b low u) =
    let f = begun_by b in (
      f.history ++ pairs n w,
      reading_stood f.history g f.stood n w low u
          ∙ ap (λ (p : ℕ). standing g p (5 + 2 * n) w) (six_after f.history hs (pairs n w) f.six),
    )
come (halfway {g} {hs} n w x b low u l) =
    let f = begun_by b in (
      f.history ++ (pairs n w ++ x ∷ []),
      half_stood f.history g f.stood n w x low u l
          ∙ ap (λ (p : ℕ). standing g p (6 + 2 * n) w) (six_after f.history hs (pairs n w ++ x ∷ []) f.six),
    )

pub reachable_states : ReachableStates
reachable_states r = (λ h. reach_by (sym h.1) (reached (every_history_stands h.0)), λ x. back (come x))
  where
    back : (hs : List ℕ) × (state hs ≡ r) → (hs : List ℕ) × (receiver_after fresh_receiver hs ≡ r)
    back h = (h.0, state_after_lem h.0 ∙ h.1)
