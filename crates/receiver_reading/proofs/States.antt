-- A derivation of a history brings the receiver where it says, and its last half-cycle is answered so. Each rule is followed half-cycle by
-- half-cycle; no start is seen inside an awaited one, because a frame ends in a pair of different half-cycles.
--
--     reading_stood, reading_told                    n pairs have been read; one more, and others follow
--     broken_told, unsupported_told, complete_told   a pair with which the frame ends
--     valid_message, valid_given                     a message that was given: it is one that there is
--     begun_ends, message_ends                       a start came, and a message's frame
--     at_bits                                        all half-cycles that came are 0 or 1
--     await_stood, await_told, lapse_told            k half-cycles of the awaited start came; one more, or another
--     since                                          a frame that broke began before
--     Where, hunts_told, where_at                    each mark
use Rattle.std.specs.Prelude.{Option, Some, None}
use Prim.Native.Nat.{ℕ, zero, suc, ◌+◌, ◌-◌, ◌*◌, ◌/◌, ◌%◌, ◌^◌, ◌≤◌, ◌<◌}
use mathlib.Core.Logic.{inl, inr, ◌≢◌}
use mathlib.Core.Path.{◌≡◌, refl, sym, ap, subst, ◌∙◌}
use mathlib.Core.Bool.{true, false, Bool, ◌||◌}
use mathlib.Core.List.{List, [], ◌∷◌, ◌++◌, append_assoc, append-nil}
use native.Mathlib.Decide.{ℕ_discrete}
use native.Mathlib.Numerals.{add-one}
use native.Mathlib.Omega.{arith}
use borrow.Author.Tests.{eq-eqb, ne_eqb}
use lib.Dec.{leb}
use lib.ListN.{length, get_or, take, drop, length-append, take-append-drop}
use lib.Seq.{take-suc}
use Rattle.ground.specs.Choice.{pick}
use Rattle.message.specs.Messages.{message_ok, same_message}
use Rattle.message.specs.Words.{word_of, bit_count}
use Rattle.message.specs.declared.Message.{Message}
use Rattle.message.proofs.CodeLaws.{same_is_equal}
use Rattle.message.proofs.WordLaws.{word_below}
use Rattle.burst.specs.Frames.{bits_of, frame_of}
use Rattle.burst.proofs.FrameLaws.{bits_length, pairs_length}
use Rattle.receiver.specs.Receivers.{says, hunting, shifted, start_hunted, start_waited, waits_on, broken as brokenBy, complete_of, pair_of}
use Rattle.receiver.specs.declared.Receiver.{Receiver}
use Rattle.receiver.specs.declared.Event.{Event}
use Rattle.receiver.specs.declared.Event.TheVariants.{Nothing, Message as Gives, Repeat, BrokenPair, BrokenUnsupported, Refused}
use Rattle.receiver.specs.declared.Heard.{Heard}
use Rattle.receiver_laws.specs.Whole.{last_six}
use Rattle.receiver_laws.proofs.Steps.{standing, NoStart, no_start_one, no_start_plain, step_wanted, step_unwanted}
use Rattle.receiver_laws.proofs.Pasts.{six_append, two_more, Bits, bits_of_lem, Clean, clean_frame}
use Rattle.receiver_laws.proofs.FrameBits.{framed}
use Rattle.receiver_reading.specs.Reading.{EndsIn, start_mark, pairs, Unfinished, NoSuchCode, Final, Mark, idle, begun, broke, said}
use Rattle.receiver_reading.specs.Reading.{Broke, none, early, late, broke_at, Begins}
use Rattle.receiver_reading.specs.Reading.{At, fresh, hunts, lapses, follows, resumes, hunted, awaited, message, repeated, equal, broken, unsupported}
use Rattle.receiver_reading.proofs.Words.{pairs_none, pairs-last, low_less, low_word, unfinished_low, unfinished_less, before_last}
use Rattle.receiver_reading.proofs.Words.{code_longer, code_unsupported}
use Rattle.receiver_reading.specs.Standing.{past_of, place_of}
use Rattle.receiver_reading.proofs.Histories.{bits_append, bits_front, bits_pairs, ends_append, ends_drop, ends_start}
use Rattle.receiver_reading.proofs.Starts.{place_hunts, Since, place_next, since_next, place_broken, since_broken, begins_found, found_begins}
use Rattle.receiver_reading.proofs.Answers.{answer, state, Told, Stood, goes, breaks, told_stands, told_by, stood_by, step_told, valid, fresh_stood}
use Rattle.receiver_reading.proofs.Answers.{hunt_told, start_told, brings, equal_told, pair_told}

-- ---- the pairs

-- a pair that others follow
pair_follows : (g : Option Message) (q o n w p : ℕ) → Unfinished (suc n) w → pair_of (standing g q (5 + 2 * n + 1) o) w p ≡ goes g (5 + 2 * suc n) w p
unfolding pair_of
pair_follows g q o n w p u = go u (ℕ_discrete n 8)
  where
    next : goes g (5 + 2 * n + 1 + 1) w p ≡ goes g (5 + 2 * suc n) w p
    next = ap (λ (k : ℕ). goes g k w p) (omega arith)

    go : Unfinished (suc n) w → Dec (n ≡ 8) → pair_of (standing g q (5 + 2 * n + 1) o) w p ≡ goes g (5 + 2 * suc n) w p
    go (inl h) d = rw (ne_eqb (5 + 2 * n + 1) 22 (λ z. omega arith), ne_eqb (5 + 2 * n + 1) 62 (λ z. omega arith)) next
    go (inr h) (yes e) =
        let long = code_longer w (ap (λ (k : ℕ). w / 2 ^ (suc k - 9) % 32) (sym e) ∙ h.2) in
        rw (eq-eqb (5 + 2 * n + 1) 22 (omega arith), long) next
    go (inr h) (no d) = rw (ne_eqb (5 + 2 * n + 1) 22 (λ z. omega arith), ne_eqb (5 + 2 * n + 1) 62 (λ z. omega (arith, h.1))) next

module _ (hs : List ℕ) (g : Option Message) (s : Stood hs g 5 0) where
  -- n pairs and one more, with which there are the bits of w
  module _ (n w : ℕ) (i : Stood (hs ++ pairs n (w / 2)) g (5 + 2 * n) (w / 2)) (u : Unfinished n (w / 2)) (low : w < 2 ^ suc n) where
    -- the six before the last half-cycle
    before : ℕ
    before = past_of ((hs ++ pairs n (w / 2)) ++ w % 2 ∷ [])

    last_pair : Told (hs ++ pairs (suc n) w) (λ p. pair_of (standing g before (5 + 2 * n + 1) (w / 2)) w p)
    unfolding before
    last_pair =
        let ks = hs ++ pairs n (w / 2) in
        let e : w / 2 * 2 + w % 2 ≡ w = omega arith in
        let j : ks ++ w % 2 ∷ (1 - w % 2) ∷ [] ≡ hs ++ pairs (suc n) w =
        append_assoc hs (pairs n (w / 2)) (w % 2 ∷ (1 - w % 2) ∷ []) ∙ ap (λ (l : List ℕ). hs ++ l) (sym (pairs-last n w)) in
        told_by (brings ks g n (w / 2) (w % 2)) j
        (pair_told ks g n (w / 2) i (unfinished_low n (w / 2) u) (w % 2) (omega arith) (low_word n (w / 2) u (low_less n w low)))
        ∙ ap (λ (b : ℕ). pair_of (standing g before (5 + 2 * n + 1) (w / 2)) b (past_of (hs ++ pairs (suc n) w))) e

    next_told : Unfinished (suc n) w → Told (hs ++ pairs (suc n) w) (goes g (5 + 2 * suc n) w)
    next_told more = last_pair ∙ pair_follows g before (w / 2) n w (past_of (hs ++ pairs (suc n) w)) more

  pub reading_stood : (n w : ℕ) → w < 2 ^ n → Unfinished n w → Stood (hs ++ pairs n w) g (5 + 2 * n) w
  reading_stood zero w low u =
      let none : 0 ≡ w = omega arith in
      stood_by g 5 w (sym (pairs_none hs w)) (s ∙ ap (λ (x : ℕ). standing g (past_of hs) 5 x) none)
  reading_stood (suc n) w low u =
      let v = unfinished_less n w u in
      told_stands (hs ++ pairs (suc n) w) (goes g (5 + 2 * suc n) w) (next_told n w (reading_stood n (w / 2) (low_less n w low) v) v low u)

  module _ (n w : ℕ) (low : w < 2 ^ suc n) (u : Unfinished n (w / 2)) where
    so_far : Stood (hs ++ pairs n (w / 2)) g (5 + 2 * n) (w / 2)
    so_far = reading_stood n (w / 2) (low_less n w low) u

    pub reading_told : Unfinished (suc n) w → Told (hs ++ pairs (suc n) w) (goes g (5 + 2 * suc n) w)
    reading_told more = next_told n w so_far u low more

    ends_told : (f : ℕ → Heard) → ((q p : ℕ) → pair_of (standing g q (5 + 2 * n + 1) (w / 2)) w p ≡ f p) → Told (hs ++ pairs (suc n) w) f
    ends_told f e = last_pair n w so_far u low ∙ e (before n w so_far u low) (past_of (hs ++ pairs (suc n) w))

  broken_told : (n w x : ℕ) → w < 2 ^ n → Unfinished n w → x ≤ 1
      → Told (hs ++ (pairs n w ++ x ∷ x ∷ [])) (λ p. says BrokenPair (brokenBy p (5 + 2 * n + 1)))
  broken_told n w x low u l =
      told_by (λ p. says BrokenPair (brokenBy p (5 + 2 * n + 1))) (append_assoc hs (pairs n w) (x ∷ x ∷ []))
      (equal_told (hs ++ pairs n w) g n w (reading_stood n w low u) (unfinished_low n w u) x l)

  unsupported_told : (w : ℕ) → NoSuchCode w → Told (hs ++ pairs 9 w) (breaks BrokenUnsupported 0)
  unfolding pair_of
  unsupported_told w c = ends_told 8 w c.nine (inl (omega arith)) (breaks BrokenUnsupported 0) (λ q p. rw (code_unsupported w c))

  complete_told : (m : Message) → message_ok m ≡ true → Told (hs ++ pairs (bit_count m) (word_of m)) (complete_of g m)
  complete_told m ok =
      let F = framed m ok in
      let n = F.rest in
      let w = word_of m in
      let low : w < 2 ^ suc n = subst (λ (k : ℕ). w < 2 ^ k) F.count (word_below m ok) in
      rw F.count
      (ends_told n w low (before_last m n ok F.count) (complete_of g m) (λ q p. F.last g q p (5 + 2 * n) (w / 2) (omega arith)))

-- ---- messages given

pub valid_message : {m : Message} {hs : List ℕ} → At (said (Gives m)) hs → message_ok m ≡ true
valid_message (message m a ok n) = ok

pub valid_given : {m : Message} {hs : List ℕ} → At (begun (Some m)) hs → message_ok m ≡ true
valid_given (awaited a) = valid_message a

begins_start : (o : Broke) (hs : List ℕ) → Begins o hs → EndsIn start_mark hs
begins_start none hs e = ends_drop (0 ∷ 0 ∷ 0 ∷ []) start_mark hs e
begins_start (early s) hs (inl e) = ends_drop (0 ∷ 0 ∷ 0 ∷ []) start_mark hs e
begins_start (early s) hs (inr (inl t)) = t.0
begins_start (early s) hs (inr (inr t)) = t.0
begins_start (late s) hs (inl e) = ends_drop (0 ∷ 0 ∷ 0 ∷ []) start_mark hs e
begins_start (late s) hs (inr t) = t.0

pub begun_ends : {g : Option Message} {hs : List ℕ} → At (begun g) hs → EndsIn start_mark hs
begun_ends (hunted {hs} {o} h a s) = begins_start o (hs ++ h ∷ []) s
begun_ends (awaited {hs} a) = (hs, refl)

pub message_ends : {m : Message} {hs : List ℕ} → At (said (Gives m)) hs → EndsIn (frame_of m) hs
unfolding frame_of
message_ends (message {hs} m a ok n) = ends_append start_mark (pairs (bit_count m) (word_of m)) hs (begun_ends a)

-- ---- the half-cycles that came are 0 or 1

start_bits : (k : ℕ) → Bits (take k start_mark)
start_bits k = bits_front (take k start_mark) (drop k start_mark) (subst (λ (l : List ℕ). Bits l) (sym (take-append-drop k start_mark)) (omega arith))

all_bits : (n w : ℕ) → Bits (pairs n w)
all_bits n w = bits_pairs (bits_of n w) (bits_of_lem n w)

-- a start ends in 0
hunted_half : (o : Broke) (hs : List ℕ) (h : ℕ) → Begins o (hs ++ h ∷ []) → h ≤ 1
hunted_half o hs h s = omega (arith, (ends_start hs h (begins_start o (hs ++ h ∷ []) s)).1)

pub at_bits : {mark : Mark} {hs : List ℕ} → At mark hs → Bits hs
at_bits fresh = tt
at_bits (hunts {hs} h a l n) = bits_append hs (h ∷ []) (at_bits a) (l, tt)
at_bits (lapses {hs} k h a l c d) =
    bits_append hs (take k start_mark ++ h ∷ []) (at_bits a) (bits_append (take k start_mark) (h ∷ []) (start_bits k) (c, tt))
at_bits (follows f a) = at_bits a
at_bits (resumes a) = at_bits a
at_bits (hunted {hs} {o} h a s) = bits_append hs (h ∷ []) (at_bits a) (hunted_half o hs h s, tt)
at_bits (awaited {hs} a) = bits_append hs start_mark (at_bits a) (omega arith)
at_bits (message {hs} m a ok n) = bits_append hs (pairs (bit_count m) (word_of m)) (at_bits a) (all_bits (bit_count m) (word_of m))
at_bits (repeated {hs} {m} a) = bits_append hs (pairs (bit_count m) (word_of m)) (at_bits a) (all_bits (bit_count m) (word_of m))
at_bits (equal {hs} n w x a low u l) = bits_append hs _ (at_bits a) (bits_append (pairs n w) _ (all_bits n w) (omega arith))
at_bits (broken a) = at_bits a
at_bits (unsupported {hs} w a c) = bits_append hs (pairs 9 w) (at_bits a) (all_bits 9 w)

-- ---- the awaited start

-- after a message the last six are those of its frame
clean : {m : Message} {hs : List ℕ} → At (said (Gives m)) hs → Clean (past_of hs)
clean {m} {hs} a =
    let e = message_ends a in
    subst (λ (p : ℕ). Clean p) (sym (six_append 63 e.0 (frame_of m)) ∙ ap past_of e.1) (clean_frame m (past_of e.0))

-- each of its half-cycles is the one that the receiver awaits
start_half : (k : ℕ) → k ≤ 3 → (get_or start_mark k 0 ≡ pick (leb (suc k) 3) 1 0) × (get_or start_mark k 0 ≤ 1)
start_half zero l = (refl, omega arith)
start_half (suc zero) l = (refl, omega arith)
start_half (suc (suc zero)) l = (refl, omega arith)
start_half (suc (suc (suc zero))) l = (refl, omega arith)
start_half (suc (suc (suc (suc k)))) l = absurd (omega arith)

-- another one does not complete 0 0 0 1 1 1 0
no_start : (k p h : ℕ) → k ≤ 3 → h ≤ 1 → h ≢ get_or start_mark k 0 → Clean p → NoStart (last_six p (take k start_mark)) 0 h
unfolding last_six
no_start zero p h l b d c = no_start_plain p h (λ e. omega arith)
no_start (suc zero) p h l b d c =
    let low : p % 4 ≡ p % 32 % 4 = omega arith in
    no_start_plain (shifted p 1) h
    (λ e. let three : p % 32 ≡ 3 = omega arith in let both : p % 4 ≡ 3 = low ∙ ap (λ (x : ℕ). x % 4) three in omega (arith, both, c.high))
no_start (suc (suc zero)) p h l b d c =
    let two = two_more p 1 1 (omega arith) in
    no_start_plain (shifted (shifted p 1) 1) h (λ e. let four : p % 16 * 4 + 3 ≡ 7 = sym two ∙ e in c.apart (omega arith))
no_start (suc (suc (suc zero))) p h l b d c =
    let one : h ≡ 1 = omega arith in
    rw one (no_start_one (last_six p (take 3 start_mark)) 0)
no_start (suc (suc (suc (suc k)))) p h l b d c = absurd (omega arith)

module _ (m : Message) (hs : List ℕ) (a : At (said (Gives m)) hs) (s : Stood hs (Some m) 1 0) where
  abbrev so : ℕ → List ℕ
  so k = hs ++ take k start_mark

  next_start : (k : ℕ) → k ≤ 3 → Stood (so k) (Some m) (suc k) 0 → Told (so (suc k)) (goes (Some m) (suc k + 1) 0)
  next_start k l i =
      let h = get_or start_mark k 0 in
      let w = start_half k l in
      let more : take (suc k) start_mark ≡ take k start_mark ++ h ∷ [] = take-suc start_mark k 0 (omega arith) in
      let j : so k ++ h ∷ [] ≡ so (suc k) = append_assoc hs (take k start_mark) (h ∷ []) ∙ ap (λ (x : List ℕ). hs ++ x) (sym more) in
      told_by (goes (Some m) (suc k + 1) 0) j
      (step_told (so k) (Some m) (suc k) 0 i h (goes (Some m) (suc k + 1) 0)
      (step_wanted (Some m) (past_of (so k)) (suc k) 0 h (valid (so k) (Some m) (suc k) 0 i) w.1 (omega arith) (omega arith) w.0))

  pub await_stood : (k : ℕ) → k ≤ 4 → Stood (so k) (Some m) (suc k) 0
  await_stood zero l = stood_by (Some m) 1 0 (sym (append-nil hs)) s
  await_stood (suc k) l =
      told_stands (so (suc k)) (goes (Some m) (suc k + 1) 0) (next_start k (omega arith) (await_stood k (omega arith)))
      ∙ ap (λ (x : ℕ). standing (Some m) (past_of (so (suc k))) x 0) (omega arith)

  pub await_told : (k : ℕ) → k ≤ 3 → Told (so (suc k)) (goes (Some m) (suc k + 1) 0)
  await_told k l = next_start k l (await_stood k (omega arith))

  pub lapse_told : (k h : ℕ) → k ≤ 3 → h ≤ 1 → h ≢ get_or start_mark k 0 → Told (hs ++ (take k start_mark ++ h ∷ [])) (goes None 0 0)
  lapse_told k h l b d =
      let i = await_stood k (omega arith) in
      let unwanted : h ≢ pick (leb (suc k) 3) 1 0 = λ e. d (e ∙ sym (start_half k l).0) in
      let none : NoStart (past_of (so k)) 0 h = rw (six_append 63 hs (take k start_mark)) (no_start k (past_of hs) h l b d (clean a)) in
      told_by (goes None 0 0) (append_assoc hs (take k start_mark) (h ∷ []))
      (step_told (so k) (Some m) (suc k) 0 i h (goes None 0 0)
      (step_unwanted (Some m) (past_of (so k)) (suc k) 0 h (valid (so k) (Some m) (suc k) 0 i) b (omega arith) (omega arith) unwanted none))

-- ---- a frame that broke

-- how long the list is then
pairs_long : (n w : ℕ) → length (pairs n w) ≡ 2 * n
pairs_long n w = omega (arith, pairs_length (bits_of n w), bits_length n w)

begun_long : {g : Option Message} {hs : List ℕ} → At (begun g) hs → 4 ≤ length hs
begun_long a = let e = begun_ends a in omega (arith, length-append e.0 start_mark, ap length e.1)

broken_long : (hs : List ℕ) (n w x : ℕ) → length (hs ++ (pairs n w ++ x ∷ x ∷ [])) ≡ length hs + (2 * n + 2)
broken_long hs n w x =
    let ps = pairs n w in
    omega (arith, length-append hs (ps ++ x ∷ x ∷ []), length-append ps (x ∷ x ∷ []), pairs_long n w)

-- its start began before the break
start_before : (hs xs : List ℕ) → length hs - 4 ≤ length (hs ++ xs)
start_before hs xs = omega (arith, length-append hs xs)

since_broke : {s n : ℕ} {hs : List ℕ} → At (broke s n) hs → Since (broke_at s n) (length hs)
since_broke (equal {hs} n w x a low u l) = since_broken (length hs - 4) n _ (start_before hs _)

-- what is waited after began before
pub since : {o : Broke} {hs : List ℕ} → At (idle o) hs → Since o (length hs)
since fresh = tt
since (hunts {hs} {o} h a l n) =
    subst (λ (k : ℕ). Since o k) (sym (length-append hs (h ∷ []) ∙ add-one (length hs))) (since_next o (length hs) (since a))
since (lapses k h a l c d) = tt
since (follows f a) = omega arith
since (resumes a) = since_broke a

-- ---- each mark

-- what is left after an event: a message's start is awaited, or the receiver hunts and waits for none
abbrev Left : Event → List ℕ → Type 0
Left Nothing hs = Unit {0}
Left (Gives m) hs = Stood hs (Some m) 1 0
Left Repeat hs = Stood hs None 0 0
Left BrokenPair hs = Unit {0}
Left BrokenUnsupported hs = Stood hs None 0 0
Left (Refused why) hs = Unit {0}

abbrev pub Where : Mark → List ℕ → Type 0
Where (idle o) hs = Stood hs None (place_of o (length hs)) 0
Where (begun g) hs = Stood hs g 5 0
Where (broke s n) hs = Told hs (breaks BrokenPair (place_of (broke_at s n) (length hs)))
Where (said e) hs = ((answer hs).event ≡ e) × Left e hs

final : (e : Event) (hs : List ℕ) → Final e → Left e hs → Stood hs None 0 0
final Nothing hs f s = absurd f
final (Gives m) hs f s = absurd f
final Repeat hs f s = s
final BrokenPair hs f s = absurd f
final BrokenUnsupported hs f s = s
final (Refused why) hs f s = absurd f

no_frame : (o : Broke) (hs : List ℕ) (h : ℕ) → Bits hs → (Begins o (hs ++ h ∷ []) → ⊥) → NoStart (past_of hs) (place_of o (length hs)) h
no_frame o hs h b n = go (start_hunted (past_of hs) h || start_waited (past_of hs) (place_of o (length hs)) h) (λ f. n (found_begins hs h b o f))
  where
    go : (c : Bool) → (c ≡ true → ⊥) → c ≡ false
    go true m = absurd (m refl)
    go false m = refl

new_message : (g : Option Message) (m : Message) (p : ℕ) → g ≢ Some m → complete_of g m p ≡ says (Gives m) (standing (Some m) p 1 0)
unfolding complete_of
new_message None m p n = refl
new_message (Some k) m p n = rw (other (same_message k m) refl)
  where
    other : (b : Bool) → same_message k m ≡ b → same_message k m ≡ false
    other true e = absurd (n (ap Some ((same_is_equal k m).0 e)))
    other false e = e

same_message_lem : (m : Message) (p : ℕ) → complete_of (Some m) m p ≡ breaks Repeat 0 p
unfolding complete_of
same_message_lem m p = rw ((same_is_equal m m).1 refl)

-- both parts at once
said_so : (e : Event) (hs : List ℕ) (r : Receiver) → answer hs ≡ says e r → ((answer hs).event ≡ e) × (state hs ≡ r)
said_so e hs r t = (ap (λ (o : Heard). o.event) t, ap (λ (o : Heard). o.next) t)

-- the hunt goes on, and the waiting with it
pub hunts_told : (o : Broke) (hs : List ℕ) (h : ℕ) → Since o (length hs) → Stood hs None (place_of o (length hs)) 0 → h ≤ 1
    → NoStart (past_of hs) (place_of o (length hs)) h → Told (hs ++ h ∷ []) (goes None (place_of o (length (hs ++ h ∷ []))) 0)
hunts_told o hs h i s l n =
    let next : waits_on (place_of o (length hs)) ≡ place_of o (length (hs ++ h ∷ [])) =
    place_next o (length hs) i ∙ ap (place_of o) (sym (length-append hs (h ∷ []) ∙ add-one (length hs))) in
    hunt_told hs (place_of o (length hs)) s (place_hunts o (length hs)) h l n ∙ ap (λ (a : ℕ). goes None a 0 (past_of (hs ++ h ∷ []))) next

pub where_at : {mark : Mark} {hs : List ℕ} → At mark hs → Where mark hs
where_at fresh = fresh_stood
where_at (hunts {hs} {o} h a l n) =
    told_stands (hs ++ h ∷ []) (goes None (place_of o (length (hs ++ h ∷ []))) 0)
    (hunts_told o hs h (since a) (where_at a) l (no_frame o hs h (at_bits a) n))
where_at (lapses {hs} {m} k h a l c d) = told_stands (hs ++ (take k start_mark ++ h ∷ [])) (goes None 0 0) (lapse_told m hs a (where_at a).1 k h l c d)
where_at (follows {hs} {e} f a) = final e hs f (where_at a).1
where_at (resumes {hs} {s} {n} a) = told_stands hs (breaks BrokenPair (place_of (broke_at s n) (length hs))) (where_at a)
where_at (hunted {hs} {o} h a s) =
    told_stands (hs ++ h ∷ []) (goes None 5 0)
    (start_told hs (place_of o (length hs)) (where_at a) (place_hunts o (length hs)) h (hunted_half o hs h s) (begins_found hs h o s))
where_at (awaited {hs} {m} a) = await_stood m hs a (where_at a).1 4 (omega arith)
where_at (message {hs} {g} m a ok n) =
    let ks = hs ++ pairs (bit_count m) (word_of m) in
    said_so (Gives m) ks (standing (Some m) (past_of ks) 1 0) (complete_told hs g (where_at a) m ok ∙ new_message g m (past_of ks) n)
where_at (repeated {hs} {m} a) =
    let ks = hs ++ pairs (bit_count m) (word_of m) in
    said_so Repeat ks (hunting (past_of ks)) (complete_told hs (Some m) (where_at a) m (valid_given a) ∙ same_message_lem m (past_of ks))
where_at (equal {hs} {g} n w x a low u l) =
    let ks = hs ++ (pairs n w ++ x ∷ x ∷ []) in
    let long : length ks ≡ length hs - 4 + (5 + 2 * n + 1) = omega (arith, broken_long hs n w x, begun_long a) in
    let place = place_broken (length hs - 4) n (length ks) (5 + 2 * n + 1) (unfinished_low n w u) (omega arith) long in
    broken_told hs g (where_at a) n w x low u l ∙ ap (λ (k : ℕ). breaks BrokenPair k (past_of ks)) place
where_at (broken a) = (ap (λ (o : Heard). o.event) (where_at a), tt)
where_at (unsupported {hs} {g} w a c) =
    let ks = hs ++ pairs 9 w in
    said_so BrokenUnsupported ks (hunting (past_of ks)) (unsupported_told hs g (where_at a) w c)
