-- What a fresh receiver answers to the last half-cycle of a history, and where it then stands; one half-cycle more, by where it stands.
--
--     answer, state, answer_more, state_after_lem         the answer and the state; after one half-cycle more; by the calls one after another
--     taken_bits, refuses, state_taken                the half-cycles that count are 0 or 1, and bring the receiver where all do
--     Told, Stood, told_stands, told_by, stood_by     the two, with the history's last six half-cycles as `past`
--     goes, breaks                                    nothing is said and it goes on; something is said and it hunts, and may wait
--     step_told, valid, fresh_stood                   one half-cycle, by what a single call gives; the state is valid; no half-cycle
--     hunt_told, start_told                           hunting, without a start and with one
--     first_told, equal_told, pair_told               a pair's first half-cycle, an equal pair, a pair of different half-cycles
use Rattle.std.specs.Prelude.{Option, None}
use Prim.Native.Nat.{ℕ, ◌+◌, ◌-◌, ◌*◌, ◌%◌, ◌^◌, ◌≤◌, ◌<◌}
use mathlib.Core.Path.{◌≡◌, refl, sym, ap, subst, ◌∙◌}
use mathlib.Core.Bool.{true}
use mathlib.Core.List.{List, [], ◌∷◌, ◌++◌, append_assoc}
use native.Mathlib.Decide.{dec_le}
use native.Mathlib.Omega.{arith}
use borrow.Author.Tests.{le-leb, lt-leb}
use Rattle.ground.specs.Refusals.{judged}
use Rattle.ground.specs.declared.Refusal.TheVariants as refusal
use Rattle.message.specs.declared.Message.{Message}
use Rattle.receiver.specs.Receivers.{step_of, takes_of, hunt_of, says, waiting, broken, waits_on, is_hunting, shifted, receiver_ok, fresh_receiver, pair_of}
use Rattle.receiver.specs.Hearing.{receiver_after, taken}
use Rattle.receiver.specs.declared.Receiver.{Receiver}
use Rattle.receiver.specs.declared.Event.{Event}
use Rattle.receiver.specs.declared.Event.TheVariants.{Nothing, BrokenPair, Refused}
use Rattle.receiver.specs.declared.Heard.{Heard}
use Rattle.receiver.proofs.ReceiverLaws.{fresh_is_valid, stays_valid}
use Rattle.receiver_laws.specs.Whole.{last_six}
use Rattle.receiver_laws.proofs.Pasts.{Bits}
use Rattle.receiver_laws.proofs.Steps.{standing, NoStart, hunts_on, step_first, step_second, step_equal}
use Rattle.receiver_reading.specs.Standing.{past_of}
use Rattle.receiver_reading.proofs.Histories.{six_more, six_half}
use Rattle.receiver_reading.proofs.Starts.{Found}

-- ---- the answer to the last half-cycle

unfoldable answered : Heard → List ℕ → Heard
answered o [] = o
answered o (h ∷ hs) = answered (step_of o.next h) hs

pub answer : List ℕ → Heard
answer hs = answered (says Nothing fresh_receiver) hs

abbrev pub state : List ℕ → Receiver
state hs = (answer hs).next

answered_append : (o : Heard) (hs ks : List ℕ) → answered o (hs ++ ks) ≡ answered (answered o hs) ks
unfolding answered
answered_append o [] ks = refl
answered_append o (h ∷ hs) ks = answered_append (step_of o.next h) hs ks

pub answer_more : (hs : List ℕ) (h : ℕ) → answer (hs ++ h ∷ []) ≡ step_of (state hs) h
unfolding answer answered
answer_more hs h = answered_append (says Nothing fresh_receiver) hs (h ∷ [])

after_answered : (o : Heard) (hs : List ℕ) → receiver_after o.next hs ≡ (answered o hs).next
unfolding answered receiver_after
after_answered o [] = refl
after_answered o (h ∷ hs) = after_answered (step_of o.next h) hs

pub state_after_lem : (hs : List ℕ) → receiver_after fresh_receiver hs ≡ state hs
unfolding answer
state_after_lem hs = after_answered (says Nothing fresh_receiver) hs

valid_answered : (o : Heard) (hs : List ℕ) → receiver_ok o.next ≡ true → receiver_ok (answered o hs).next ≡ true
unfolding answered
valid_answered o [] v = v
valid_answered o (h ∷ hs) v = valid_answered (step_of o.next h) hs (stays_valid o.next h v)

valid_state : (hs : List ℕ) (r : Receiver) → state hs ≡ r → receiver_ok r ≡ true
unfolding answer
valid_state hs r e = ap receiver_ok (sym e) ∙ valid_answered (says Nothing fresh_receiver) hs fresh_is_valid

-- ---- the half-cycles that count

pub taken_bits : (hs : List ℕ) → Bits (taken hs)
taken_bits [] = tt
taken_bits (h ∷ hs) = go (taken_bits hs) (dec_le h 1)
  where
    go : Bits (taken hs) → Dec (h ≤ 1) → Bits (taken (h ∷ hs))
    go i (yes l) = rw (le-leb h 1 l) (l, i)
    go i (no l) = rw (lt-leb h 1 (omega arith)) i

pub refuses : (r : Receiver) (h : ℕ) → 1 < h → step_of r h ≡ says (Refused refusal.Half) r
unfolding step_of judged
refuses r h l = rw (lt-leb h 1 l)

pub state_taken : (r : Receiver) (hs : List ℕ) → receiver_after r hs ≡ receiver_after r (taken hs)
unfolding receiver_after
state_taken r [] = refl
state_taken r (h ∷ hs) = go (λ s. state_taken s hs) (dec_le h 1)
  where
    go : ((s : Receiver) → receiver_after s hs ≡ receiver_after s (taken hs)) → Dec (h ≤ 1) → receiver_after r (h ∷ hs) ≡ receiver_after r (taken (h ∷ hs))
    go i (yes l) = rw (le-leb h 1 l) (i (step_of r h).next)
    go i (no l) = rw (lt-leb h 1 (omega arith)) (ap (λ (o : Heard). receiver_after o.next hs) (refuses r h (omega arith)) ∙ i r)

-- ---- the same with the last six half-cycles as `past`

abbrev pub Told : List ℕ → (ℕ → Heard) → Type 0
Told hs f = answer hs ≡ f (past_of hs)

abbrev pub Stood : List ℕ → Option Message → ℕ → ℕ → Type 0
Stood hs g a w = state hs ≡ standing g (past_of hs) a w

-- nothing is said, and so the receiver stands
abbrev pub goes : Option Message → ℕ → ℕ → ℕ → Heard
goes g a w p = says Nothing (standing g p a w)

-- the frame ends and the receiver hunts, `at` as given
abbrev pub breaks : Event → ℕ → ℕ → Heard
breaks e a p = says e (waiting p a)

pub told_stands : (hs : List ℕ) (f : ℕ → Heard) → Told hs f → state hs ≡ (f (past_of hs)).next
told_stands hs f t = ap (λ (o : Heard). o.next) t

pub told_by : (f : ℕ → Heard) {xs ys : List ℕ} → xs ≡ ys → Told xs f → Told ys f
told_by f e t = subst (λ (l : List ℕ). Told l f) e t

pub stood_by : (g : Option Message) (a w : ℕ) {xs ys : List ℕ} → xs ≡ ys → Stood xs g a w → Stood ys g a w
stood_by g a w e s = subst (λ (l : List ℕ). Stood l g a w) e s

module _ (hs : List ℕ) (g : Option Message) (a w : ℕ) (s : Stood hs g a w) where
  pub step_told : (h : ℕ) (f : ℕ → Heard) → step_of (standing g (past_of hs) a w) h ≡ f (shifted (past_of hs) h) → Told (hs ++ h ∷ []) f
  step_told h f e = answer_more hs h ∙ ap (λ (r : Receiver). step_of r h) s ∙ e ∙ ap f (sym (six_more hs h))

  pub valid : receiver_ok (standing g (past_of hs) a w) ≡ true
  valid = valid_state hs (standing g (past_of hs) a w) s

pub fresh_stood : Stood [] None 0 0
unfolding last_six answer answered
fresh_stood = refl

-- ---- hunting

module _ (hs : List ℕ) (a : ℕ) (s : Stood hs None a 0) (t : is_hunting a ≡ true) where
  pub hunt_told : (h : ℕ) → h ≤ 1 → NoStart (past_of hs) a h → Told (hs ++ h ∷ []) (goes None (waits_on a) 0)
  hunt_told h l n = step_told hs None a 0 s h (goes None (waits_on a) 0) (hunts_on (waiting (past_of hs) a) (valid hs None a 0 s) t h l n)

  -- a start is found, the hunted one or that which is waited for
  pub start_told : (h : ℕ) → h ≤ 1 → Found (past_of hs) a h → Told (hs ++ h ∷ []) (goes None 5 0)
  unfolding step_of judged takes_of hunt_of
  start_told h l f = step_told hs None a 0 s h (goes None 5 0) (rw (le-leb h 1 l, valid hs None a 0 s, t, f))

-- ---- the pairs

-- what a pair of different half-cycles brings, the first of them x
abbrev pub brings : List ℕ → Option Message → ℕ → ℕ → ℕ → ℕ → Heard
brings hs g n w x p = pair_of (standing g (past_of (hs ++ x ∷ [])) (5 + 2 * n + 1) w) (w * 2 + x) p

module _ (hs : List ℕ) (g : Option Message) (n w : ℕ) (s : Stood hs g (5 + 2 * n) w) (most : n ≤ 28) (x : ℕ) (l : x ≤ 1) where
  pub first_told : Told (hs ++ x ∷ []) (goes g (5 + 2 * n + 1) w)
  first_told =
      step_told hs g (5 + 2 * n) w s x (goes g (5 + 2 * n + 1) w)
      (step_first g (past_of hs) (5 + 2 * n) w x (valid hs g (5 + 2 * n) w s) l (omega arith) (omega arith) (omega arith))

  half : Stood (hs ++ x ∷ []) g (5 + 2 * n + 1) w
  half = told_stands (hs ++ x ∷ []) (goes g (5 + 2 * n + 1) w) first_told

  half_valid : receiver_ok (standing g (past_of (hs ++ x ∷ [])) (5 + 2 * n + 1) w) ≡ true
  half_valid = valid (hs ++ x ∷ []) g (5 + 2 * n + 1) w half

  pub equal_told : Told (hs ++ x ∷ x ∷ []) (λ p. says BrokenPair (broken p (5 + 2 * n + 1)))
  equal_told =
      let ks = hs ++ x ∷ [] in
      let f : ℕ → Heard = λ p. says BrokenPair (broken p (5 + 2 * n + 1)) in
      told_by f (append_assoc hs (x ∷ []) (x ∷ []))
      (step_told ks g (5 + 2 * n + 1) w half x f
      (step_equal g (past_of ks) (5 + 2 * n + 1) w x half_valid l (omega arith) (omega arith) (omega arith) (six_half hs x l)))

  pub pair_told : w < 2 ^ 28 → Told (hs ++ x ∷ (1 - x) ∷ []) (brings hs g n w x)
  pair_told low =
      let ks = hs ++ x ∷ [] in
      let last = six_half hs x l in
      let bits : w % 2 ^ 28 * 2 + past_of ks % 2 ≡ w * 2 + x = omega arith in
      told_by (brings hs g n w x) (append_assoc hs (x ∷ []) ((1 - x) ∷ []))
      (step_told ks g (5 + 2 * n + 1) w half (1 - x) (brings hs g n w x)
      (step_second g (past_of ks) (5 + 2 * n + 1) w (1 - x) half_valid (omega arith) (omega arith) (omega arith) (omega arith) (λ q. omega arith)
      ∙ ap (λ (b : ℕ). pair_of (standing g (past_of ks) (5 + 2 * n + 1) w) b (shifted (past_of ks) (1 - x))) bits))
