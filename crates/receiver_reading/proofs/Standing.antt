-- Where a history stands in the grammar: every list of 0 and 1 stands somewhere, and with each half-cycle more either something ends there or
-- nothing is said. Of each place it is shown what the next half-cycle makes of it; what is said there is known from the derivation.
--
--     half_stood, stands_state     where a history stands is the receiver's state after it
--     Step, one_more               what one half-cycle more makes of it
--     all_stand                    every list of 0 and 1 stands somewhere
--     last_step                    and what its last half-cycle was
--     every_history_stands         the theorem of specs/Standing.antt
use Rattle.std.specs.Prelude.{Option, Some, None}
use Prim.Native.Nat.{ℕ, suc, ◌+◌, ◌-◌, ◌*◌, ◌/◌, ◌%◌, ◌^◌, ◌≤◌, ◌<◌}
use mathlib.Core.Logic.{inl, inr}
use mathlib.Core.Path.{◌≡◌, refl, sym, ap, ap₂, subst, ◌∙◌}
use mathlib.Core.Bool.{Bool, true, false, false≢true, ◌||◌}
use mathlib.Core.List.{List, [], ◌∷◌, ◌++◌, append_assoc, append-nil}
use native.Mathlib.Decide.{ℕ_discrete, dec_le}
use native.Mathlib.Omega.{arith}
use lib.ListN.{length, get_or, take}
use lib.Seq.{take-suc}
use Rattle.message.specs.Messages.{message_ok, same_message}
use Rattle.message.specs.Words.{word_of, bit_count, standard_of, extended_of}
use Rattle.message.specs.declared.Message.{Message}
use Rattle.message.specs.declared.word.Reading.{Reading}
use Rattle.message.specs.declared.word.Reading.TheVariants.{Message as Says, Longer, Unsupported}
use Rattle.message.proofs.CodeLaws.{same_is_equal}
use Rattle.receiver.specs.Receivers.{fresh_receiver, start_hunted, start_waited}
use Rattle.receiver.specs.Hearing.{receiver_after, taken}
use Rattle.receiver.specs.declared.Receiver.{Receiver}
use Rattle.receiver.specs.declared.Event.{Event}
use Rattle.receiver.specs.declared.Event.TheVariants.{Nothing, Message as Gives}
use Rattle.receiver.specs.declared.Heard.{Heard}
use Rattle.receiver_laws.proofs.Steps.{standing}
use Rattle.receiver_laws.proofs.Pasts.{Bits}
use Rattle.receiver_reading.specs.Reading.{start_mark, pairs, Unfinished, Broke, idle, begun, said}
use Rattle.receiver_reading.specs.Reading.{At, fresh, hunts, lapses, follows, resumes, hunted, awaited, message, repeated, equal, broken, unsupported}
use Rattle.receiver_reading.specs.Standing.{past_of, place_of, StandsAfter, idles, awaits, reads, halfway, EveryHistoryStands}
use Rattle.receiver_reading.proofs.Words.{pairs_none, pairs_more, low_more, unfinished_low, unfinished_more, unfinished_last}
use Rattle.receiver_reading.proofs.Words.{WordIs, word_of-nine, word_of-all, longer_code, unsupported_code_lem}
use Rattle.receiver_reading.proofs.Starts.{place_hunts, begins_found, found_begins}
use Rattle.receiver_reading.proofs.Answers.{answer, state, state_after_lem, taken_bits, state_taken, Told, Stood, goes, told_stands, stood_by}
use Rattle.receiver_reading.proofs.Answers.{start_told, first_told}
use Rattle.receiver_reading.proofs.States.{reading_stood, reading_told, await_stood, await_told, lapse_told, at_bits, since, hunts_told, where_at}

-- ---- the state at each place

pub half_stood : (hs : List ℕ) (g : Option Message) → Stood hs g 5 0 → (n w x : ℕ) → w < 2 ^ n → Unfinished n w → x ≤ 1
    → Stood (hs ++ (pairs n w ++ x ∷ [])) g (6 + 2 * n) w
half_stood hs g s n w x low u l =
    let ks = hs ++ pairs n w in
    let next : 5 + 2 * n + 1 ≡ 6 + 2 * n = omega arith in
    stood_by g (6 + 2 * n) w (append_assoc hs (pairs n w) (x ∷ []))
    (told_stands (ks ++ x ∷ []) (goes g (5 + 2 * n + 1) w) (first_told ks g n w (reading_stood hs g s n w low u) (unfinished_low n w u) x l)
    ∙ ap (λ (a : ℕ). standing g (past_of (ks ++ x ∷ [])) a w) next)

pub stands_state : {hs : List ℕ} {r : Receiver} → StandsAfter hs r → state hs ≡ r
stands_state (idles at) = where_at at
stands_state (awaits {hs} {m} k at l) = await_stood m hs at (where_at at).1 k (omega arith)
stands_state (reads {hs} {g} n w at low u) = reading_stood hs g (where_at at) n w low u
stands_state (halfway {hs} {g} n w x at low u l) = half_stood hs g (where_at at) n w x low u l

-- ---- at one of the places, whichever

pub data Somewhere (hs : List ℕ) : Type 0 where
  stands : {r : Receiver} → StandsAfter hs r → Somewhere hs

-- the last half-cycle ended something, or nothing was said of it
pub data Step (hs : List ℕ) : Type 0 where
  ends : {e : Event} → At (said e) hs → Step hs
  quiet : (answer hs).event ≡ Nothing → Somewhere hs → Step hs

stands_by : {xs ys : List ℕ} → xs ≡ ys → Somewhere xs → Somewhere ys
stands_by e s = subst (λ (l : List ℕ). Somewhere l) e s

step_by : {xs ys : List ℕ} → xs ≡ ys → Step xs → Step ys
step_by e s = subst (λ (l : List ℕ). Step l) e s

quietly : (g : Option Message) (a w : ℕ) {hs : List ℕ} → Told hs (goes g a w) → Somewhere hs → Step hs
quietly g a w t s = quiet (ap (λ (o : Heard). o.event) t) s

-- ---- hunting

module _ (hs : List ℕ) (o : Broke) (at : At (idle o) hs) where
  hunting_stood : Stood hs None (place_of o (length hs)) 0
  hunting_stood = where_at at

  -- a start is found, or none
  idle_step : (h : ℕ) → h ≤ 1 → Step (hs ++ h ∷ [])
  idle_step h l = go (start_hunted (past_of hs) h || start_waited (past_of hs) (place_of o (length hs)) h) refl
    where
      go : (c : Bool) → (start_hunted (past_of hs) h || start_waited (past_of hs) (place_of o (length hs)) h) ≡ c → Step (hs ++ h ∷ [])
      go true f =
          quietly None 5 0 (start_told hs (place_of o (length hs)) hunting_stood (place_hunts o (length hs)) h l f)
          (stands_by (pairs_none (hs ++ h ∷ []) 0) (stands (reads 0 0 (hunted h at (found_begins hs h (at_bits at) o f)) (omega arith) (inl (omega arith)))))
      go false n =
          quietly None (place_of o (length (hs ++ h ∷ []))) 0 (hunts_told o hs h (since at) hunting_stood l n)
          (stands (idles (hunts h at l (λ b. false≢true (sym n ∙ begins_found hs h o b)))))

-- ---- the awaited start

module _ (hs : List ℕ) (m : Message) (at : At (said (Gives m)) hs) where
  -- k of its half-cycles came
  start_stands : (k : ℕ) → k ≤ 4 → Somewhere (hs ++ take k start_mark)
  start_stands k l = go (dec_le k 3)
    where
      go : Dec (k ≤ 3) → Somewhere (hs ++ take k start_mark)
      go (yes b) = stands (awaits k at b)
      go (no n) =
          let four : 4 ≡ k = omega arith in
          subst (λ (j : ℕ). Somewhere (hs ++ take j start_mark)) four
          (stands_by (pairs_none (hs ++ start_mark) 0) (stands (reads 0 0 (awaited at) (omega arith) (inl (omega arith)))))

  await_step : (k h : ℕ) → k ≤ 3 → h ≤ 1 → Step (hs ++ (take k start_mark ++ h ∷ []))
  await_step k h l b = go (ℕ_discrete h (get_or start_mark k 0))
    where
      s : Stood hs (Some m) 1 0
      s = (where_at at).1

      go : Dec (h ≡ get_or start_mark k 0) → Step (hs ++ (take k start_mark ++ h ∷ []))
      go (yes e) =
          let more : take (suc k) start_mark ≡ take k start_mark ++ h ∷ [] =
          take-suc start_mark k 0 (omega arith) ∙ ap (λ (x : ℕ). take k start_mark ++ x ∷ []) (sym e) in
          step_by (ap (λ (l : List ℕ). hs ++ l) more) (quietly (Some m) (suc k + 1) 0 (await_told m hs at s k l) (start_stands (suc k) (omega arith)))
      go (no d) = quietly None 0 0 (lapse_told m hs at s k h l b d) (stands (idles (lapses k h at l b d)))

-- ---- a frame

-- it is whole
completes : (hs : List ℕ) (g : Option Message) (m : Message) → At (begun g) hs → message_ok m ≡ true → Step (hs ++ pairs (bit_count m) (word_of m))
completes hs None m at ok = ends (message m at ok (λ e. false≢true cc))
completes hs (Some k) m at ok = go (same_message k m) refl
  where
    go : (b : Bool) → same_message k m ≡ b → Step (hs ++ pairs (bit_count m) (word_of m))
    go true e = ends (repeated (subst (λ (n : Message). At (begun (Some n)) hs) ((same_is_equal k m).0 e) at))
    go false e = ends (message m at ok (λ q. let same : k ≡ m = cc in false≢true (sym e ∙ (same_is_equal k m).1 same)))

module _ (hs : List ℕ) (g : Option Message) (at : At (begun g) hs) where
  frame_stood : Stood hs g 5 0
  frame_stood = where_at at

  first_step : (n w h : ℕ) → w < 2 ^ n → Unfinished n w → h ≤ 1 → Step ((hs ++ pairs n w) ++ h ∷ [])
  first_step n w h low u l =
      quietly g (5 + 2 * n + 1) w (first_told (hs ++ pairs n w) g n w (reading_stood hs g frame_stood n w low u) (unfinished_low n w u) h l)
      (stands_by (sym (append_assoc hs (pairs n w) (h ∷ []))) (stands (halfway n w h at low u l)))

  -- the pair with which there are the bits of w
  module _ (n w : ℕ) (low : w < 2 ^ suc n) (u : Unfinished n (w / 2)) where
    goes_on : Unfinished (suc n) w → Step (hs ++ pairs (suc n) w)
    goes_on more = quietly g (5 + 2 * suc n) w (reading_told hs g frame_stood n w low u more) (stands (reads (suc n) w at low more))

    whole : (m : Message) → WordIs (suc n) w m → Step (hs ++ pairs (suc n) w)
    whole m e = step_by (ap₂ (λ (k v : ℕ). hs ++ pairs k v) e.count e.word) (completes hs g m at e.valid)

    nine_low : n ≡ 8 → w < 2 ^ 9
    nine_low e = subst (λ (k : ℕ). w < 2 ^ suc k) e low

    ninth : n ≡ 8 → (x : Reading) → standard_of w ≡ x → Step (hs ++ pairs (suc n) w)
    ninth e (Says m) r = whole m (subst (λ (k : ℕ). WordIs (suc k) w m) (sym e) (word_of-nine w (nine_low e) m r))
    ninth e Longer r =
        let none : suc n - 9 ≡ 0 = omega arith in
        goes_on (inr (omega arith, omega arith, ap (λ (k : ℕ). w / 2 ^ k % 32) none ∙ longer_code w r))
    ninth e Unsupported r =
        subst (λ (k : ℕ). Step (hs ++ pairs (suc k) w)) (sym e) (ends (unsupported w at (unsupported_code_lem w (nine_low e) r)))

    pair_step : Step (hs ++ pairs (suc n) w)
    pair_step = go (ℕ_discrete n 8) (ℕ_discrete n 28)
      where
        go : Dec (n ≡ 8) → Dec (n ≡ 28) → Step (hs ++ pairs (suc n) w)
        go (yes e) d = ninth e (standard_of w) refl
        go (no d) (yes e) =
            let all : w < 2 ^ 29 = subst (λ (k : ℕ). w < 2 ^ suc k) e low in
            let word = word_of-all w all (unfinished_last w (subst (λ (k : ℕ). Unfinished k (w / 2)) e u)) in
            whole (extended_of w) (subst (λ (k : ℕ). WordIs (suc k) w (extended_of w)) (sym e) word)
        go (no d) (no e) = goes_on (unfinished_more n w u d e)

  second_step : (n w x h : ℕ) → w < 2 ^ n → Unfinished n w → x ≤ 1 → h ≤ 1 → Step (hs ++ (pairs n w ++ x ∷ h ∷ []))
  second_step n w x h low u l b = go (ℕ_discrete x h)
    where
      go : Dec (x ≡ h) → Step (hs ++ (pairs n w ++ x ∷ h ∷ []))
      go (yes e) = rw (sym e) (ends (broken (equal n w x at low u l)))
      go (no d) =
          let other : 1 - x ≡ h = omega arith in
          let half : w ≡ (w * 2 + x) / 2 = omega arith in
          let more : pairs (suc n) (w * 2 + x) ≡ pairs n w ++ x ∷ h ∷ [] = pairs_more n w x l ∙ ap (λ (y : ℕ). pairs n w ++ x ∷ y ∷ []) other in
          step_by (ap (λ (l : List ℕ). hs ++ l) more)
          (pair_step n (w * 2 + x) (low_more n w x l low) (subst (λ (v : ℕ). Unfinished n v) half u))

-- ---- every half-cycle

one_more : {hs : List ℕ} {r : Receiver} → StandsAfter hs r → (h : ℕ) → h ≤ 1 → Step (hs ++ h ∷ [])
one_more (idles {hs} {o} at) h b = idle_step hs o at h b
one_more (awaits {hs} {m} k at l) h b = step_by (sym (append_assoc hs (take k start_mark) (h ∷ []))) (await_step hs m at k h l b)
one_more (reads {hs} {g} n w at low u) h b = first_step hs g at n w h low u b
one_more (halfway {hs} {g} n w x at low u l) h b =
    let ps = pairs n w ++ x ∷ [] in
    step_by (ap (λ (l : List ℕ). hs ++ l) (sym (append_assoc (pairs n w) (x ∷ []) (h ∷ []))) ∙ sym (append_assoc hs ps (h ∷ [])))
    (second_step hs g at n w x h low u l b)

-- and after what ends there
said_stands : {e : Event} {hs : List ℕ} → At (said e) hs → Somewhere hs
said_stands (message {hs} m a ok n) =
    stands_by (append-nil (hs ++ pairs (bit_count m) (word_of m))) (stands (awaits 0 (message m a ok n) (omega arith)))
said_stands (repeated a) = stands (idles (follows tt (repeated a)))
said_stands (broken a) = stands (idles (resumes a))
said_stands (unsupported w a c) = stands (idles (follows tt (unsupported w a c)))

next : {hs : List ℕ} → Step hs → Somewhere hs
next (ends a) = said_stands a
next (quiet e s) = s

-- where a history stands, the receiver does
receiver_stands : {hs : List ℕ} → Somewhere hs → StandsAfter hs (state hs)
receiver_stands {hs} (stands s) = subst (λ (r : Receiver). StandsAfter hs r) (sym (stands_state s)) s

stands_from : (ks hs : List ℕ) → Bits hs → StandsAfter ks (state ks) → StandsAfter (ks ++ hs) (state (ks ++ hs))
stands_from ks [] b s = subst (λ (l : List ℕ). StandsAfter l (state l)) (sym (append-nil ks)) s
stands_from ks (h ∷ hs) b s =
    subst (λ (l : List ℕ). StandsAfter l (state l)) (append_assoc ks (h ∷ []) hs)
    (stands_from (ks ++ h ∷ []) hs b.1 (receiver_stands (next (one_more s h b.0))))

all_stand : (hs : List ℕ) → Bits hs → StandsAfter hs (state hs)
all_stand hs b = stands_from [] hs b (receiver_stands (stands (idles fresh)))

pub last_step : (hs : List ℕ) (h : ℕ) → Bits hs → h ≤ 1 → Step (hs ++ h ∷ [])
last_step hs h b l = one_more (all_stand hs b) h l

pub every_history_stands : EveryHistoryStands
every_history_stands hs =
    let same : receiver_after fresh_receiver hs ≡ state (taken hs) = state_taken fresh_receiver hs ∙ state_after_lem (taken hs) in
    subst (λ (r : Receiver). StandsAfter (taken hs) r) (sym same) (all_stand (taken hs) (taken_bits hs))
