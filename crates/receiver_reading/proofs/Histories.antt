-- All the half-cycles that came, as a list: its last six as one number, and what it ends in. The number says how the list ends, because a fresh
-- receiver's six are all 1 and what is looked for begins with a 0.
--
--     bits_append, bits_front, bits_rear, bits_pairs     lists of 0 and 1
--     six_more, six_low, six_half, six_bits              the last six: after one more half-cycle, of six bits
--     forgets                                            what is older than six half-cycles does not count
--     ends_append, ends_drop, ends_six                   the ends of a list
--     seven_ends, ends_seven                             it ends in 0 0 0 1 1 1 0 exactly where the six are 0 0 0 1 1 1, and then 0 comes
--     start_ends, ends_start                             and a longer one in 1 1 1 0 where the latest three are 1 1 1, and then 0 comes
use Prim.Native.Nat.{ℕ, zero, suc, ◌+◌, ◌-◌, ◌*◌, ◌/◌, ◌%◌, ◌^◌, ◌≤◌, ◌<◌}
use mathlib.Core.Logic.{◌⊎◌, inl, inr, ⊎_elim}
use mathlib.Core.Path.{◌≡◌, sym, ap, ap₂, subst, ◌∙◌}
use mathlib.Core.List.{List, [], ◌∷◌, ◌++◌, append_assoc, append-nil, reverse, reverse-append, reverse-reverse, head-eq_of_cons-eq, tail-eq_of_cons-eq}
use native.Mathlib.Decide.{ℕ_discrete}
use native.Mathlib.Numerals.{add-one}
use native.Mathlib.Omega.{arith}
use lib.ListN.{length, length-append}
use lib.Pow.{mod-pow-add, mod-mod-pow}
use Rattle.burst.specs.Frames.{bits_of, pairs_of}
use Rattle.receiver.specs.Receivers.{shifted}
use Rattle.receiver_laws.specs.Whole.{last_six}
use Rattle.receiver_laws.proofs.Pasts.{six_append, three_more, Bits}
use Rattle.receiver_reading.specs.Reading.{EndsIn, start_mark, hunted_start}
use Rattle.receiver_reading.specs.Standing.{past_of}
use Rattle.receiver_reading.proofs.Words.{bits_last, low_less}

-- ---- lists of 0 and 1

pub bits_append : (xs ys : List ℕ) → Bits xs → Bits ys → Bits (xs ++ ys)
bits_append [] ys a b = b
bits_append (x ∷ xs) ys a b = (a.0, bits_append xs ys a.1 b)

pub bits_front : (xs ys : List ℕ) → Bits (xs ++ ys) → Bits xs
bits_front [] ys b = tt
bits_front (x ∷ xs) ys b = (b.0, bits_front xs ys b.1)

bits_rear : (xs ys : List ℕ) → Bits (xs ++ ys) → Bits ys
bits_rear [] ys b = b
bits_rear (x ∷ xs) ys b = bits_rear xs ys b.1

pub bits_pairs : (bs : List ℕ) → Bits bs → Bits (pairs_of bs)
unfolding pairs_of
bits_pairs [] h = tt
bits_pairs (b ∷ bs) h = (h.0, (omega arith, bits_pairs bs h.1))

-- a list is empty or has a last half-cycle
data Last : List ℕ → Type 0 where
  none : Last []
  some : (hs : List ℕ) (h : ℕ) → Bits hs → h ≤ 1 → Last (hs ++ h ∷ [])

last_of : (hs : List ℕ) → Bits hs → Last hs
last_of [] b = none
last_of (h ∷ hs) b = more (last_of hs b.1)
  where
    more : {ks : List ℕ} → Last ks → Last (h ∷ ks)
    more none = some [] h tt b.0
    more (some ks k bs c) = some (h ∷ ks) k (b.0, bs) c

last_same : (xs ys : List ℕ) (x y : ℕ) → xs ++ x ∷ [] ≡ ys ++ y ∷ [] → (xs ≡ ys) × (x ≡ y)
last_same xs ys x y e =
    let r : x ∷ reverse xs ≡ y ∷ reverse ys = sym (reverse-append xs (x ∷ [])) ∙ ap reverse e ∙ reverse-append ys (y ∷ []) in
    (sym (reverse-reverse xs) ∙ ap reverse (tail-eq_of_cons-eq r) ∙ reverse-reverse ys, head-eq_of_cons-eq r)

-- ---- the last six half-cycles

pub six_more : (hs : List ℕ) (h : ℕ) → past_of (hs ++ h ∷ []) ≡ shifted (past_of hs) h
unfolding last_six
six_more hs h = six_append 63 hs (h ∷ [])

low_from : (p : ℕ) (hs : List ℕ) → p ≤ 63 → Bits hs → last_six p hs ≤ 63
unfolding last_six
low_from p [] l b = l
low_from p (h ∷ hs) l b = low_from (shifted p h) hs (omega (arith, b.0)) b.1

pub six_low : (hs : List ℕ) → Bits hs → past_of hs ≤ 63
six_low hs b = low_from 63 hs (omega arith) b

pub six_half : (hs : List ℕ) (h : ℕ) → h ≤ 1 → past_of (hs ++ h ∷ []) % 2 ≡ h
six_half hs h l = rw (six_more hs h) (omega arith)

-- the k latest of the six, before another half-cycle
kept : (p h k : ℕ) → h ≤ 1 → k ≤ 5 → shifted p h % 2 ^ suc k ≡ p % 2 ^ k * 2 + h
kept p h k l low =
    let half : shifted p h / 2 ≡ p % 32 = omega arith in
    let bit : shifted p h % 2 ≡ h = omega arith in
    let five : 5 ≡ 5 - k + k = omega arith in
    let five-kept : p % 32 % 2 ^ k ≡ p % 2 ^ k = ap (λ (n : ℕ). p % 2 ^ n % 2 ^ k) five ∙ mod-mod-pow p (5 - k) k in
    ap (λ (n : ℕ). shifted p h % 2 ^ n) (sym (add-one k))
    ∙ mod-pow-add (shifted p h) k 1
    ∙ ap₂ (λ (x y : ℕ). x % 2 ^ k * 2 + y) half bit
    ∙ ap (λ (x : ℕ). x * 2 + h) five-kept

-- the six after the bits of a number
latest : (n w : ℕ) → n ≤ 6 → w < 2 ^ n → past_of (bits_of n w) % 2 ^ n ≡ w
latest zero w l h = omega arith
latest (suc n) w l h =
    let i : past_of (bits_of n (w / 2)) % 2 ^ n ≡ w / 2 = latest n (w / 2) (omega arith) (low_less n w h) in
    let k = kept (past_of (bits_of n (w / 2))) (w % 2) n (omega arith) (omega arith) in
    rw (bits_last n w, six_more (bits_of n (w / 2)) (w % 2)) (omega (arith, i, k))

pub six_bits : (p : ℕ) → p ≤ 63 → past_of (bits_of 6 p) ≡ p
six_bits p l =
    let i : past_of (bits_of 5 (p / 2)) % 32 ≡ p / 2 = latest 5 (p / 2) (omega arith) (omega arith) in
    ap past_of (bits_last 5 p) ∙ six_more (bits_of 5 (p / 2)) (p % 2) ∙ omega (arith, i)

-- where the k latest are the same and at least six are known in the end, all six are the same
forgets_from : (k p q : ℕ) (hs : List ℕ) → k ≤ 5 → p % 2 ^ k ≡ q % 2 ^ k → Bits hs → 6 ≤ k + length hs → last_six p hs ≡ last_six q hs
unfolding last_six
forgets_from k p q [] l e b n = absurd (omega arith)
forgets_from k p q (h ∷ hs) l e b n =
    let more : shifted p h % 2 ^ suc k ≡ shifted q h % 2 ^ suc k = kept p h k b.0 l ∙ ap (λ (x : ℕ). x * 2 + h) e ∙ sym (kept q h k b.0 l) in
    go (ℕ_discrete k 5) (λ m. forgets_from (suc k) (shifted p h) (shifted q h) hs m more b.1 (omega arith))
  where
    go : Dec (k ≡ 5) → (suc k ≤ 5 → last_six (shifted p h) hs ≡ last_six (shifted q h) hs) → last_six (shifted p h) hs ≡ last_six (shifted q h) hs
    go (yes f) i =
        let same : p % 32 ≡ q % 32 = subst (λ (j : ℕ). p % 2 ^ j ≡ q % 2 ^ j) f e in
        ap (λ (x : ℕ). last_six (x * 2 + h) hs) same
    go (no f) i = i (omega arith)

forgets : (xs ys : List ℕ) → Bits ys → 6 ≤ length ys → past_of (xs ++ ys) ≡ past_of ys
forgets xs ys b l = six_append 63 xs ys ∙ forgets_from 0 (past_of xs) 63 ys (omega arith) (omega arith) b (omega arith)

-- ---- how a list ends

pub ends_append : (xs ys hs : List ℕ) → EndsIn xs hs → EndsIn (xs ++ ys) (hs ++ ys)
ends_append xs ys hs e = (e.0, sym (append_assoc e.0 xs ys) ∙ ap (λ (l : List ℕ). l ++ ys) e.1)

pub ends_drop : (xs ys hs : List ℕ) → EndsIn (xs ++ ys) hs → EndsIn ys hs
ends_drop xs ys hs e = (e.0 ++ xs, append_assoc e.0 xs ys ∙ e.1)

pub ends_six : (xs hs : List ℕ) → EndsIn xs hs → Bits hs → 6 ≤ length xs → past_of hs ≡ past_of xs
ends_six xs hs e b l =
    let bits : Bits xs = bits_rear e.0 xs (subst (λ (l : List ℕ). Bits l) (sym e.1) b) in
    ap past_of (sym e.1) ∙ forgets e.0 xs bits l

-- those of the empty list are all 1
ones : (n : ℕ) → n ≤ 6 → 63 % 2 ^ n + 1 ≡ 2 ^ n
ones zero l = omega arith
ones (suc n) l = let k = kept 63 1 n (omega arith) (omega arith) in let e = ones n (omega arith) in omega (arith, k, e)

-- the n latest are the bits of v, of which the oldest is 0, or as many have come: then the list ends in them
ends_bits : (n v : ℕ) (hs : List ℕ) → n ≤ 6 → (v * 2 < 2 ^ n) ⊎ (n ≤ length hs) → Bits hs → past_of hs % 2 ^ n ≡ v → EndsIn (bits_of n v) hs
unfolding bits_of last_six
ends_bits zero v hs l low b e = (hs, append-nil hs)
ends_bits (suc n) v hs l low b e = go (last_of hs b) (λ ks m c q. ends_bits n (v / 2) ks (omega arith) m c q) low e
  where
    go : {ks : List ℕ} → Last ks
        → ((ls : List ℕ) → (v / 2 * 2 < 2 ^ n) ⊎ (n ≤ length ls) → Bits ls → past_of ls % 2 ^ n ≡ v / 2 → EndsIn (bits_of n (v / 2)) ls)
        → (v * 2 < 2 ^ suc n) ⊎ (suc n ≤ length ks) → past_of ks % 2 ^ suc n ≡ v → EndsIn (bits_of (suc n) v) ks
    go none i (inl m) q = absurd (omega (arith, ones (suc n) l))
    go none i (inr m) q = absurd (omega arith)
    go (some ks h bs c) i m q =
        let k : past_of ks % 2 ^ n * 2 + h ≡ v = sym (kept (past_of ks) h n c (omega arith)) ∙ ap (λ (x : ℕ). x % 2 ^ suc n) (sym (six_more ks h)) ∙ q in
        let bit : v % 2 ≡ h = omega arith in
        let half : past_of ks % 2 ^ n ≡ v / 2 = omega arith in
        let known : (v / 2 * 2 < 2 ^ n) ⊎ (n ≤ length ks) = ⊎_elim (λ x. inl (omega arith)) (λ x. inr (omega (arith, length-append ks (h ∷ [])))) m in
        rw (bits_last n v, bit) (ends_append (bits_of n (v / 2)) (h ∷ []) ks (i ks known bs half))

pub seven_ends : (hs : List ℕ) → Bits hs → past_of hs ≡ 7 → EndsIn hunted_start (hs ++ 0 ∷ [])
unfolding bits_of
seven_ends hs b e = ends_append (0 ∷ 0 ∷ 0 ∷ 1 ∷ 1 ∷ 1 ∷ []) (0 ∷ []) hs (ends_bits 6 7 hs (omega arith) (inl (omega arith)) b (omega arith))

pub ends_seven : (hs : List ℕ) (h : ℕ) → EndsIn hunted_start (hs ++ h ∷ []) → (past_of hs ≡ 7) × (h ≡ 0)
unfolding last_six
ends_seven hs h e =
    let xs : List ℕ = 0 ∷ 0 ∷ 0 ∷ 1 ∷ 1 ∷ 1 ∷ [] in
    let s = last_same (e.0 ++ xs) hs 0 h (append_assoc e.0 xs (0 ∷ []) ∙ e.1) in
    (ap past_of (sym s.0) ∙ forgets e.0 xs (omega arith) (omega arith), sym s.1)

pub start_ends : (hs : List ℕ) → Bits hs → 3 ≤ length hs → past_of hs % 8 ≡ 7 → EndsIn start_mark (hs ++ 0 ∷ [])
unfolding bits_of
start_ends hs b l e = ends_append (1 ∷ 1 ∷ 1 ∷ []) (0 ∷ []) hs (ends_bits 3 7 hs (omega arith) (inr l) b e)

pub ends_start : (hs : List ℕ) (h : ℕ) → EndsIn start_mark (hs ++ h ∷ []) → (past_of hs % 8 ≡ 7) × (h ≡ 0)
unfolding last_six
ends_start hs h e =
    let xs : List ℕ = 1 ∷ 1 ∷ 1 ∷ [] in
    let s = last_same (e.0 ++ xs) hs 0 h (append_assoc e.0 xs (0 ∷ []) ∙ e.1) in
    let six : past_of hs ≡ past_of e.0 % 8 * 8 + 7 = ap past_of (sym s.0) ∙ six_append 63 e.0 xs ∙ three_more (past_of e.0) 1 1 1 (omega arith) in
    (omega (arith, six), sym s.1)
