-- Laws of bursts that the access rules rest on: a burst begins with 1, has at most 124 half-cycles, and is never clear for long.
--
--     burst_some, burst_most     it has at least 44 half-cycles and at most 124
--     burst_first                it begins with 1
--     counted, counted_by         a count of clear half-cycles in a row, after one more and after a list
--     clear_briefly              a 0 of a burst comes after at most two clear half-cycles
use mathlib.Core.Path.{◌≡◌, refl}
use mathlib.Core.List.{List, [], ◌∷◌, ◌++◌}
use Prim.Native.Nat.{ℕ, zero, suc, ◌+◌, ◌≤◌, ◌<◌}
use native.Mathlib.Nat.{le_of_suc-le-suc, not-suc-le-zero}
use native.Mathlib.Omega.{arith}
use lib.ListN.{length, get_or, take}
use Rattle.message.specs.Words.{word_of, bit_count}
use Rattle.message.specs.declared.Message.{Message}
use Rattle.message.specs.declared.Message.TheVariants.{Address, Function as Command, Extended}
use Rattle.burst.specs.Frames.{pairs_of, frame_of, burst_of, burst_length}
use Rattle.burst.proofs.FrameLaws.{burst_length_lem}
use Rattle.receiver_laws.proofs.Pasts.{Bits, bits_of_lem}

pub burst_some : (m : Message) → 44 ≤ burst_length m
burst_some (Address h u) = omega arith
burst_some (Command h f) = omega arith
burst_some (Extended h u d c) = omega arith

pub burst_most : (m : Message) → burst_length m ≤ 124
burst_most (Address h u) = omega arith
burst_most (Command h f) = omega arith
burst_most (Extended h u d c) = omega arith

pub burst_first : (m : Message) → get_or (burst_of m) 0 0 ≡ 1
unfolding burst_of frame_of
burst_first m = refl

-- ---- clear half-cycles in a row

abbrev pub counted : ℕ → ℕ → ℕ
counted z zero = z + 1
counted z (suc h) = 0

abbrev pub counted_by : ℕ → List ℕ → ℕ
counted_by z [] = z
counted_by z (h ∷ hs) = counted_by (counted z h) hs

pub counted_append : (z : ℕ) (hs ks : List ℕ) → counted_by z (hs ++ ks) ≡ counted_by (counted_by z hs) ks
counted_append z [] ks = refl
counted_append z (h ∷ hs) ks = counted_append (counted z h) hs ks

-- each 0 comes after at most two others in a row, z before the list
abbrev Brief : ℕ → List ℕ → Type 0
Brief z [] = Unit {0}
Brief z (h ∷ hs) = (h ≡ 0 → z ≤ 2) × Brief (counted z h) hs

brief_append : (z : ℕ) (hs ks : List ℕ) → Brief z hs → Brief (counted_by z hs) ks → Brief z (hs ++ ks)
brief_append z [] ks b c = c
brief_append z (h ∷ hs) ks b c = (b.0, brief_append (counted z h) hs ks b.1 c)

brief_at : (z : ℕ) (hs : List ℕ) → Brief z hs → (k : ℕ) → k < length hs → get_or hs k 0 ≡ 0 → counted_by z (take k hs) ≤ 2
brief_at z [] b k l e = absurd (not-suc-le-zero l)
brief_at z (h ∷ hs) b zero l e = b.0 e
brief_at z (h ∷ hs) b (suc k) l e = brief_at (counted z h) hs b.1 k (le_of_suc-le-suc l) e

brief_pairs : (bs : List ℕ) → Bits bs → (z : ℕ) → z ≤ 1 → Brief z (pairs_of bs)
unfolding pairs_of
brief_pairs [] b z h = tt
brief_pairs (zero ∷ bs) b z h = (λ e. omega arith, (λ e. omega arith, brief_pairs bs b.1 0 (omega arith)))
brief_pairs (suc zero ∷ bs) b z h = (λ e. omega arith, (λ e. omega arith, brief_pairs bs b.1 1 (omega arith)))
brief_pairs (suc (suc x) ∷ bs) b z h = absurd (omega arith)

brief_frame : (m : Message) (z : ℕ) → Brief z (frame_of m)
unfolding frame_of
brief_frame m z =
    (λ e. omega arith, (λ e. omega arith, (λ e. omega arith, (λ e. omega arith, brief_pairs _ (bits_of_lem (bit_count m) (word_of m)) 1 (omega arith)))))

pub clear_briefly : (m : Message) (z k : ℕ) → k < burst_length m → get_or (burst_of m) k 0 ≡ 0 → counted_by z (take k (burst_of m)) ≤ 2
unfolding burst_of
clear_briefly m z k l e =
    brief_at z (burst_of m) (brief_append z (frame_of m) (frame_of m) (brief_frame m z) (brief_frame m (counted_by z (frame_of m)))) k
    (omega (arith, burst_length_lem m)) e
