-- Where no start pattern comes, a hunting receiver says nothing and goes on hunting.
--
--     Hush, hush_run, hush_append         no start in a list of half-cycles
--     hush_clear                          none in clear half-cycles
--     Calm, hush_pairs, calm_pairs        none in pairs of a bit and its complement
--     calm_equal                          nor where those follow an equal pair
--     hush_frame, calm-frame              none in a frame that does not come after three clear half-cycles
--     Steady, hush_start, calm_start      none in a start of which one half-cycle is inverted
use Prim.Native.Nat.{ℕ, zero, suc, ◌+◌, ◌-◌, ◌*◌, ◌%◌, ◌≤◌, ◌<◌}
use mathlib.Core.Logic.{◌≢◌}
use mathlib.Core.Path.{◌≡◌, refl}
use mathlib.Core.List.{List, [], ◌∷◌, ◌++◌}
use native.Mathlib.Omega.{arith}
use lib.ListN.{length, replicate}
use Rattle.message.specs.Words.{word_of, bit_count}
use Rattle.message.specs.declared.Message.{Message}
use Rattle.burst.specs.Frames.{bits_of, pairs_of, frame_of}
use Rattle.receiver.specs.Receivers.{hunting, shifted}
use Rattle.receiver.specs.declared.Event.TheVariants.{Nothing}
use Rattle.receiver_laws.specs.Whole.{clear, last_six}
use Rattle.receiver_laws.specs.Inversion.{inverted}
use Rattle.receiver_laws.proofs.Runs.{Run, run_none, run_more}
use Rattle.receiver_laws.proofs.Steps.{hunting_ok, NoStart, no_start_one, no_start_plain, hunts_on}
use Rattle.receiver_laws.proofs.Pasts.{start, paired, two_more, two_kept, three_more, four_more, Bits, bits_of_lem, Clean}

-- the half-cycles are 0 or 1, and none of them completes the start pattern
abbrev pub Hush : ℕ → List ℕ → Type 0
Hush p [] = Unit {0}
Hush p (h ∷ hs) = (h ≤ 1) × NoStart p 0 h × Hush (shifted p h) hs

pub hush_run : (hs : List ℕ) (p : ℕ) → p ≤ 63 → Hush p hs → Run (hunting p) hs (replicate (length hs) Nothing) (hunting (last_six p hs))
unfolding last_six
hush_run [] p hp u = run_none (hunting p)
hush_run (h ∷ hs) p hp u =
    let half : h ≤ 1 = u.0 in
    run_more (hunts_on (hunting p) (hunting_ok p hp) refl h half u.1) (hush_run hs (shifted p h) (omega arith) u.2)

pub hush_append : (hs ks : List ℕ) (p : ℕ) → Hush p hs → Hush (last_six p hs) ks → Hush p (hs ++ ks)
unfolding last_six
hush_append [] ks p u v = v
hush_append (h ∷ hs) ks p u v = (u.0, u.1, hush_append hs ks (shifted p h) u.2 v)

pub hush_clear : (y p : ℕ) → p ≢ 7 → Hush p (clear y)
hush_clear zero p n = tt
hush_clear (suc y) p n = (omega arith, no_start_plain p 0 n, hush_clear y (shifted p 0) (omega arith))

-- ---- pairs

-- the last half-cycles are not 0 0 0 1 1 1, which a 0 would complete, nor 0 0 0 1 1, which a pair 1 0 would
pub record Calm (p : ℕ) : Type 0 where
  pub six : p ≤ 63
  pub ones : p ≢ 7
  pub two_ones : p % 32 ≢ 3

hush_pair : (p b : ℕ) → b ≤ 1 → Calm p → NoStart p 0 b × NoStart (shifted p b) 0 (1 - b)
hush_pair p zero h c = (no_start_plain p 0 c.ones, no_start_one (shifted p 0) 0)
hush_pair p (suc zero) h c = (no_start_one p 0, no_start_plain (shifted p 1) 0 (omega arith))
hush_pair p (suc (suc b)) h c = absurd (omega arith)

pub calm_pair : (p b : ℕ) → b ≤ 1 → Calm (paired p b)
calm_pair p b h = rw (two_more p b (1 - b) h) (omega arith)

pub hush_pairs : (bs : List ℕ) (p : ℕ) → Bits bs → Calm p → Hush p (pairs_of bs)
unfolding pairs_of
hush_pairs [] p hb c = tt
hush_pairs (b ∷ bs) p hb c =
    let one : b ≤ 1 = hb.0 in
    let u = hush_pair p b one c in
    (one, u.0, (omega arith, u.1, hush_pairs bs (paired p b) hb.1 (calm_pair p b one)))

pub calm_pairs : (bs : List ℕ) (p : ℕ) → Bits bs → Calm p → Calm (last_six p (pairs_of bs))
unfolding pairs_of last_six
calm_pairs [] p hb c = c
calm_pairs (b ∷ bs) p hb c = calm_pairs bs (paired p b) hb.1 (calm_pair p b hb.0)

pub calm_equal : (p b : ℕ) → b ≤ 1 → Clean p → Calm (shifted (shifted p b) b)
calm_equal p zero h c = let kept = two_kept p 0 (omega arith) in rw (two_more p 0 0 h) (omega arith)
calm_equal p (suc zero) h c =
    let low : p % 8 % 4 ≡ p % 4 = omega arith in
    let kept = two_kept p 3 (omega arith) in
    rw (two_more p 1 1 h) (omega arith)
calm_equal p (suc (suc b)) h c = absurd (omega arith)

-- ---- frames

-- the last four half-cycles b c d e, which end neither in 0 0 1 1 nor in 0 1 1 1
calm_four : (p b c d e : ℕ) → (b ≤ 1) × (c ≤ 1) × (d ≤ 1) × (e ≤ 1) × (b * 8 + c * 4 + d * 2 + e ≢ 3) × (b * 8 + c * 4 + d * 2 + e ≢ 7)
    → Calm (shifted (shifted (shifted (shifted p b) c) d) e)
calm_four p b c d e h = rw (four_more p b c d e (h.0, h.1, h.2)) (omega arith)

module _ (m : Message) (p : ℕ) where
  bits : List ℕ
  bits = bits_of (bit_count m) (word_of m)

  pub hush_frame : p % 8 ≢ 0 → Hush p (frame_of m)
  unfolding frame_of bits
  hush_frame n =
      let p₁ = shifted p 1 in
      let p₂ = shifted p₁ 1 in
      let p₃ = shifted p₂ 1 in
      let three : p₃ ≢ 7 = rw (three_more p 1 1 1 (omega arith)) (omega arith) in
      let pairs = hush_pairs bits (shifted p₃ 0) (bits_of_lem (bit_count m) (word_of m)) (calm_four p 1 1 1 0 (omega arith)) in
      (omega arith, no_start_one p 0, (omega arith, no_start_one p₁ 0, (omega arith, no_start_one p₂ 0, (omega arith, no_start_plain p₃ 0 three, pairs))))

  pub calm-frame : Calm (last_six p (frame_of m))
  unfolding frame_of last_six bits
  calm-frame = calm_pairs bits (last_six p start) (bits_of_lem (bit_count m) (word_of m)) (calm_four p 1 1 1 0 (omega arith))

-- ---- a start with one half-cycle inverted

-- the last half-cycles are not the first six, five or four of the start pattern
pub record Steady (p : ℕ) : Type 0 where
  pub ones : p ≢ 7
  pub two_ones : p % 32 ≢ 3
  pub one : p % 16 ≢ 1

pub hush_start : (i p : ℕ) → i < 4 → Steady p → Hush p (inverted i start)
unfolding inverted
hush_start zero p l s =
    let p₁ = shifted p 0 in
    let p₂ = shifted p₁ 1 in
    let p₃ = shifted p₂ 1 in
    let third : p₃ ≢ 7 = rw (three_more p 0 1 1 (omega arith)) (omega arith) in (
      omega arith,
      no_start_plain p 0 s.ones,
      (
        omega arith,
        no_start_one p₁ 0,
        (omega arith, no_start_one p₂ 0, (omega arith, no_start_plain p₃ 0 third, tt)),
      ),
    )
hush_start (suc zero) p l s =
    let p₁ = shifted p 1 in
    let p₂ = shifted p₁ 0 in
    let p₃ = shifted p₂ 1 in
    let first : p₁ ≢ 7 = omega arith in
    let third : p₃ ≢ 7 = rw (three_more p 1 0 1 (omega arith)) (omega arith) in
    (omega arith, no_start_one p 0, (omega arith, no_start_plain p₁ 0 first, (omega arith, no_start_one p₂ 0, (omega arith, no_start_plain p₃ 0 third, tt))))
hush_start (suc (suc zero)) p l s =
    let p₁ = shifted p 1 in
    let p₂ = shifted p₁ 1 in
    let p₃ = shifted p₂ 0 in
    let second : p₂ ≢ 7 = rw (two_more p 1 1 (omega arith)) (omega arith) in (
      omega arith,
      no_start_one p 0,
      (
        omega arith,
        no_start_one p₁ 0,
        (omega arith, no_start_plain p₂ 0 second, (omega arith, no_start_plain p₃ 0 (omega arith), tt)),
      ),
    )
hush_start (suc (suc (suc zero))) p l s =
    let p₁ = shifted p 1 in
    let p₂ = shifted p₁ 1 in
    let p₃ = shifted p₂ 1 in
    (omega arith, no_start_one p 0, (omega arith, no_start_one p₁ 0, (omega arith, no_start_one p₂ 0, (omega arith, no_start_one p₃ 0, tt))))
hush_start (suc (suc (suc (suc i)))) p l s = absurd (omega arith)

pub calm_start : (i p : ℕ) → i < 4 → Calm (last_six p (inverted i start))
unfolding inverted last_six
calm_start zero p l = calm_four p 0 1 1 0 (omega arith)
calm_start (suc zero) p l = calm_four p 1 0 1 0 (omega arith)
calm_start (suc (suc zero)) p l = calm_four p 1 1 0 0 (omega arith)
calm_start (suc (suc (suc zero))) p l = calm_four p 1 1 1 1 (omega arith)
calm_start (suc (suc (suc (suc i)))) p l = absurd (omega arith)
