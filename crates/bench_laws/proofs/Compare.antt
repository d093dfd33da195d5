-- Frames compared half-cycle by half-cycle.
--
--     not_greater-at     where two lists agree so far, the one that is not the greater has no greater half-cycle next
--     same_message_lem       two bursts that agree over the shorter frame are of one message
--     not_ahead          of two bursts that agree so far, the one with the frame that is not the greater has no greater half-cycle next
use mathlib.Core.Path.{◌≡◌, refl, sym, ap, ◌∙◌}
use mathlib.Core.Bool.{Bool, true, false}
use mathlib.Core.List.{List, [], ◌∷◌, ◌++◌, append-nil, head-eq_of_cons-eq, tail-eq_of_cons-eq}
use Prim.Native.Nat.{ℕ, zero, suc, ◌≤◌, ◌<◌}
use native.Mathlib.Nat.{le_of_suc-le-suc, not-suc-le-zero, le_of_eq}
use native.Mathlib.Decide.{dec_le}
use native.Mathlib.Omega.{arith}
use borrow.Author.Tests.{eq-eqb, eqb-true, ltb-true}
use lib.Dec.{eqb, ltb}
use lib.ListN.{length, get_or, take, drop, take-append-drop, get_or-append}
use lib.Seq.{take-take, take-append-le, take-append_seam}
use Rattle.ground.specs.Choice.{pick}
use Rattle.message.specs.Messages.{message_ok}
use Rattle.message.specs.declared.Message.{Message}
use Rattle.burst.specs.Frames.{frame_of, frame_length, burst_of}
use Rattle.burst.proofs.FrameLaws.{frame_length_lem, frames_one_to_one, no_frame_begins_another}
use Rattle.bench_laws.specs.Together.{not_greater}
use Rattle.bench_laws.proofs.StationStates.{Front}

not_greater-at : (xs ys : List ℕ) (k : ℕ) → not_greater xs ys ≡ true → take k xs ≡ take k ys → k < length xs → k < length ys → get_or xs k 0 ≤ get_or ys k 0
not_greater-at [] ys k t e l u = absurd (not-suc-le-zero l)
not_greater-at (x ∷ xs) [] k t e l u = absurd (not-suc-le-zero u)
not_greater-at (x ∷ xs) (y ∷ ys) zero t e l u = go (eqb x y) refl t
  where
    go : (b : Bool) → eqb x y ≡ b → pick b (not_greater xs ys) (ltb x y) ≡ true → x ≤ y
    go true p q = le_of_eq (eqb-true x y p)
    go false p q = omega (arith, ltb-true)
not_greater-at (x ∷ xs) (y ∷ ys) (suc k) t e l u =
    not_greater-at xs ys k (rw (eq-eqb x y (head-eq_of_cons-eq e)) at t) (tail-eq_of_cons-eq e) (le_of_suc-le-suc l) (le_of_suc-le-suc u)

-- the bursts of a and b begin alike, as far as a's frame, which is no longer than b's
same_message_lem : (a b : Message) → message_ok a ≡ true → message_ok b ≡ true → frame_length a ≤ frame_length b
    → (k : ℕ) → frame_length a ≤ k → take k (burst_of a) ≡ take k (burst_of b) → a ≡ b
unfolding burst_of
same_message_lem a b va vb shorter k far e =
    let f : ℕ = frame_length a in
    let rest : List ℕ = drop f (frame_of b) in
    let front : take f (frame_of b) ≡ frame_of a =
    sym (take-append-le f (frame_of b) (frame_of b) (omega (arith, frame_length_lem b)))
    ∙ sym (take-take f k (burst_of b) far) ∙ ap (take f) (sym e) ∙ take-take f k (burst_of a) far
    ∙ ap (λ (n : ℕ). take n (burst_of a)) (sym (frame_length_lem a)) ∙ take-append_seam (frame_of a) (frame_of a) in
    let split : frame_of b ≡ frame_of a ++ rest = sym (take-append-drop f (frame_of b)) ∙ ap (λ (l : List ℕ). l ++ rest) front in
    let none : rest ≡ [] = no_frame_begins_another a b rest va vb split in
    frames_one_to_one a b va vb (sym (split ∙ ap (λ (l : List ℕ). frame_of a ++ l) none ∙ append-nil (frame_of a)))

module _ (a b : Message) (va : message_ok a ≡ true) (vb : message_ok b ≡ true)
    (sent : List ℕ) (fa : Front a sent) (fb : Front b sent) (lower : not_greater (frame_of a) (frame_of b) ≡ true) where
  abbrev k : ℕ
  k = length sent

  within : (m : Message) → k < frame_length m → (take k (frame_of m) ≡ take k (burst_of m)) × (get_or (frame_of m) k 0 ≡ get_or (burst_of m) k 0)
  unfolding burst_of
  within m l = (
    sym (take-append-le k (frame_of m) (frame_of m) (omega (arith, frame_length_lem m))),
    sym (get_or-append (frame_of m) (frame_of m) 0 k (omega (arith, frame_length_lem m))),
  )

  alike : a ≡ b → get_or (burst_of a) k 0 ≤ get_or (burst_of b) k 0
  alike e = le_of_eq (ap (λ (m : Message). get_or (burst_of m) k 0) e)

  pub not_ahead : get_or (burst_of a) k 0 ≤ get_or (burst_of b) k 0
  not_ahead = go (dec_le (frame_length a) k) (dec_le (frame_length b) k) (dec_le (frame_length a) (frame_length b))
    where
      agree : take k (burst_of a) ≡ take k (burst_of b)
      agree = fa ∙ sym fb

      go : Dec (frame_length a ≤ k) → Dec (frame_length b ≤ k) → Dec (frame_length a ≤ frame_length b) → get_or (burst_of a) k 0 ≤ get_or (burst_of b) k 0
      go (no x) (no y) d =
          let wa = within a (omega arith) in
          let wb = within b (omega arith) in
          omega (
            arith,
            wa.1,
            wb.1,
            not_greater-at (frame_of a) (frame_of b) k lower (wa.0 ∙ agree ∙ sym wb.0) (omega (arith, frame_length_lem a)) (omega (arith, frame_length_lem b)),
          )
      go (yes x) y (yes z) = alike (same_message_lem a b va vb z k x agree)
      go (yes x) y (no z) = alike (sym (same_message_lem b a vb va (omega arith) k (omega arith) (sym agree)))
      go (no x) (yes y) d = alike (sym (same_message_lem b a vb va (omega arith) k y (sym agree)))
