-- Laws of a text that is put into a buffer; that a text in two parts is put part by part stands in ground.
--
--     sets-set        what is stored past a text may be stored first
--     put_none, put_then    no text; one text and then another
--     put_as          an equal text
--     part_put        bytes that are copied over a part of a buffer
use mathlib.Core.Path.{◌≡◌, refl, sym, ap, subst, ◌∙◌}
use mathlib.Core.List.{List, [], ◌∷◌, ◌++◌, append_assoc}
use Prim.Native.Nat.{ℕ, suc, ◌+◌, ◌≤◌}
use native.Mathlib.Nat.{add-zero, add_assoc}
use native.Mathlib.Omega.{arith}
use lib.ListN.{length, set, take, drop, length-append}
use lib.Seq.{sets, set_comm, sets-eq, drop-drop}
use borrow.Rule.Slice.PartMut.{put_mid}
use Rattle.ground.proofs.Lists.{sets-append}
use Rattle.text.specs.Texts.{Put}

pub sets-set : (l : List ℕ) (i : ℕ) (s : List ℕ) (j x : ℕ) → i + length s ≤ j → set (sets l i s) j x ≡ sets (set l j x) i s
sets-set l i [] j x h = refl
sets-set l i (y ∷ s) j x h =
    sets-set (set l i y) (suc i) s j x (omega arith)
    ∙ ap (λ (k : List ℕ). sets k (suc i) s) (set_comm l i j y x (λ e. omega arith))

pub put_none : (l : List ℕ) (at : ℕ) → Put l at [] l at
put_none l at = record { bytes = refl; place = sym (add-zero at) }

pub put_then : {a b c : List ℕ} {i j k : ℕ} {s t : List ℕ} → Put a i s b j → Put b j t c k → Put a i (s ++ t) c k
put_then {a} {b} {c} {i} {j} {k} {s} {t} p q =
    record {
      bytes =
          q.bytes ∙ ap (λ (l : List ℕ). sets l j t) p.bytes ∙ ap (λ (n : ℕ). sets (sets a i s) n t) p.place
          ∙ sym (sets-append a i s t);
      place = q.place ∙ ap (λ (n : ℕ). n + length t) p.place ∙ add_assoc i (length s) (length t) ∙ ap (λ (n : ℕ). i + n) (sym (length-append s t));
    }

pub put_as : {a b : List ℕ} {i j : ℕ} {s t : List ℕ} → s ≡ t → Put a i s b j → Put a i t b j
put_as {a} {b} {i} {j} e p = subst (λ (t : List ℕ). Put a i t b j) e p

pub part_put : (a ys : List ℕ) (p k : ℕ) → p + length ys ≤ length a → k ≡ length ys → put_mid p k a ys ≡ sets a p ys
part_put a ys p k room long =
    ap (λ (l : List ℕ). take p a ++ (ys ++ l)) (drop-drop k p a ∙ ap (λ (n : ℕ). drop (p + n) a) long)
    ∙ sym (append_assoc (take p a) ys (drop (p + length ys) a))
    ∙ sym (sets-eq ys a p room)
