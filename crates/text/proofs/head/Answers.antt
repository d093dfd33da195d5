-- `head` meets its contract: the kind, and three bytes after it, one after the other.
use mathlib.Core.Path.{ap}
use mathlib.Core.List.{[], ◌∷◌}
use Prim.Native.Nat.{ℕ}
use Rattle.text.proofs.PutLaws.{put_then, put_as}
use Rattle.text.proofs.head.Goals as goal

pub returns : goal.returns
returns c =
    put_then c.put_word.ensures
    (put_then c.put_byte.ensures
    (put_then (put_as (ap (λ (d : ℕ). d ∷ []) c.letter.ensures) c.put_byte-2.ensures) c.put_byte-3.ensures))
