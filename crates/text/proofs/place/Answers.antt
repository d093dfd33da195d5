-- `place` meets its contract: the letter and then the unit, put into a blank text.
use mathlib.Core.Path.{ap}
use mathlib.Core.List.{[], ◌∷◌}
use Prim.Native.Nat.{ℕ}
use Rattle.text.proofs.PutLaws.{put_then, put_as}
use Rattle.text.proofs.TextLaws.{text_put}
use Rattle.text.proofs.place.Goals as goal

pub returns : goal.returns
returns c = text_put (put_then (put_as (ap (λ (d : ℕ). d ∷ []) c.letter.ensures) c.put_byte.ensures) c.put_unit.ensures)
