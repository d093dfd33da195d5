-- `put_houses` meets its contract: the functions from house h on are still to be put, which makes what all of them make of the buffer.
use mathlib.Core.Path.{◌≡◌}
use mathlib.Core.List.{List, [], ◌∷◌}
use Prim.Native.Nat.{ℕ, ◌+◌, ◌*◌, ◌-◌}
use lib.Seq.{sets}
use Rattle.packet_lent.proofs.BytesLaws.{each_of}
use Rattle.packet_lent.proofs.put_houses.Given as goal

-- the five bytes of the function for house h
abbrev pub function_bytes : ℕ → ℕ → List ℕ
function_bytes code h = 2 ∷ h ∷ code ∷ 0 ∷ 0 ∷ []

abbrev pub invariant-loop-house : goal.invariant-loop-house
invariant-loop-house l =
    sets l.out (l.at + 5 * l.house) (each_of (function_bytes l.code) l.house (16 - l.house)) ≡ sets l.initial.out l.at (each_of (function_bytes l.code) 0 16)
