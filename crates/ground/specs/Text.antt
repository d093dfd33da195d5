-- A text as the bytes that a program writes.
use Rattle.std.specs.Prelude.{ℕ, zero, suc, List, [], ◌∷◌}
use Prim.Native.Char.{code}
use Prim.Native.String.{String, len, char_at}

-- n characters of a text, from the character at i on
unfoldable pub bytes_from : ℕ → ℕ → String → List ℕ
bytes_from zero i s = []
bytes_from (suc n) i s = code (char_at s i) ∷ bytes_from n (suc i) s

-- the bytes of a text of plain letters, digits and spaces
unfoldable pub bytes_of : String → List ℕ
unfolding bytes_from
bytes_of s = bytes_from (len s) 0 s
