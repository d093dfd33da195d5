-- A record as three numbers of four bytes each, the first byte lowest: what the quick test of a record goes by.
use Rattle.std.specs.Prelude.{ℕ, ◌+◌, ◌*◌, ◌<◌, ◌≡◌}
use Rattle.record.specs.declared.Record.{Record}
use Rattle.record.specs.Layout.{preset, reference}

abbrev pub word : ℕ → ℕ → ℕ → ℕ → ℕ
word a b c d = a + b * 256 + c * 65536 + d * 16777216

-- x is made of these four bytes
pub record WordOf (x a b c d : ℕ) : Type 0 where
  pub value : x ≡ word a b c d
  pub first : a < 256
  pub second : b < 256
  pub third : c < 256
  pub fourth : d < 256

-- the twelve bytes of a record
pub record InWords (r : Record) (w p s : ℕ) : Type 0 where
  pub fields : WordOf w r.kind r.level r.addressed r.groups.mask
  pub presets : WordOf p (preset 0 r) (preset 1 r) (preset 2 r) (preset 3 r)
  pub references : WordOf s (reference 0 r) (reference 1 r) (reference 2 r) (reference 3 r)
