-- `put_word` meets its contract: what is still to be put, put at the place reached, makes what the whole word makes of the text.
use mathlib.Core.Path.{◌≡◌}
use mathlib.Core.List.{List}
use Prim.Native.Nat.{ℕ, ◌+◌}
use lib.ListN.{length, drop}
use lib.Seq.{sets}
use Rattle.text.specs.Texts.{trimmed}
use Rattle.text.specs.declared.Text.{Text}
use Rattle.text.proofs.Text.put_word.Given as goal

-- the word from i on is still to be put, at the place reached
pub record Rest (begun : Text) (word out : List ℕ) (i : ℕ) : Type 0 where
  pub whole : length word ≡ 16
  pub bytes : sets out (begun.length + i) (trimmed (drop i word)) ≡ sets begun.bytes begun.length (trimmed word)
  pub count : i + length (trimmed (drop i word)) ≡ length (trimmed word)

abbrev pub invariant-loop-i : goal.invariant-loop-i
invariant-loop-i l = Rest l.initial.self l.word l.self.bytes l.i
