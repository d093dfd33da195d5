-- `put_number` meets its contract: the text is that of the number, and a number has twenty digits at most.
use mathlib.Core.Path.{◌≡◌}
use Prim.Native.Nat.{ℕ}
use native.Mathlib.Omega.{arith}
use lib.ListN.{take}
use Rattle.text.specs.Texts.{digits_of, text_of}
use Rattle.text.specs.declared.Text.{Text}
use Rattle.text.proofs.PutLaws.{put_as}
use Rattle.text.proofs.TextLaws.{digits_at_most, text_front}
use Rattle.packet_lines.proofs.put_number.Goals as goal

digits_front : {t : Text} (n : ℕ) → t ≡ text_of (digits_of n) → take t.length t.bytes ≡ digits_of n
digits_front n e = text_front e (omega (arith, digits_at_most 20 n))

pub returns : goal.returns
returns c = put_as (digits_front c.args.number c.decimal.ensures) c.put_text.ensures
