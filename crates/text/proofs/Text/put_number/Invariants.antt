-- `put_number` meets its contract: the digits still to be put are the last ones of what is left of the number, and putting them makes
-- what all digits make of the text.
use mathlib.Core.Path.{◌≡◌}
use lib.Seq.{sets}
use Rattle.text.proofs.TextLaws.{last_digits}
use Rattle.text.proofs.Text.put_number.Given as goal

abbrev pub invariant-loop-i : goal.invariant-loop-i
invariant-loop-i l =
    (l.self.length ≡ l.initial.self.length)
    × (sets l.self.bytes l.self.length (last_digits l.i l.rest) ≡ sets l.initial.self.bytes l.initial.self.length (last_digits l.k l.number))
