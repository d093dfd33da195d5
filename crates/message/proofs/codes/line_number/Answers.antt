-- `codes::line_number` meets its contract: at each of the sixteen codes the constant table has the place of the code in the line
-- codes, which one computed test shows, and no code is above 15.
use mathlib.Core.Path.{refl, sym}
use mathlib.Core.List.{List, [], ◌∷◌}
use Prim.Native.Nat.{ℕ}
use borrow.Author.Tests.{eqb-true}
use lib.Dec.{eqb}
use lib.ListN.{get_or}
use Rattle.message.specs.Codes.{number_of, place_in, line_codes}
use Rattle.message.proofs.Tables.{every_at, place_absent}
use Rattle.message.proofs.codes.line_number.Goals as goal

line_numbers : List ℕ
line_numbers = 12 ∷ 4 ∷ 2 ∷ 10 ∷ 14 ∷ 6 ∷ 0 ∷ 8 ∷ 13 ∷ 5 ∷ 3 ∷ 11 ∷ 15 ∷ 7 ∷ 1 ∷ 9 ∷ []

pub returns-then-n-lt16 : goal.returns-then-n-lt16
unfolding number_of place_in line_codes line_numbers
returns-then-n-lt16 c =
    let n = c.args.code in
    eqb-true (get_or line_numbers n 0) (number_of n) (every_at (λ k x. eqb x (number_of k)) line_numbers 0 n refl c.if-n-lt16.true)

pub returns-else-n-lt16 : goal.returns-else-n-lt16
unfolding number_of line_codes
returns-else-n-lt16 c = sym (place_absent line_codes c.args.code 16 0 refl c.if-n-lt16.false)
