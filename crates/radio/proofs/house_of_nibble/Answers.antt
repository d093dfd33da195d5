-- `house_of_nibble` meets its contract: of each of the sixteen the formula gives the place of the four bits among the houses', which one
-- computed test shows.
use mathlib.Core.Path.{refl}
use Prim.Native.Nat.{ℕ, ◌*◌, ◌/◌, ◌%◌}
use borrow.Author.Tests.{eqb-true}
use lib.Bits.{bit_xor}
use lib.Dec.{eqb}
use Rattle.message.specs.Codes.{place_in}
use Rattle.message.proofs.Tables.{every_at}
use Rattle.radio.specs.Codes.{house_of_nibble, house_nibbles, sixteen}
use Rattle.radio.proofs.house_of_nibble.Goals as goal

-- what the code computes
house_from : ℕ → ℕ
house_from n = bit_xor (bit_xor n (n / 4 % 2 * 10)) 12

pub returns : goal.returns
unfolding house_of_nibble place_in house_nibbles sixteen house_from
returns c =
    let n = c.args.nibble in
    eqb-true (house_from n) (house_of_nibble n) (every_at (λ k x. eqb (house_from k) (house_of_nibble k)) sixteen 0 n refl c.requires)
