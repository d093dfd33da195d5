-- `reads` meets its contract: whether the half-cycle is the first of a pair, and then whether it is what the first was, picks the
-- case of `read_of`.
use borrow.Author.Tests.{eq-eqb, ne_eqb}
use native.Mathlib.Omega.{arith}
use Rattle.receiver.specs.Receivers.{read_of}
use Rattle.receiver.proofs.ReceiverLaws.{at_most, last_code}
use Rattle.receiver.proofs.reads.Goals as goal

pub overflow_add-r : goal.overflow_add-r
overflow_add-r c = omega (arith, at_most _ _ c.requires.1)

pub returns-then-r-eq1 : goal.returns-then-r-eq1
unfolding read_of
returns-then-r-eq1 c = simp (c.saying.ensures, c.shift-past.ensures, eq-eqb _ _ c.if-r-eq1.true)

pub breaks-requires : goal.breaks-requires
breaks-requires c = at_most _ _ c.requires.1

pub returns-then-first-half : goal.returns-then-first-half
unfolding read_of
returns-then-first-half c =
    simp (
      c.saying-then-first-half.ensures,
      c.breaks.ensures,
      c.shift-past.ensures,
      ne_eqb _ _ c.if-r-eq1.false,
      eq-eqb _ _ c.if-first-half.true,
    )

pub pair-requires : goal.pair-requires
pair-requires c = (at_most _ _ c.requires.1, last_code c.args.r c.requires.1)

pub returns : goal.returns
unfolding read_of
returns c = simp (c.pair.ensures, c.shift-past.ensures, ne_eqb _ _ c.if-r-eq1.false, ne_eqb _ _ c.if-first-half.false)
