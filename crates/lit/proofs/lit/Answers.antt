-- `lit` meets its contract: its three tests are the causes in their order, and past them it answers the byte that was read.
use Rattle.ground.proofs.Causes.{ladder}
use Rattle.lit.specs.Lit.{lit_answer}
use Rattle.lit.proofs.lit.Goals as goal

pub returns-then-t-ne-TABLE_BYTES : goal.returns-then-t-ne-TABLE_BYTES
unfolding lit_answer
returns-then-t-ne-TABLE_BYTES c = search ladder

pub returns-then-house-gt15 : goal.returns-then-house-gt15
unfolding lit_answer
returns-then-house-gt15 c = search ladder

pub returns-then-x-gt16 : goal.returns-then-x-gt16
unfolding lit_answer
returns-then-x-gt16 c = search ladder

pub returns : goal.returns
unfolding lit_answer
returns c = search ladder
