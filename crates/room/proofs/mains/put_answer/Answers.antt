-- `put_answer` meets its contract: the eight bytes of a number are those of the definition.
use mathlib.Core.Path.{◌∙◌}
use native.Mathlib.Omega.{arith}
use Rattle.room.proofs.MainsLaws.{answer_put}
use Rattle.room.proofs.mains.put_answer.Goals as goal

pub returns : goal.returns
returns c =
    answer_put c.args.answers.now _ c.args.at _ c.args.answer c.requires (omega arith) (c.copy_from_slice.ensures.after ∙ c.to_le_bytes.ensures)
