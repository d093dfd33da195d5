-- `command` meets its contract: the kind with the house, and then the name, which is the one that stands in its table at the
-- function's code.
use mathlib.Core.Path.{ap, ◌∙◌}
use native.Mathlib.Omega.{arith}
use Rattle.ground.specs.Text.{bytes_of, bytes_from}
use Rattle.message.specs.Codes.{function_code}
use Rattle.message.proofs.CodeLaws.{function_code-below}
use Rattle.text.specs.Texts.{trimmed, message_text}
use Rattle.text.proofs.PutLaws.{put_then, put_as}
use Rattle.text.proofs.TextLaws.{trimmed_name, text_put}
use Rattle.text.proofs.command.Goals as goal

pub head-t-requires : goal.head-t-requires
unfolding trimmed
head-t-requires c = omega arith

pub put_word-requires : goal.put_word-requires
unfolding trimmed
put_word-requires c = omega arith

pub returns : goal.returns
unfolding message_text trimmed bytes_of bytes_from
returns c =
    let f = c.args.function in
    let name = ap trimmed c.name_of.ensures ∙ trimmed_name (function_code f) (function_code-below f) in
    text_put (put_then c.head-t.ensures (put_as name c.put_word.ensures))
