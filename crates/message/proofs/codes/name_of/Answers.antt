-- `codes::name_of` meets its contract: a function's code is below 16, and the constant table has the names, each filled up.
use mathlib.Core.Path.{◌∙◌}
use mathlib.Core.List.{[], map}
use lib.ListN.{get_or-map}
use Rattle.ground.specs.Text.{bytes_of, bytes_from}
use Rattle.message.specs.Codes.{function_code, function_names, name_at, padded}
use Rattle.message.proofs.CodeLaws.{function_code-below}
use Rattle.message.proofs.Tables.{get_d_any}
use Rattle.message.proofs.codes.name_of.Goals as goal

pub returns : goal.returns
unfolding name_at function_names padded bytes_of bytes_from
returns c =
    let code = c.function_code-n.ensures in
    let f = c.args.f in
    rw code (get_d_any (map padded function_names) (function_code f) [] (padded []) (function_code-below f)
    ∙ get_or-map padded function_names (function_code f) [])
