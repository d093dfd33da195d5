-- `message_count` meets its contract: in each arm the ending is the one that the pattern names.
use Rattle.std.proofs.Common.{sym, ◌∙◌, add-zero}
use Rattle.lynx_net.proofs.ListLaws.{count_by}
use Rattle.lynx_net.proofs.payload.message_count.Goals as goal

pub returns-in-Nothing : goal.returns-in-Nothing
returns-in-Nothing c = sym (add-zero _) ∙ count_by c.args.ms c.unit_count-n.ensures.0 c.in-Nothing.is

pub returns-in-Message : goal.returns-in-Message
returns-in-Message c = count_by c.args.ms c.unit_count-n.ensures.0 c.in-Message.is

pub returns-in-EveryHouse : goal.returns-in-EveryHouse
returns-in-EveryHouse c = count_by c.args.ms c.unit_count-n.ensures.0 c.in-EveryHouse.is
