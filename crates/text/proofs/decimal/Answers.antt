-- `decimal` meets its contract: what is put into a blank text is the text.
use Rattle.text.proofs.TextLaws.{text_put}
use Rattle.text.proofs.decimal.Goals as goal

pub returns : goal.returns
returns c = text_put c.put_number.ensures
