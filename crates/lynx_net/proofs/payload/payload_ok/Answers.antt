-- `payload_ok` meets its contract: no payload has fewer than two bytes, and the others are judged by their form.
use Rattle.std.proofs.Common.{sym}
use Rattle.lynx_net.specs.Payloads.{form_in}
use Rattle.lynx_net.proofs.FormLaws.{too_short}
use Rattle.lynx_net.proofs.payload.payload_ok.Goals as goal

pub returns-then-payload-lt2 : goal.returns-then-payload-lt2
returns-then-payload-lt2 c = let p = c.args.payload.now in sym (too_short p c.if-payload-lt2.true (form_in p))
