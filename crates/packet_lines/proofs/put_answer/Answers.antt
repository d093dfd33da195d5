-- `put_answer` meets its contract: what is put is what is read, a packet of few messages or a refusal.
use mathlib.Core.Path.{sym, ◌∙◌}
use native.Mathlib.Omega.{arith}
use Rattle.ground.specs.Refusals.{refusal_number}
use Rattle.text.proofs.TextLaws.{digits_at_most}
use Rattle.packet_lines.proofs.AnswerLaws.{answer_few}
use Rattle.packet_lines.proofs.put_answer.Goals as goal

pub put_packet-requires : goal.put_packet-requires
put_packet-requires c =
    answer_few c.args.packet.now c.in-Ok.p
    (sym c.read.ensures.answer ∙ c.in-Ok.is)

pub returns-in-Err-clause-room : goal.returns-in-Err-clause-room
returns-in-Err-clause-room c =
    let why = c.in-Err.why in
    omega (arith, c.put_refusal.ensures.place, digits_at_most 20 (refusal_number why))
