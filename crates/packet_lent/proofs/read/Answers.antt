-- `read` meets its contract: what the packet's reader refuses is refused first, and of a packet that it reads all is told.
use Rattle.ground.proofs.Passed.{passed_on}
use Rattle.packet_lent.proofs.BytesLaws.{packet_carried, packet_refused}
use Rattle.packet_lent.proofs.read.Goals as goal

pub returns : goal.returns
returns c =
    let a = c.args in
    let told = packet_carried a.packet.now a.out.now _ c.read.ensures.answer c.in_ok-p.was c.put_packet.ensures.value c.put_packet.ensures.out_after in
    record { answer = told.0; report = told.1.0; buffer = told.1.1 }

pub returns-in_err-p : goal.returns-in_err-p
returns-in_err-p c =
    let a = c.args in
    let told = packet_refused a.packet.now a.out.now _ c.read.ensures.report c.in_err-p.was (passed_on _ c.from_residual.ensures.1) in
    record { answer = told.0; report = told.1.0; buffer = told.1.1 }
