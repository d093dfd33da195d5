-- `write` meets its contract: a payload of no form is its first cause, and what is left is its callee's.
use Rattle.std.proofs.Common.{[], ◌∷◌, sym, ◌∙◌}
use Rattle.ground.specs.Refusals.{unless, judged}
use Rattle.ground.specs.declared.Refusal.TheVariants as refusal
use Rattle.ground.proofs.Causes.{ladder}
use Rattle.lynx_net.specs.Payloads.{payload_ok}
use Rattle.lynx_net.specs.Packets.{packet_of, write_answer, buffer_after}
use Rattle.lynx_net.proofs.FormLaws.{payload_length}
use Rattle.lynx_net.proofs.PacketLaws.{past_causes}
use Rattle.lynx_net.proofs.write.Goals as goal

pub returns-then-not-payload_ok : goal.returns-then-not-payload_ok
unfolding write_answer buffer_after
returns-then-not-payload_ok c =
    record { answer = search ladder; report = search ladder; buffer = search ladder }

pub write_around-requires : goal.write_around-requires
write_around-requires c = payload_length c.args.payload.now (sym c.payload_ok.ensures ∙ c.if-not-payload_ok.false)

pub returns : goal.returns
unfolding write_answer buffer_after judged
returns c =
    let a = c.args in
    let p = a.payload.now in
    let one = sym c.payload_ok.ensures ∙ c.if-not-payload_ok.false in
    let owed = past_causes (packet_of a.node a.sequence p) a.buf.now (unless (payload_ok p) refusal.Payload ∷ []) (rw one) c.write_around.ensures.value c.write_around.ensures.buf_after in
    record { answer = owed.0; report = owed.1.0; buffer = owed.1.1 }
