-- `read` meets its contract: its tests are its causes, in their order, and what is left is the payload's reader.
use Rattle.std.proofs.Common.{◌≡◌, true, false, get_or, sym, ap, ◌∙◌, eq-eqb, ne_eqb, Result, Ok, Err}
use Rattle.ground.specs.declared.Refusal.{Refusal}
use Rattle.ground.specs.declared.Refusal.TheVariants as refusal
use Rattle.ground.proofs.Causes.{ladder}
use Rattle.ground.proofs.Passed.{passed_on}
use Rattle.lynx_net.specs.declared.Packet.{Packet}
use Rattle.lynx_net.specs.declared.payload.Messages.{Messages}
use Rattle.lynx_net.specs.Payloads.{payload_ok}
use Rattle.lynx_net.specs.Lists.{payload_answer}
use Rattle.lynx_net.specs.Packets.{check_ok, payload_in, read_answer, read_report}
use Rattle.lynx_net.proofs.ListLaws.{payload_told, no_payload_told}
use Rattle.lynx_net.proofs.PacketLaws.{size_small, size_other, size_right, payload_between, read_reported}
use Rattle.lynx_net.proofs.read.Goals as goal

pub returns-then-n-lt5 : goal.returns-then-n-lt5
unfolding read_answer
returns-then-n-lt5 c =
    let bad = size_small c.args.packet.now c.if-n-lt5.true in
    record { answer = search ladder; report = search ladder }

pub returns-then-n-length : goal.returns-then-n-length
unfolding read_answer
returns-then-n-length c =
    let bad = size_other c.args.packet.now c.if-n-lt5.false c.if-n-length.true in
    record { answer = search ladder; report = search ladder }

pub returns-then-packet-last : goal.returns-then-packet-last
unfolding read_answer
returns-then-packet-last c =
    let p = c.args.packet.now in
    let size = size_right p c.if-n-lt5.false c.if-n-length.false in
    let other : check_ok p ≡ false = ne_eqb _ _ (λ e. c.if-packet-last.true (e ∙ sym c.check_of.ensures)) in
    record { answer = search ladder; report = search ladder }

pub returns-then-packet-ne-NETWORK : goal.returns-then-packet-ne-NETWORK
unfolding read_answer
returns-then-packet-ne-NETWORK c =
    let p = c.args.packet.now in
    let size = size_right p c.if-n-lt5.false c.if-n-length.false in
    let check : check_ok p ≡ true = eq-eqb _ _ (c.if-packet-last.false ∙ c.check_of.ensures) in
    record { answer = search ladder; report = search ladder }

pub returns : goal.returns
unfolding read_answer
returns c =
    let p = c.args.packet.now in
    let size = size_right p c.if-n-lt5.false c.if-n-length.false in
    let check : check_ok p ≡ true = eq-eqb _ _ (c.if-packet-last.false ∙ c.check_of.ensures) in
    let between = payload_between p c.if-n-lt5.false c.if-n-length.false in
    let told = payload_told (payload_in p) (c.messages_in.ensures.answer ∙ ap payload_answer between) c.in_ok-messages.was in
    let payload : payload_ok (payload_in p) ≡ true = told.0 in
    let parts = ap {B = Result Packet Refusal}
    (λ (ms : Messages). Ok (record { node = get_or p 1 0; sequence = get_or p 2 0; length = get_or p 3 0; messages = ms })) told.1 in
    let answer : ◌≡◌ {A = Result Packet Refusal}
    (Ok (record { node = get_or p 1 0; sequence = get_or p 2 0; length = get_or p 3 0; messages = c.in_ok-messages.messages })) (read_answer p) = search ladder in
    record { answer = answer; report = ap (read_report p) answer ∙ read_reported p }

pub returns-in_err-messages : goal.returns-in_err-messages
unfolding read_answer
returns-in_err-messages c =
    let p = c.args.packet.now in
    let size = size_right p c.if-n-lt5.false c.if-n-length.false in
    let check : check_ok p ≡ true = eq-eqb _ _ (c.if-packet-last.false ∙ c.check_of.ensures) in
    let between = payload_between p c.if-n-lt5.false c.if-n-length.false in
    let told = no_payload_told (payload_in p) (c.messages_in.ensures.answer ∙ ap payload_answer between) c.in_err-messages.was in
    let payload : payload_ok (payload_in p) ≡ false = told.0 in
    let answer : c.from_residual.result ≡ Err refusal.Payload = passed_on _ c.from_residual.ensures.1 ∙ ap {B = Result Packet Refusal} Err told.1 in
    let report = ap (read_report p) answer in
    record { answer = search ladder; report = search ladder }
