-- `write_payload` meets its contract: its tests are its first two causes, and in each arm the bytes are the message's payload.
use Rattle.std.proofs.Common.{ℕ, ◌+◌, [], ◌∷◌, sym, ap, ◌∙◌}
use Rattle.ground.proofs.Causes.{ladder}
use Rattle.lynx_net.specs.Payloads.{payload_of, CLOSE}
use Rattle.lynx_net.specs.Packets.{alone_answer, alone_after}
use Rattle.lynx_net.proofs.PacketLaws.{alone_written}
use Rattle.lynx_net.proofs.payload.write_payload.Goals as goal

pub returns-then-not-valid : goal.returns-then-not-valid
unfolding alone_answer alone_after
returns-then-not-valid c =
    record { answer = search ladder; report = search ladder; buffer = search ladder }

pub returns-then-not-has_payload : goal.returns-then-not-has_payload
unfolding alone_answer alone_after
returns-then-not-has_payload c =
    record { answer = search ladder; report = search ladder; buffer = search ladder }

pub returns-in-Address : goal.returns-in-Address
returns-in-Address c =
    let a = c.args in
    let valid = sym c.valid.ensures ∙ c.if-not-valid.false in
    let has = sym c.has_payload.ensures ∙ c.if-not-has_payload.false in
    let is = ap payload_of (sym c.in-Address.is) in
    let owed = alone_written a.m _ a.buf.now is valid has c.put_front.ensures.value c.put_front.ensures.buf_after in
    record { answer = owed.0; report = owed.1.0; buffer = owed.1.1 }

pub returns-in-Function : goal.returns-in-Function
returns-in-Function c =
    let a = c.args in
    let valid = sym c.valid.ensures ∙ c.if-not-valid.false in
    let has = sym c.has_payload.ensures ∙ c.if-not-has_payload.false in
    let is = ap (λ (k : ℕ). (0x10 + k) ∷ c.in-Function.house ∷ CLOSE ∷ []) c.function_code.ensures ∙ ap payload_of (sym c.in-Function.is) in
    let owed = alone_written a.m _ a.buf.now is valid has c.put_front-in-Function.ensures.value c.put_front-in-Function.ensures.buf_after in
    record { answer = owed.0; report = owed.1.0; buffer = owed.1.1 }

pub returns-in-Extended : goal.returns-in-Extended
returns-in-Extended c =
    let a = c.args in
    let valid = sym c.valid.ensures ∙ c.if-not-valid.false in
    let has = sym c.has_payload.ensures ∙ c.if-not-has_payload.false in
    let is = ap payload_of (sym c.in-Extended.is) in
    let owed = alone_written a.m _ a.buf.now is valid has c.put_front-in-Extended.ensures.value c.put_front-in-Extended.ensures.buf_after in
    record { answer = owed.0; report = owed.1.0; buffer = owed.1.1 }
