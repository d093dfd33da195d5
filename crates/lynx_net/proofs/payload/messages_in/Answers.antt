-- `messages_in` meets its contract: bytes that are of no form are refused, and of the others their form tells the messages.
use Rattle.std.proofs.Common.{◌≡◌, true, sym, ap, ◌∙◌}
use Rattle.lynx_net.specs.declared.payload.Form.{Form}
use Rattle.lynx_net.specs.Payloads.{form_in, fits_form, payload_ok}
use Rattle.lynx_net.specs.Lists.{held_by}
use Rattle.lynx_net.proofs.FormLaws.{too_short, payload_length}
use Rattle.lynx_net.proofs.ListLaws.{answered, not_answered}
use Rattle.lynx_net.proofs.payload.messages_in.Goals as goal

pub returns-then-payload-lt2 : goal.returns-then-payload-lt2
returns-then-payload-lt2 c =
    let p = c.args.payload.now in
    let owed = not_answered p (too_short p c.if-payload-lt2.true (form_in p)) in
    record { answer = owed.0; report = owed.1 }

pub returns-then-not-fits_form : goal.returns-then-not-fits_form
returns-then-not-fits_form c =
    let p = c.args.payload.now in
    let bad = sym (c.fits_form.ensures ∙ ap (λ (f : Form). fits_form f p) c.form_of-form.ensures) ∙ c.if-not-fits_form.true in
    let owed = not_answered p bad in
    record { answer = owed.0; report = owed.1 }

pub held_by-requires : goal.held_by-requires
held_by-requires c =
    let p = c.args.payload.now in
    let fits = sym c.fits_form.ensures ∙ c.if-not-fits_form.false in
    let ok : payload_ok p ≡ true = sym (ap (λ (f : Form). fits_form f p) c.form_of-form.ensures) ∙ fits in
    (payload_length p ok, fits)

pub returns : goal.returns
returns c =
    let p = c.args.payload.now in
    let form = c.form_of-form.ensures in
    let ok : payload_ok p ≡ true =
    sym (ap (λ (f : Form). fits_form f p) form) ∙ sym c.fits_form.ensures ∙ c.if-not-fits_form.false in
    let owed = answered p ok (c.held_by.ensures ∙ ap (λ (f : Form). held_by f p) form) in
    record { answer = owed.0; report = owed.1 }
