-- `held_by` meets its contract: in each arm the form is the one that the pattern names, and by it the bytes are there.
use Rattle.std.proofs.Common.{sym, ap, ◌∙◌, arith}
use Rattle.lynx_net.specs.declared.payload.Form.{Form}
use Rattle.lynx_net.specs.Payloads.{fits_form}
use Rattle.lynx_net.proofs.FormLaws.{units_parts, extended_length}
use Rattle.lynx_net.proofs.payload.held_by.Goals as goal

pub with_units-requires : goal.with_units-requires
with_units-requires c =
    let p = c.args.payload.now in
    let parts = units_parts p 1 16 (sym (ap (λ (f : Form). fits_form f p) c.in-Addresses.is) ∙ c.requires.1) in
    (parts.long, c.requires.0, parts.fit)

pub bounds-payload-1 : goal.bounds-payload-1
bounds-payload-1 c =
    let p = c.args.payload.now in
    omega (arith, (units_parts p 0 _ (sym (ap (λ (f : Form). fits_form f p) c.in-Units.is) ∙ c.requires.1)).long)

pub with_units-requires-in-Units : goal.with_units-requires-in-Units
with_units-requires-in-Units c =
    let p = c.args.payload.now in
    let parts = units_parts p 0 _ (sym (ap (λ (f : Form). fits_form f p) c.in-Units.is) ∙ c.requires.1) in
    (parts.long, c.requires.0, parts.fit)

pub bounds-payload-1-in-ExtendedCode : goal.bounds-payload-1-in-ExtendedCode
bounds-payload-1-in-ExtendedCode c = let p = c.args.payload.now in omega (arith, extended_length p (sym (ap (λ (f : Form). fits_form f p) c.in-ExtendedCode.is) ∙ c.requires.1))

pub bounds-payload-2 : goal.bounds-payload-2
bounds-payload-2 c = let p = c.args.payload.now in omega (arith, extended_length p (sym (ap (λ (f : Form). fits_form f p) c.in-ExtendedCode.is) ∙ c.requires.1))

pub bounds-payload-4 : goal.bounds-payload-4
bounds-payload-4 c = let p = c.args.payload.now in omega (arith, extended_length p (sym (ap (λ (f : Form). fits_form f p) c.in-ExtendedCode.is) ∙ c.requires.1))
