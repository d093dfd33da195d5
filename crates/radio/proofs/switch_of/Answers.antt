-- `switch_of` meets its contract: the house and unit taken out of the b and c of a code make b and c again.
use mathlib.Core.Path.{sym, ◌∙◌}
use Rattle.radio.proofs.ReaderLaws.{of_switch, on_named, off_named}
use Rattle.radio.proofs.switch_of.Goals as goal

pub returns-then-bit_at-eq0 : goal.returns-then-bit_at-eq0
returns-then-bit_at-eq0 c =
    let s = c in
    let p = of_switch s.args.b s.args.c s.requires.1 in
    let on = sym c.bit_at.ensures ∙ c.if-bit_at-eq0.true in
    simp (s.requires.0, c.unit_from-unit.ensures)
    (sym (on_named s.args.b s.args.c s.ranges.b.fits p.0 p.1 p.2 on).1)

pub returns-else-bit_at-eq0 : goal.returns-else-bit_at-eq0
returns-else-bit_at-eq0 c =
    let s = c in
    let p = of_switch s.args.b s.args.c s.requires.1 in
    simp (s.requires.0, c.unit_from-unit.ensures)
    (sym (off_named s.args.b s.args.c s.ranges.b.fits p.0 p.1 p.2 (λ e. c.if-bit_at-eq0.false (c.bit_at.ensures ∙ e))).1)
