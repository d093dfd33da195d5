-- `frame_half` meets its contract: below four the start says it, and from there on the bit of the pair, or its complement.
use mathlib.Core.Path.{sym, ◌∙◌}
use borrow.Author.Tests.{eq-eqb, ne_eqb}
use Prim.Native.Nat.{◌-◌, ◌%◌}
use Rattle.station.proofs.HalfAt.{frame_pair}
use Rattle.station.proofs.frame_half.Goals as goal

pub returns-then-past-eq0 : goal.returns-then-past-eq0
returns-then-past-eq0 c =
    let a = c.args in
    sym
    (frame_pair a.bits a.word a.place c.if-place-lt4.false c.requires.1
    ∙ rw (eq-eqb ((a.place - 4) % 2) 0 c.if-past-eq0.true))

pub returns-else-past-eq0 : goal.returns-else-past-eq0
returns-else-past-eq0 c =
    let a = c.args in
    sym
    (frame_pair a.bits a.word a.place c.if-place-lt4.false c.requires.1
    ∙ rw (ne_eqb ((a.place - 4) % 2) 0 c.if-past-eq0.false))
