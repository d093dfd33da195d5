-- `reading` meets its contract: its two tests are those of `reading_of`, and neither reading refuses the bits that it is handed.
use mathlib.Core.Path.{◌≡◌, refl, sym, ◌∙◌}
use native.Mathlib.Omega.{arith}
use borrow.Author.Tests.{eq-eqb, ne_eqb}
use Rattle.message.specs.Words.{standard_of, extended_of}
use Rattle.message.specs.declared.word.Reading.TheVariants.{Message as Says}
use Rattle.receiver.proofs.ReceiverLaws.{nine_taken, read_nine, read_all}
use Rattle.receiver.proofs.reading.Goals as goal

pub unwrap-requires : goal.unwrap-requires
unwrap-requires c = nine_taken c.read_standard.ensures.answer (omega arith)

pub unwrap-requires-then-at-eq62 : goal.unwrap-requires-then-at-eq62
unwrap-requires-then-at-eq62 c = rw (c.read_extended.ensures.answer, read_all c.args.bits (c.requires c.if-at-eq62.true)) refl

pub returns-then-at-eq22 : goal.returns-then-at-eq22
returns-then-at-eq22 c =
    let read = sym c.unwrap.ensures ∙ c.read_standard.ensures.answer ∙ read_nine c.args.bits in
    let same : c.unwrap.result ≡ standard_of c.args.bits = cc in
    simp (same, eq-eqb _ _ c.if-at-eq22.true)

pub returns-then-at-eq62 : goal.returns-then-at-eq62
returns-then-at-eq62 c =
    let last = c.if-at-eq62.true in
    let read = sym c.unwrap-then-at-eq62.ensures ∙ c.read_extended.ensures.answer ∙ read_all c.args.bits (c.requires last) in
    let same : c.unwrap-then-at-eq62.result ≡ Says (extended_of c.args.bits) = cc in
    simp (same, ne_eqb _ _ c.if-at-eq22.false, eq-eqb _ _ last)
