-- `write_burst` meets its contract: a message without bits is the first cause, and what is left of the causes is its callee's.
use Rattle.std.specs.Prelude.{Result, Ok, Err}
use mathlib.Core.Path.{sym, ap, ◌∙◌}
use Prim.Native.Nat.{ℕ}
use Rattle.ground.specs.Refusals.{count_report}
use Rattle.ground.specs.declared.Refusal.{Refusal}
use Rattle.ground.proofs.Causes.{ladder, judged_map}
use Rattle.burst.specs.Frames.{burst_length}
use Rattle.burst.specs.Writer.{short_causes, burst_answer, buffer_after}
use Rattle.burst.proofs.Writing.{has_bits, no_bits, few_bits}
use Rattle.burst.proofs.write_burst.Goals as goal

pub write_word-requires : goal.write_word-requires
write_word-requires c =
    let m = c.args.m in
    few_bits m c.in-Ok.w (has_bits m c.in-Ok.w (sym c.word_of.ensures.answer ∙ c.in-Ok.is)).1

pub returns-in-Ok : goal.returns-in-Ok
unfolding burst_answer buffer_after
returns-in-Ok c =
    let m = c.args.m in
    let bits = has_bits m c.in-Ok.w (sym c.word_of.ensures.answer ∙ c.in-Ok.is) in
    let ok = bits.0 in
    let rest = c.write_word.ensures.value m bits.1 in
    let buffer = c.write_word.ensures.buf_after m bits.1 in
    let report = ap count_report rest ∙ judged_map count_report (Ok (burst_length m)) Err (short_causes m _) in
    record { answer = search ladder; report = search ladder; buffer = search ladder }

pub returns-in-Err : goal.returns-in-Err
unfolding burst_answer buffer_after
returns-in-Err c =
    let none = no_bits c.args.m c.in-Err.why (sym c.word_of.ensures.answer ∙ c.in-Err.is) in
    let bad-message = none.0 in
    let answer = ap {B = Result ℕ Refusal} Err none.1 in
    let report = ap count_report answer in
    record { answer = search ladder; report = search ladder; buffer = search ladder }
