-- `half_at` meets its contract: a valid message has bits, and they make its frame; a place past the first frame is that of the second.
use Rattle.std.specs.Prelude.{Ok}
use mathlib.Core.Path.{◌≡◌, sym, ap, ◌∙◌}
use mathlib.Core.Bool.{false≢true}
use mathlib.Core.List.{◌∷◌}
use Prim.Native.Nat.{ℕ, ◌+◌, ◌-◌, ◌≤◌}
use native.Mathlib.Omega.{arith}
use lib.ListN.{get_or}
use Rattle.message.specs.Words.{bit_count, word_answer}
use Rattle.message.specs.declared.Message.{Message}
use Rattle.message.specs.declared.word.Word.{Word}
use Rattle.burst.specs.Frames.{bits_of, pairs_of, frame_of, frame_length}
use Rattle.burst.proofs.Writing.{count_at_most, frame_of-bits, has_bits, no_bits}
use Rattle.station.proofs.HalfAt.{burst_first, burst_second}
use Rattle.station.proofs.half_at.Goals as goal
use Rattle.station.proofs.half_at.Goals.{then-frame-at, else-frame-at}

-- how many bits there are, and with their start the frame's length
counted : (m : Message) (w : Word) → word_answer m ≡ Ok w → (w.count ≤ 29) × (frame_length m ≡ 4 + (w.count + w.count))
counted m w is =
    let count : w.count ≡ bit_count m = ap (λ (w : Word). w.count) (has_bits m w is).1 in
    (omega (arith, count_at_most m), omega (arith, frame_of-bits m))

pub overflow_add-frame : goal.overflow_add-frame
overflow_add-frame c = omega (arith, (counted c.args.m c.in-Ok.word (sym c.word_of.ensures.answer ∙ c.in-Ok.is)).0)

pub overflow_add-frame-in-Ok : goal.overflow_add-frame-in-Ok
overflow_add-frame-in-Ok c = omega (arith, (counted c.args.m c.in-Ok.word (sym c.word_of.ensures.answer ∙ c.in-Ok.is)).0)

pub frame_half-requires : goal.frame_half-requires
frame_half-requires c =
    let pre = c.requires in
    let few = (counted c.args.m c.in-Ok.word (sym c.word_of.ensures.answer ∙ c.in-Ok.is)).0 in
    let long = (counted c.args.m c.in-Ok.word (sym c.word_of.ensures.answer ∙ c.in-Ok.is)).1 in
    (omega arith, elim c.if-frame-at.branch [ then-frame-at w ↦ omega (arith, pre.1) | else-frame-at w ↦ omega (arith, pre.1) ])

pub returns-in-Err : goal.returns-in-Err
returns-in-Err c =
    let bad = (no_bits c.args.m _ (sym c.word_of.ensures.answer ∙ c.in-Err.is)).0 in
    absurd (false≢true (sym bad ∙ c.requires.0))

pub returns-after-frame-at : goal.returns-after-frame-at
unfolding frame_of
returns-after-frame-at c =
    let m = c.args.m in
    let place = c.args.place in
    let at = c.if-frame-at.at in
    let word = sym c.word_of.ensures.answer ∙ c.in-Ok.is in
    let long = (counted m c.in-Ok.word word).1 in
    let told = (has_bits m _ word).1 in
    let frame : c.frame_half.result ≡ get_or (frame_of m) at 0 =
    c.frame_half.ensures ∙ ap (λ (w : Word). get_or (1 ∷ 1 ∷ 1 ∷ 0 ∷ pairs_of (bits_of w.count w.bits)) at 0) told in
    let way : (p : ℕ) → at ≡ p → get_or (frame_of m) at 0 ≡ get_or (frame_of m) p 0 = λ p e. ap (λ (n : ℕ). get_or (frame_of m) n 0) e in
    frame
    ∙ elim c.if-frame-at.branch [
      | then-frame-at w ↦ way (place - frame_length m) (omega arith) ∙ sym (burst_second m place (omega arith))
      | else-frame-at w ↦ way place w.at-is ∙ sym (burst_first m place (omega arith))
    ]
