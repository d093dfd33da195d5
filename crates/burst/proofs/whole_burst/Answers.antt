-- `whole_burst` meets its contract: the first frame is at the front, and the same half-cycles are put behind it.
use mathlib.Core.Path.{◌∙◌, ap}
use Prim.Native.Nat.{ℕ}
use native.Mathlib.Nat.{sub-zero}
use lib.Seq.{sets, paste}
use Rattle.message.specs.declared.word.Word.{Word}
use Rattle.burst.specs.Frames.{bits_of, pairs_of}
use Rattle.burst.proofs.Writing.{started, frame_placed, burst_placed, length-of_word}
use Rattle.burst.proofs.whole_burst.Goals as goal

pub returns : goal.returns
returns c =
    λ m e.
    let w = c.args.w in
    let a = c.first_frame-a.result in
    let first = c.first_frame-a.ensures
    ∙ ap (λ (v : Word). sets started 4 (pairs_of (bits_of v.count v.bits))) e
    ∙ frame_placed m in
    let n = c.frame_length-n.result in
    c.copy_within.ensures.after
    ∙ ap (paste a n a) (sub-zero n)
    ∙ ap (λ (k : ℕ). paste a k a k) (length-of_word m w n e c.frame_length-n.ensures)
    ∙ burst_placed m a first
