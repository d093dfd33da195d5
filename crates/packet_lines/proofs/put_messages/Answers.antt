use mathlib.Core.Path.{sym, ap, ◌∙◌}
use Prim.Native.Nat.{ℕ}
use native.Mathlib.Numerals.{add-one}
use native.Mathlib.Omega.{arith}
use lib.ListN.{take}
use Rattle.text.proofs.PutLaws.{put_none, put_then, put_as}
use Rattle.lynx_net.specs.Lists.{listed}
use Rattle.packet_lines.specs.Answers.{fields_of}
use Rattle.packet_lines.proofs.AnswerLaws.{fields-more}
use Rattle.packet_lines.proofs.put_messages.Goals as goal

pub loop-i-init : goal.loop-i-init
unfolding fields_of
loop-i-init c = (omega arith, put_none _ _)

pub loop-i-preserved : goal.loop-i-preserved
loop-i-preserved c =
    let l = c.loop-i in
    let ms = c.args.ms in
    let more = ap (λ (k : ℕ). fields_of (take k (listed ms))) (add-one l.i) ∙ fields-more (listed ms) l.i in
    (omega arith, put_as (sym more) (put_then l.invariant.1 c.put_nth-at.ensures.put))
