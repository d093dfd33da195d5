-- `no_answers` meets its contract: the part of the buffer is filled with 0.
use mathlib.Core.Path.{ap, ◌∙◌}
use Prim.Native.Nat.{ℕ, ◌*◌}
use lib.ListN.{replicate}
use borrow.Rule.Slice.PartMut.{mid_len}
use Rattle.room.proofs.MainsLaws.{nought_put}
use Rattle.room.proofs.mains.no_answers.Goals as goal

pub returns : goal.returns
returns c =
    let a = c.args.answers.now in
    let long = mid_len (8 * c.args.from) (8 * c.args.to) a c.requires.1 in
    nought_put a _ c.args.from c.args.to c.requires.0 c.requires.1
    (c.fill.ensures.after (λ y same. same) ∙ ap (λ (n : ℕ). replicate n 0) long)
