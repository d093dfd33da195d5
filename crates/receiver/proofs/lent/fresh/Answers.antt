-- `lent::fresh` meets its contract: its one test is the first cause, and a fresh receiver is valid.
use mathlib.Core.Path.{ap, ◌∙◌}
use Rattle.ground.proofs.Causes.{ladder}
use Rattle.receiver.specs.Bytes.{receiver_bytes, put_answer, put_after}
use Rattle.receiver.proofs.ReceiverLaws.{fresh_is_valid}
use Rattle.receiver.proofs.lent.fresh.Goals as goal

pub returns-then-state-ne13 : goal.returns-then-state-ne13
unfolding put_answer put_after
returns-then-state-ne13 c =
    record { answer = search ladder; report = search ladder; state = search ladder }

pub returns : goal.returns
unfolding put_answer put_after
returns c =
    let ok = fresh_is_valid in
    record {
      answer = let put = c.put_bytes.ensures
          ∙ ap receiver_bytes c.fresh.ensures in search ladder;
      report = let put = c.put_bytes.ensures
          ∙ ap receiver_bytes c.fresh.ensures in search ladder;
      state = let put = c.put_bytes.ensures
          ∙ ap receiver_bytes c.fresh.ensures in search ladder;
    }
