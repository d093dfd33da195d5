-- `put_receiver` meets its contract: its two tests are its two causes.
use Rattle.ground.proofs.Causes.{ladder}
use Rattle.receiver.specs.Bytes.{put_answer, put_after}
use Rattle.receiver.proofs.lent.put_receiver.Goals as goal

pub returns-then-state-ne13 : goal.returns-then-state-ne13
unfolding put_answer put_after
returns-then-state-ne13 c =
    record { answer = search ladder; report = search ladder; state = search ladder }

pub returns-then-not-valid : goal.returns-then-not-valid
unfolding put_answer put_after
returns-then-not-valid c =
    record { answer = search ladder; report = search ladder; state = search ladder }

pub returns : goal.returns
unfolding put_answer put_after
returns c =
    record { answer = search ladder; report = search ladder; state = search ladder }
