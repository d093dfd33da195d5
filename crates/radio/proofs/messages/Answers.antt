-- `messages` meets its contract: the test is that of `messages_causes`, and the messages are those that the command means.
use Rattle.std.specs.Prelude.{Result, Ok}
use mathlib.Core.Path.{ap}
use Rattle.ground.specs.declared.Refusal.{Refusal}
use Rattle.radio.specs.declared.RadioMessages.{RadioMessages}
use Rattle.ground.proofs.Causes.{ladder}
use Rattle.radio.specs.Answers.{messages_answer, messages_report}
use Rattle.radio.proofs.messages.Goals as goal

pub returns-then-not-valid : goal.returns-then-not-valid
unfolding messages_answer
returns-then-not-valid c =
    record { answer = search ladder; report = search ladder }

pub returns : goal.returns
unfolding messages_answer
returns c =
    let meant = ap {B = Result RadioMessages Refusal} Ok c.messages_meant.ensures in
    let reported = ap messages_report meant in
    record { answer = search ladder; report = search ladder }
