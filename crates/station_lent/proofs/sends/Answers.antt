-- `sends` meets its contract: what `station::sends` answered tells whether the station is refused.
use mathlib.Core.Path.{refl}
use Rattle.station_lent.specs.StationBytes.{sent_answer}
use Rattle.station_lent.proofs.StationLaws.{send_done, send_refused}
use Rattle.station_lent.proofs.sends.Goals as goal

pub returns-in-Ok-clause-answer : goal.returns-in-Ok-clause-answer
unfolding sent_answer
returns-in-Ok-clause-answer c =
    let owed = send_done c.args.state.now c.station_in.result c.station_in.ensures _
    c.sends.ensures.report _ c.in-Ok.is in
    owed.0

pub returns-in-Err-clause-answer : goal.returns-in-Err-clause-answer
unfolding sent_answer
returns-in-Err-clause-answer c =
    let owed = send_refused c.args.state.now c.station_in.result c.station_in.ensures _
    c.sends.ensures.report _ c.in-Err.is refl in
    owed.0
