-- `empty` meets its contract: its one test is its one cause.
use mathlib.Core.Path.{ap, ◌∙◌}
use Rattle.ground.proofs.Causes.{ladder}
use Rattle.station_lent.specs.StationBytes.{station_bytes, empty_answer, empty_after}
use Rattle.station_lent.proofs.empty.Goals as goal

pub returns-then-state-ne-STATION_BYTES : goal.returns-then-state-ne-STATION_BYTES
unfolding empty_answer empty_after
returns-then-state-ne-STATION_BYTES c = record { answer = search ladder; report = search ladder; state = search ladder }

pub returns : goal.returns
unfolding empty_answer empty_after
returns c =
    let put = c.put_bytes.ensures ∙ ap station_bytes c.empty.ensures in
    record { answer = search ladder; report = search ladder; state = search ladder }
