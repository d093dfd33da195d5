-- `step_run` meets its contract. The loop's invariant, Turn: the shutters passed are stepped, and the count is that of the openings changed so far.
use Rattle.ground.proofs.Records.{Turn}
use Rattle.shutter.specs.Shutters.{step_shutter}
use Rattle.shutter_table.specs.ShutterTable.{SHUTTERS, shutters, opening_of}
use Rattle.shutter_table.proofs.step_run.Given as goal

abbrev pub invariant-loop-n : goal.invariant-loop-n
invariant-loop-n g l = Turn shutters opening_of (λ k. step_shutter l.motion) l.first l.many SHUTTERS l.initial.t l.t l.count l.n
