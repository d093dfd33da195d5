-- `take_turn` meets its contract: the bytes that the read gave are printed; where it gave none, the trace stands where it stood.
use Rattle.std.proofs.Common.{sym, inl, inr}
use Rattle.trace_lines.proofs.RunLaws.{buffer_none}
use Rattle.trace_lines.proofs.TraceLaws.{progress_none}
use Rattle.trace_lines.proofs.run.take_turn.Goals as goal

pub returns-in-Ended-clause-progress : goal.returns-in-Ended-clause-progress
returns-in-Ended-clause-progress g c = elim c.in-Ended.is [ inl e ↦ rw e (sym (progress_none _)) | inr e ↦ rw e (sym (progress_none _)) ]

pub returns-in-Ended-clause-buffer : goal.returns-in-Ended-clause-buffer
returns-in-Ended-clause-buffer g c = elim c.in-Ended.is [ inl e ↦ rw e (sym (buffer_none _ _)) | inr e ↦ rw e (sym (buffer_none _ _)) ]
