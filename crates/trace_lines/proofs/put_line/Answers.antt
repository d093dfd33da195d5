-- `put_line` meets its contract: the number, what follows it and the end of the line, one after the other; 20, 28 and 1 bytes at most.
use native.Mathlib.Omega.{arith}
use Rattle.trace_lines.specs.Lines.{line_text}
use Rattle.text.proofs.PutLaws.{put_then}
use Rattle.text.proofs.TextLaws.{digits_at_most}
use Rattle.trace_lines.proofs.LineLaws.{fields_at_most}
use Rattle.trace_lines.proofs.put_line.Goals as goal

pub put_fields-b-requires : goal.put_fields-b-requires
put_fields-b-requires c = omega (arith, digits_at_most 20 c.args.number)

pub put_bytes-requires : goal.put_bytes-requires
put_bytes-requires c = omega (arith, digits_at_most 20 c.args.number, fields_at_most c.args.line _ c.well_formed.1.1.1.0)

pub returns : goal.returns
unfolding line_text
returns c = put_then c.put_number-a.ensures (put_then c.put_fields-b.ensures c.put_bytes.ensures)
