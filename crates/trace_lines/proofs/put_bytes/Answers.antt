-- `put_bytes` meets its contract: the bytes stand in the place of the part that they were put into.
use mathlib.Core.Path.{refl}
use native.Mathlib.Omega.{arith}
use Rattle.text.proofs.PutLaws.{part_put}
use Rattle.trace_lines.proofs.put_bytes.Goals as goal

pub returns : goal.returns
returns c =
    let bytes = c.args.bytes.now in
    record {
      bytes = rw c.copy_from_slice.ensures.after (part_put c.args.out.now bytes c.args.at _ (omega arith) (omega arith));
      place = refl;
    }
