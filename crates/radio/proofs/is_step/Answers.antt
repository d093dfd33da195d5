-- `is_step` meets its contract: each code of a bright or dim passes the two tests, and where they are passed the house taken out of b makes b
-- again.
use Rattle.radio.proofs.ReaderLaws.{step_told}
use Rattle.radio.proofs.is_step.Goals as goal

pub returns : goal.returns
returns c = step_told c.args.b c.args.c c.ranges.b.fits
