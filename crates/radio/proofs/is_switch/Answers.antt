-- `is_switch` meets its contract: each code of an on or off passes the three tests, and where they are passed the house and unit taken out of
-- b and c make b and c again.
use Rattle.radio.proofs.ReaderLaws.{switch_told}
use Rattle.radio.proofs.is_switch.Goals as goal

pub returns : goal.returns
returns c = switch_told c.args.b c.args.c c.ranges.b.fits
