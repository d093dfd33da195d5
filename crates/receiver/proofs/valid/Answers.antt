-- `valid` meets its contract: the causes of STATE one after the other, each by its test.
use mathlib.Core.Path.{sym, ◌∙◌}
use mathlib.Core.Bool.{and-false, and-true}
use native.Mathlib.Omega.{arith}
use borrow.Author.Tests.{le-leb, lt-leb}
use Rattle.receiver.specs.Receivers.{receiver_ok}
use Rattle.receiver.proofs.valid.Goals as goal

pub returns-then-r-gt63 : goal.returns-then-r-gt63
unfolding receiver_ok
returns-then-r-gt63 c = simp (lt-leb c.args.r.past 63 (omega arith))

pub returns-then-not-given_valid : goal.returns-then-not-given_valid
unfolding receiver_ok
returns-then-not-given_valid c = simp (sym c.given_valid.ensures ∙ c.if-not-given_valid.true, and-false)

pub returns : goal.returns
unfolding receiver_ok
returns c =
    let given = sym c.given_valid.ensures ∙ c.if-not-given_valid.false in
    simp (le-leb c.args.r.past 63 (omega arith), given, c.place_fits.ensures, and-true)
