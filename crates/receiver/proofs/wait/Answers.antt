-- `wait` meets its contract: the tests of the two starts, and where the waiting stands, pick the case of `hunt_of`.
use Rattle.receiver.proofs.ReceiverLaws.{hunt_found, wait_on, wait_found, wait_near, wait_far}
use Rattle.receiver.proofs.wait.Goals as goal

pub returns-then-hunted : goal.returns-then-hunted
returns-then-hunted c =
    let a = c.args in
    let case = hunt_found a.past a.at a.half c.if-hunted.true in
    simp (c.saying.ensures, c.starts.ensures, c.shift-now.ensures, case)

pub returns-then-at : goal.returns-then-at
returns-then-at c =
    let a = c.args in
    let case = wait_on a.past a.at a.half c.requires.1 c.if-hunted.false c.if-at.true in
    simp (c.saying-then-at.ensures, c.waits.ensures, c.shift-now.ensures, case)

pub returns-then-past-half : goal.returns-then-past-half
returns-then-past-half c =
    let a = c.args in
    let case = wait_found a.past a.at a.half c.if-at.false c.if-past-half.true in
    simp (c.saying-then-past-half.ensures, c.starts-then-past-half.ensures, c.shift-now.ensures, case)

pub returns-then-at-eq89 : goal.returns-then-at-eq89
returns-then-at-eq89 c =
    let a = c.args in
    let case = wait_near a.past a.at a.half c.if-hunted.false c.if-past-half.false c.if-at-eq89.true in
    simp (c.saying-then-at-eq89.ensures, c.waits-then-at-eq89.ensures, c.shift-now.ensures, case)

pub returns : goal.returns
returns c =
    let a = c.args in
    let case = wait_far a.past a.at a.half c.if-hunted.false c.if-at.false c.if-past-half.false c.if-at-eq89.false in
    simp (c.saying-2.ensures, c.hunts.ensures, c.shift-now.ensures, case)
