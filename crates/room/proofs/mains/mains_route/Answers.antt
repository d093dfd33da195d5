-- `mains_route` meets its contract: the verdict on the room and then its tests are its causes, in their order. The tests of space divide, so that
-- they cannot wrap.
use Rattle.std.specs.Prelude.{Result, Ok, Err}
use mathlib.Core.Path.{◌≡◌, sym, ap, ◌∙◌}
use mathlib.Core.Bool.{true, false}
use Prim.Native.Nat.{◌*◌, ◌≤◌}
use native.Mathlib.Omega.{arith}
use borrow.Author.Tests.{le-leb, lt-leb}
use lib.ListN.{length}
use Rattle.ground.specs.declared.Refusal.TheVariants as refusal
use Rattle.ground.specs.declared.Refusal.{Refusal}
use Rattle.ground.proofs.Causes.{ladder}
use Rattle.ground.proofs.Passed.{passed_on}
use Rattle.receiver.specs.Bytes.{is_receiver, holds_receiver}
use Rattle.room.specs.Rooms.{room_of, room_report, changes}
use Rattle.room.specs.declared.Changes.{Changes}
use Rattle.room.specs.Mains.{lent_to}
use Rattle.room.proofs.ApplyLaws.{fine_valid}
use Rattle.room.proofs.MainsLaws.{put_held, remains_ok, route_done, route_owed, route_faulty, route_stopped}
use Rattle.receiver.proofs.ReadBack.{held_valid, held_refused}
use Rattle.room.proofs.mains.mains_route.Goals as goal

pub returns-in_err-judge : goal.returns-in_err-judge
returns-in_err-judge c =
    let a = c.args in
    let owed = route_faulty (lent_to a.state.now a.halves.now a.events.now a.answers.now) (room_of a.table.now a.shutters.now)
    c.judge.ensures _ c.in_err-judge.was in
    let passed = passed_on _ c.from_residual.ensures.1 in
    record { answer = passed ∙ owed.0; report = ap room_report passed ∙ owed.1.0; room = owed.1.1.0; lent = owed.1.1.1 }

pub returns-in_err-r : goal.returns-in_err-r
returns-in_err-r c =
    let a = c.args in
    let none : holds_receiver a.state.now ≡ false = ap is_receiver (sym c.receiver_in.ensures.answer ∙ c.in_err-r.was) in
    let owed = route_stopped (lent_to a.state.now a.halves.now a.events.now a.answers.now) (room_of a.table.now a.shutters.now)
    c.judge.ensures refusal.State c.in_ok-judge.was (search ladder) in
    let passed = passed_on _ c.from_residual-in_err-r.ensures.1 ∙ ap {B = Result Changes Refusal} Err (held_refused a.state.now (sym c.receiver_in.ensures.answer ∙ c.in_err-r.was)) in
    record { answer = passed ∙ owed.0; report = ap room_report passed ∙ owed.1.0; room = owed.1.1.0; lent = owed.1.1.1 }

pub returns-then-answers-halves : goal.returns-then-answers-halves
returns-then-answers-halves c =
    let a = c.args in
    let lent = lent_to a.state.now a.halves.now a.events.now a.answers.now in
    let room = room_of a.table.now a.shutters.now in
    let is = sym c.receiver_in.ensures.answer ∙ c.in_ok-r.was in
    let judged-fine = c.in_ok-judge.was in
    let holds : holds_receiver a.state.now ≡ true = ap is_receiver is in
    let short = lt-leb (8 * length a.halves.now) (length a.answers.now) (omega (arith, c.if-answers-halves.true)) in
    let owed = route_stopped lent room c.judge.ensures refusal.Short judged-fine (search ladder) in
    record { answer = owed.0; report = owed.1.0; room = owed.1.1.0; lent = owed.1.1.1 }

pub returns-then-events-halves : goal.returns-then-events-halves
returns-then-events-halves c =
    let a = c.args in
    let lent = lent_to a.state.now a.halves.now a.events.now a.answers.now in
    let room = room_of a.table.now a.shutters.now in
    let is = sym c.receiver_in.ensures.answer ∙ c.in_ok-r.was in
    let judged-fine = c.in_ok-judge.was in
    let holds : holds_receiver a.state.now ≡ true = ap is_receiver is in
    let wide = le-leb (8 * length a.halves.now) (length a.answers.now) (omega (arith, c.if-answers-halves.false)) in
    let short = lt-leb (6 * length a.halves.now) (length a.events.now) (omega (arith, c.if-events-halves.true)) in
    let owed = route_stopped lent room c.judge.ensures refusal.Short judged-fine (search ladder) in
    record { answer = owed.0; report = owed.1.0; room = owed.1.1.0; lent = owed.1.1.1 }

pub heed_all-heeded-requires : goal.heed_all-heeded-requires
heed_all-heeded-requires c =
    let a = c.args in
    let lent = lent_to a.state.now a.halves.now a.events.now a.answers.now in
    let room = room_of a.table.now a.shutters.now in
    let is = sym c.receiver_in.ensures.answer ∙ c.in_ok-r.was in
    let judged-fine = c.in_ok-judge.was in
    record {
      receiver = held_valid a.state.now _ is;
      place = omega arith;
      rules = fine_valid room c.judge.ensures judged-fine;
      events_space = omega (arith, c.if-events-halves.false);
      answers_space = omega (arith, c.if-answers-halves.false);
    }

pub returns : goal.returns
returns c =
    let a = c.args in
    let lent = lent_to a.state.now a.halves.now a.events.now a.answers.now in
    let room = room_of a.table.now a.shutters.now in
    let is = sym c.receiver_in.ensures.answer ∙ c.in_ok-r.was in
    let judged-fine = c.in_ok-judge.was in
    let fits : 6 * length a.halves.now ≤ length a.events.now = omega (arith, c.if-events-halves.false) in
    let wide : 8 * length a.halves.now ≤ length a.answers.now = omega (arith, c.if-answers-halves.false) in
    let next = c.heed_all-heeded.result.next in
    let left = c.heed_all-heeded.ensures.left in
    let ok = remains_ok a.halves.now _ 0 room a.events.now a.answers.now left (held_valid a.state.now _ is) in
    let put = c.put_receiver.ensures.state ∙ put_held a.state.now _ next is ok in
    let done = route_done a.state.now a.halves.now a.events.now a.answers.now room _ is fits wide next _ _ _ _ left put in
    let owed = route_owed lent room _ _ _ (fine_valid room c.judge.ensures judged-fine) (ap is_receiver is) wide fits
    (ap {B = Result Changes Refusal} Ok (c.heed_all-heeded.ensures.counts ∙ ap (changes room) done.0)) done.0 done.1 in
    record { answer = owed.0; report = owed.1.0; room = owed.1.1.0; lent = owed.1.1.1 }
