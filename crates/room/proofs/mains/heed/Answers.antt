use mathlib.Core.Path.{◌∙◌}
use native.Mathlib.Omega.{arith}
use Rattle.room.specs.Rooms.{room_of}
use Rattle.room.proofs.MainsLaws.{remains_end, turn}
use Rattle.room.proofs.mains.heed.Goals as goal

pub answer_stretch-requires : goal.answer_stretch-requires
answer_stretch-requires c =
    let now = c.loop-i in
    let room = room_of now.table now.shutters in
    let halves = c.args.halves.now in
    let more = c.loop-i-test.true in
    let taken = turn halves now.current now.i room now.events now.answers now.invariant.0 c.run_to_message-stretch.result _
    c.unwrap_or-to.result c.run_to_message-stretch.ensures.answer c.run_to_message-stretch.ensures.events c.unwrap_or-to.ensures in
    (now.invariant.0.rules, taken.later more, omega (arith, taken.within, now.invariant.0.answers_space))

pub loop-i-smaller : goal.loop-i-smaller
loop-i-smaller c =
    let now = c.loop-i in
    let room = room_of now.table now.shutters in
    let halves = c.args.halves.now in
    let more = c.loop-i-test.true in
    let taken = turn halves now.current now.i room now.events now.answers now.invariant.0 c.run_to_message-stretch.result _
    c.unwrap_or-to.result c.run_to_message-stretch.ensures.answer c.run_to_message-stretch.ensures.events c.unwrap_or-to.ensures in
    omega (arith, taken.within, taken.later more)

pub loop-i-preserved : goal.loop-i-preserved
loop-i-preserved c =
    let now = c.loop-i in
    let room = room_of now.table now.shutters in
    let halves = c.args.halves.now in
    let more = c.loop-i-test.true in
    let taken = turn halves now.current now.i room now.events now.answers now.invariant.0 c.run_to_message-stretch.result _
    c.unwrap_or-to.result c.run_to_message-stretch.ensures.answer c.run_to_message-stretch.ensures.events c.unwrap_or-to.ensures in
    let turned = taken.after more _ _ c.answer_stretch.ensures.room c.answer_stretch.ensures.written in
    (turned.ready, turned.events_long ∙ now.invariant.1, turned.answers_long ∙ now.invariant.2, turned.same ∙ now.invariant.3)

pub returns : goal.returns
returns c =
    let now = c.loop-i in
    remains_end c.args.halves.now now.current now.i
    (room_of now.table now.shutters) now.events now.answers c.loop-i-test.false
    ∙ now.invariant.3
