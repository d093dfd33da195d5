-- `heed_all` meets its contract: without a message the room stays, and else the first stretch is a turn, and `heed` takes the others. The levels
-- and openings kept before the messages are compared with those after them.
use mathlib.Core.Path.{sym, ap, ap₂, ◌∙◌}
use mathlib.Core.Bool.{not}
use Prim.Native.Nat.{ℕ}
use native.Mathlib.Omega.{arith}
use Rattle.room.specs.Rooms.{room_of}
use Rattle.room.specs.declared.Changes.{Changes}
use Rattle.room.proofs.ApplyLaws.{modules_size, shutters_size, unchanged}
use Rattle.room.proofs.SecondBytes.{levels_are, openings_are}
use Rattle.room.proofs.MainsLaws.{turn, given_some, remains_quiet, remains_valid}
use Rattle.room.proofs.mains.heed_all.Goals as goal

pub no_answers-requires : goal.no_answers-requires
no_answers-requires c =
    let to = c.unwrap_or-to in
    let a = c.args in
    let room = room_of a.table.now a.shutters.now in
    let taken = turn a.halves.now a.r 0 room a.events.now a.answers.now c.requires c.run_to_message-stretch.result _ to.result
    c.run_to_message-stretch.ensures.answer c.run_to_message-stretch.ensures.events to.ensures in
    (omega arith, omega (arith, taken.within, c.requires.answers_space))

pub returns-then-is_none : goal.returns-then-is_none
returns-then-is_none c =
    let to = c.unwrap_or-to in
    let a = c.args in
    let room = room_of a.table.now a.shutters.now in
    let taken = turn a.halves.now a.r 0 room a.events.now a.answers.now c.requires c.run_to_message-stretch.result _ to.result
    c.run_to_message-stretch.ensures.answer c.run_to_message-stretch.ensures.events to.ensures in
    let none = c.is_none.ensures ∙ ap not c.if-is_none.true in
    record {
      left = remains_quiet a.halves.now a.r room a.events.now a.answers.now to.result c.run_to_message-stretch.result.next
          c.run_to_message-stretch.result.given _ _ taken.toward none c.no_answers.ensures;
      counts = sym (unchanged room);
    }

pub second_bytes-levels-requires : goal.second_bytes-levels-requires
second_bytes-levels-requires c = (omega (arith, modules_size _ c.requires.rules), omega arith, omega arith)

pub second_bytes-openings-requires : goal.second_bytes-openings-requires
second_bytes-openings-requires c = (omega (arith, shutters_size _ c.requires.rules), omega arith, omega arith)

pub answer_stretch-requires : goal.answer_stretch-requires
answer_stretch-requires c =
    let to = c.unwrap_or-to in
    let a = c.args in
    let room = room_of a.table.now a.shutters.now in
    let taken = turn a.halves.now a.r 0 room a.events.now a.answers.now c.requires c.run_to_message-stretch.result _ to.result
    c.run_to_message-stretch.ensures.answer c.run_to_message-stretch.ensures.events to.ensures in
    let more = given_some a.halves.now taken.toward (c.is_none.ensures ∙ ap not c.if-is_none.false) in
    (c.requires.rules, taken.later more, omega (arith, taken.within, c.requires.answers_space))

pub heed-last-requires : goal.heed-last-requires
heed-last-requires c =
    let to = c.unwrap_or-to in
    let a = c.args in
    let room = room_of a.table.now a.shutters.now in
    let taken = turn a.halves.now a.r 0 room a.events.now a.answers.now c.requires c.run_to_message-stretch.result _ to.result
    c.run_to_message-stretch.ensures.answer c.run_to_message-stretch.ensures.events to.ensures in
    let more = given_some a.halves.now taken.toward (c.is_none.ensures ∙ ap not c.if-is_none.false) in
    (taken.after more _ _ c.answer_stretch.ensures.room c.answer_stretch.ensures.written).ready

pub changed_from-requires : goal.changed_from-requires
changed_from-requires c =
    let to = c.unwrap_or-to in
    let a = c.args in
    let room = room_of a.table.now a.shutters.now in
    let taken = turn a.halves.now a.r 0 room a.events.now a.answers.now c.requires c.run_to_message-stretch.result _ to.result
    c.run_to_message-stretch.ensures.answer c.run_to_message-stretch.ensures.events to.ensures in
    let more = given_some a.halves.now taken.toward (c.is_none.ensures ∙ ap not c.if-is_none.false) in
    let turned = taken.after more _ _ c.answer_stretch.ensures.room c.answer_stretch.ensures.written in
    let left = c.heed-last.ensures ∙ turned.same in
    let valid = remains_valid a.halves.now a.r 0 room a.events.now a.answers.now left c.requires.rules in
    (omega (arith, modules_size (room_of _ _) valid), omega arith, omega arith)

pub changed_from-requires-2 : goal.changed_from-requires-2
changed_from-requires-2 c =
    let to = c.unwrap_or-to in
    let a = c.args in
    let room = room_of a.table.now a.shutters.now in
    let taken = turn a.halves.now a.r 0 room a.events.now a.answers.now c.requires c.run_to_message-stretch.result _ to.result
    c.run_to_message-stretch.ensures.answer c.run_to_message-stretch.ensures.events to.ensures in
    let more = given_some a.halves.now taken.toward (c.is_none.ensures ∙ ap not c.if-is_none.false) in
    let turned = taken.after more _ _ c.answer_stretch.ensures.room c.answer_stretch.ensures.written in
    let left = c.heed-last.ensures ∙ turned.same in
    let valid = remains_valid a.halves.now a.r 0 room a.events.now a.answers.now left c.requires.rules in
    (omega (arith, shutters_size (room_of _ _) valid), omega arith, omega arith)

pub returns : goal.returns
returns c =
    let to = c.unwrap_or-to in
    let a = c.args in
    let room = room_of a.table.now a.shutters.now in
    let taken = turn a.halves.now a.r 0 room a.events.now a.answers.now c.requires c.run_to_message-stretch.result _ to.result
    c.run_to_message-stretch.ensures.answer c.run_to_message-stretch.ensures.events to.ensures in
    let more = given_some a.halves.now taken.toward (c.is_none.ensures ∙ ap not c.if-is_none.false) in
    let turned = taken.after more _ _ c.answer_stretch.ensures.room c.answer_stretch.ensures.written in
    let levels = c.changed_from.ensures a.table.now c.second_bytes-levels.ensures in
    let openings = c.changed_from-2.ensures a.shutters.now c.second_bytes-openings.ensures in
    record {
      left = c.heed-last.ensures ∙ turned.same;
      counts = ap₂ {C = Changes} (λ (x y : ℕ). record { levels = x; openings = y }) (levels ∙ levels_are _ _) (openings ∙ openings_are _ _);
    }
