-- `obey` meets its contract: the room stays valid from one message to the next, and the first of two is an address, which changes no level and no opening.
use mathlib.Core.Path.{◌≡◌, refl, sym, ap, ◌∙◌}
use Rattle.radio.specs.Answers.{messages_meant, in_order}
use Rattle.room.specs.Rooms.{room_of, room_ok}
use Rattle.room.proofs.ApplyLaws.{valid_stays}
use Rattle.room.proofs.RadioLaws.{meant, one_obeyed, two_obeyed}
use Rattle.room.proofs.routes.obey.Goals as goal

pub apply_valid-requires-in-Two : goal.apply_valid-requires-in-Two
apply_valid-requires-in-Two c =
    let m = c.in-Two.first in
    ap room_ok c.apply_valid.ensures.room
    ∙ valid_stays m (room_of c.args.table.now c.args.shutters.now) c.requires.0

pub returns-in-Two : goal.returns-in-Two
returns-in-Two c =
    let told : c.unwrap.result ≡ messages_meant c.args.k = let e = sym c.unwrap.ensures ∙ meant c.args.k c.requires.1 c.messages.ensures.answer in cc in
    let mean = ap in_order (sym c.in-Two.is ∙ told) in
    let first = c.apply_valid in
    let second = c.apply_valid-in-Two in
    let did = two_obeyed c.args.k (room_of c.args.table.now c.args.shutters.now) c.in-Two.first c.in-Two.second _ _ second.result
    (sym mean) first.ensures.room second.ensures.answer second.ensures.room in
    record { counts = c.changes_of.ensures ∙ did.0; room = did.1 }

pub returns-in-One : goal.returns-in-One
returns-in-One c =
    let told : c.unwrap.result ≡ messages_meant c.args.k = let e = sym c.unwrap.ensures ∙ meant c.args.k c.requires.1 c.messages.ensures.answer in cc in
    let mean = ap in_order (sym c.in-One.is ∙ told) in
    let only = c.apply_valid-in-One in
    let did = one_obeyed c.args.k (room_of c.args.table.now c.args.shutters.now) c.in-One.only _ only.result (sym mean)
    only.ensures.answer only.ensures.room in
    record { counts = c.changes_of-in-One.ensures ∙ did.0; room = did.1 }

pub unwrap-requires : goal.unwrap-requires
unwrap-requires c = rw (meant c.args.k c.requires.1 c.messages.ensures.answer) refl
