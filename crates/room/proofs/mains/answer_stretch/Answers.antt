-- `answer_stretch` meets its contract: the bytes of 0, and behind them those of the last answer.
use Rattle.room.specs.Rooms.{room_of}
use Rattle.room.proofs.MainsLaws.{stretch_put}
use Rattle.room.proofs.mains.answer_stretch.Goals as goal

pub returns-clause-written : goal.returns-clause-written
returns-clause-written c =
    let a = c.args in
    stretch_put a.answers.now _ _ a.from a.to _ a.given (room_of a.table.now a.shutters.now) c.requires.1
    c.no_answers.ensures c.answer_to-answer.ensures.answer c.put_answer.ensures
