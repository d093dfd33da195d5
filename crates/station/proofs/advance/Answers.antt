-- `advance` meets its contract: the tests are those of `turn_of`, in its order, and what is left is the judged station's move.
use Rattle.std.specs.Prelude.{Err}
use mathlib.Core.Path.{sym, ◌∙◌}
use Rattle.station.specs.Stations.{turn_of}
use Rattle.ground.proofs.Causes.{ladder}
use Rattle.ground.specs.declared.Refusal.TheVariants as refusal
use Rattle.station.proofs.SendLaws.{fault_told}
use Rattle.station.proofs.TurnLaws.{sends_told, refuses_told, turn_promise}
use Rattle.station.proofs.advance.Goals as goal

pub returns-then-heard-gt1 : goal.returns-then-heard-gt1
unfolding turn_of
returns-then-heard-gt1 c =
    let a = c.args in
    let both = turn_promise {o = record { answer = Err refusal.Half; next = a.s }} a.s a.heard a.draw (search ladder) in
    record { answer = both.0; report = both.1 }

pub returns-then-not-draw_ok : goal.returns-then-not-draw_ok
unfolding turn_of
returns-then-not-draw_ok c =
    let a = c.args in
    let told = sends_told _ _ (sym c.sends.ensures.answer ∙ c.in-Ok.is) in
    let both = turn_promise {o = record { answer = Err refusal.Draw; next = a.s }} a.s a.heard a.draw (search ladder depth 8) in
    record { answer = both.0; report = both.1 }

pub returns-then-heard-sent : goal.returns-then-heard-sent
unfolding turn_of
returns-then-heard-sent c =
    let a = c.args in
    let told = sends_told _ _ (sym c.sends.ensures.answer ∙ c.in-Ok.is) in
    let wrong = fault_told a.s a.heard told.1 c.if-heard-sent.true in
    let both = turn_promise {o = record { answer = Err refusal.Fault; next = a.s }} a.s a.heard a.draw (search ladder depth 8) in
    record { answer = both.0; report = both.1 }

pub moved-requires : goal.moved-requires
moved-requires c =
    let told = sends_told _ _ (sym c.sends.ensures.answer ∙ c.in-Ok.is) in
    record {
      s_value = (told.0, sym c.draw_ok.ensures ∙ c.if-not-draw_ok.false);
      s_value_2 = told.1;
      sent_le_heard = (c.if-heard-sent.false, c.if-heard-gt1.false);
    }

pub returns-in-Err : goal.returns-in-Err
unfolding turn_of
returns-in-Err c =
    let a = c.args in
    let bad = refuses_told _ _ (sym c.sends.ensures.answer ∙ c.in-Err.is) in
    let both = turn_promise {o = record { answer = Err refusal.State; next = a.s }} a.s a.heard a.draw (search ladder depth 8) in
    record { answer = both.0; report = both.1 }

pub returns-else-heard-sent : goal.returns-else-heard-sent
returns-else-heard-sent c =
    let a = c.args in
    let both = turn_promise {o = c.moved.result} a.s a.heard a.draw c.moved.ensures in
    record { answer = both.0; report = both.1 }
