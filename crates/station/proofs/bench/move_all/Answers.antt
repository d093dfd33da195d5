use Rattle.std.specs.Prelude.{Option}
use mathlib.Core.Path.{◌≡◌, sym, ap, subst, ◌∙◌}
use mathlib.Core.Bool.{Bool, true, false}
use mathlib.Core.List.{List, map}
use Prim.Native.Nat.{ℕ, ◌≤◌, ◌<◌}
use native.Mathlib.Omega.{arith}
use native.Mathlib.Numerals.{add-one}
use lib.ListN.{length, get_or, take, replicate}
use Rattle.message.specs.declared.Message.{Message}
use Rattle.station.specs.declared.Station.{Station}
use Rattle.station.specs.declared.Turn.{Turn}
use Rattle.station.specs.Stations.{is_done, sends_of}
use Rattle.station.proofs.TurnLaws.{Movable, turn_empty, by_done, by_going}
use Rattle.station.proofs.SlotLaws.{zeros, ready_at, three_numbers}
use Rattle.station.specs.Benches.{turn_all, line_of, stations_ok, draws_ok}
use Rattle.station.proofs.Loops.{Moving, as_it_was, moving_none, moving_more, moving_on, moving_same, all_moved, all_marked}
use Rattle.station.proofs.bench.move_all.Goals as goal
use Rattle.station.proofs.bench.move_all.Goals.{in-Some+in-None, in-Some+in-Some-moves, in_default}

-- the next station may be moved
ready : (n line i : ℕ) (slots after : List Station) (draws sent : List ℕ) (done : List Bool) → n ≤ length slots → n ≤ length draws
    → stations_ok (take n slots) ≡ true → draws_ok (take n draws) ≡ true
    → (line ≡ line_of (take n slots)) × (take n sent ≡ map sends_of (take n slots))
    → i < n → Moving n line slots draws after done i
    → Movable (get_or after i zeros) (get_or sent i 0) line (get_or draws i 0)
ready n line i slots after draws sent done few enough ok drawn heard h r =
    subst (λ (s : Station). Movable s (get_or sent i 0) line (get_or draws i 0))
    (sym (as_it_was few enough h zeros r))
    (ready_at n slots draws sent line few enough ok drawn heard.0 heard.1 i h zeros)

pub loop-i-init : goal.loop-i-init
loop-i-init c =
    let a = c.args in
    let sixteen : length a.slots ≡ 16 = omega arith in
    subst (λ (k : ℕ). Moving a.n a.line a.slots a.draws a.slots (replicate k false) 0) sixteen
    (moving_none c.requires.n_in_bounds c.requires.n_in_bounds_2)

pub moves-requires : goal.moves-requires
moves-requires c =
    let a = c.args in
    let p = c.requires in
    let r = ready _ _ _ _ _ _ a.sent _ p.n_in_bounds p.n_in_bounds_2 p.slots_value p.draws_value p.line_value c.loop-i-test.true c.loop-i.invariant in
    record { held_value = c.in-Some.is; s_value = (r.ok, r.drawn); s_value_2 = r.is; sent_le_heard = (r.kept, r.half) }

pub loop-i-preserved : goal.loop-i-preserved
loop-i-preserved c =
    let a = c.args in
    let p = c.requires in
    let l = c.loop-i in
    let few = p.n_in_bounds in
    let enough = p.n_in_bounds_2 in
    let h = c.loop-i-test.true in
    let r = ready _ _ _ _ _ _ a.sent _ few enough p.slots_value p.draws_value p.line_value h l.invariant in
    let next : Turn → Station = λ t. t.next in
    let says : Turn → Bool = λ t. is_done t.answer in
    rw (add-one l.i)
    (elim c.match-s.branch [
      | in-Some+in-None w ↦
          let turn = by_done _ w.moves.ensures w.in-None.is in
          rw (w.after-is, w.done-is)
          (moving_more few enough h zeros l.invariant w.empty.result true (ap next turn ∙ sym w.empty.ensures) (ap says turn))
      | in-Some+in-Some-moves w ↦
          let v = w.in-Some-moves.v in
          let turn = by_going _ w.moves.ensures v w.in-Some-moves.is in
          let numbers : Option Message → Station = λ h. record { held = h; wait = v.wait; count = v.count; place = v.place } in
          let kept = ap numbers (sym w.in-Some.is) in
          let stored = three_numbers l.after l.i zeros v.wait v.count v.place (omega (arith, l.invariant.long, few, h)) in
          rw (w.after-is ∙ stored, w.done-is)
          (moving_on few enough h zeros l.invariant (numbers (get_or l.after l.i zeros).held) (ap next turn ∙ kept) (ap says turn))
      | in_default w ↦
          let turn = turn_empty r w.in_default.is in
          rw (w.after-is, w.done-is) (moving_same few enough h zeros l.invariant (ap next turn) (ap says turn))
    ])

pub returns : goal.returns
unfolding turn_all
returns c =
    let a = c.args in
    let end : c.loop-i.i ≡ a.n = omega (arith, c.loop-i.invariant.within) in
    let r = subst (λ (k : ℕ). Moving a.n a.line a.slots a.draws c.loop-i.after c.loop-i.done k) end c.loop-i.invariant in
    rw (all_moved r, all_marked r, c.requires.line_value.0)
