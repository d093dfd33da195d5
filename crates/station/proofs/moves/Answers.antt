-- `moves` meets its contract: a judged station that hears another half-cycle than it sent starts again. Else it counts while its count is
-- below its wait, and then goes on in its burst, whose last place is one below the burst's length.
use mathlib.Core.Path.{◌≡◌}
use mathlib.Core.Bool.{true}
use Prim.Native.Nat.{ℕ, ◌≤◌}
use native.Mathlib.Omega.{arith}
use Rattle.burst.proofs.Writing.{frame_of-bits}
use Rattle.station.specs.Stations.{station_ok, draw_ok, sends_of}
use Rattle.station.specs.declared.Station.{Station}
use Rattle.station.proofs.TurnLaws.{Movable, turn_aborts, turn_counts, turn_goes, turn_ends}
use Rattle.station.proofs.moves.Goals as goal

-- what the contract asks, as one
ready : (s : Station) (sent heard draw : ℕ) → (station_ok s ≡ true) × (draw_ok draw ≡ true) → sends_of s ≡ sent → (sent ≤ heard) × (heard ≤ 1)
    → Movable s sent heard draw
ready s sent heard draw fine is line = record { half = line.1; ok = fine.0; drawn = fine.1; is = is; kept = line.0 }

pub returns-then-sent-heard : goal.returns-then-sent-heard
returns-then-sent-heard c =
    let r = ready c.args.s _ c.args.heard c.args.draw c.requires.s_value c.requires.s_value_2 c.requires.sent_le_heard in
    turn_aborts r c.requires.held_value c.if-sent-heard.true

pub returns-then-s : goal.returns-then-s
returns-then-s c =
    let r = ready c.args.s _ c.args.heard c.args.draw c.requires.s_value c.requires.s_value_2 c.requires.sent_le_heard in
    turn_counts r c.requires.held_value c.if-sent-heard.false c.if-s.true

pub returns-then-s-burst_length : goal.returns-then-s-burst_length
returns-then-s-burst_length c =
    let r = ready c.args.s _ c.args.heard c.args.draw c.requires.s_value c.requires.s_value_2 c.requires.sent_le_heard in
    turn_goes r c.requires.held_value c.if-sent-heard.false
    c.if-s.false
    (omega (arith, c.burst_length.ensures, c.if-s-burst_length.true))

pub returns : goal.returns
returns c =
    let r = ready c.args.s _ c.args.heard c.args.draw c.requires.s_value c.requires.s_value_2 c.requires.sent_le_heard in
    turn_ends r c.requires.held_value c.if-sent-heard.false c.if-s.false
    (omega (arith, c.burst_length.ensures, c.if-s-burst_length.false))

pub overflow_sub-burst_length : goal.overflow_sub-burst_length
overflow_sub-burst_length c = omega (arith, c.burst_length.ensures, frame_of-bits c.args.m)
