-- `sends` meets its contract: an idle station sends 0. One that is not idle is in one of the states exactly where it holds a message
-- that its tests let through, with its count at its wait and its place within its burst.
use Rattle.std.specs.Prelude.{Result, Ok, Err}
use mathlib.Core.Path.{sym, ap, ◌∙◌}
use mathlib.Core.Bool.{◌&&◌, and-eq-true_iff}
use Prim.Native.Nat.{ℕ}
use borrow.Author.Tests.{ltb-true}
use lib.Dec.{eqb, ltb}
use Rattle.message.specs.Messages.{message_ok}
use Rattle.burst.specs.Frames.{burst_length}
use Rattle.station.specs.Stations.{draw_ok, send_of}
use Rattle.ground.proofs.Causes.{ladder}
use Rattle.ground.specs.declared.Refusal.{Refusal}
use Rattle.ground.specs.declared.Refusal.TheVariants as refusal
use Rattle.station.proofs.StateLaws.{idle_told, empty_busy, holds_busy, sends_half, last_two}
use Rattle.station.proofs.TurnLaws.{send_promise}
use Rattle.station.proofs.sends.Goals as goal

pub returns-then-idle : goal.returns-then-idle
unfolding send_of
returns-then-idle c =
    let s = c.args.s in
    let idle = idle_told s (sym c.idle.ensures ∙ c.if-idle.true) in
    let zero = ap {B = Result ℕ Refusal} Ok (sym idle.1) in
    let told = send_promise {o = Ok 0} s (search ladder) in
    record { answer = told.0; report = told.1 }

pub half_at-requires : goal.half_at-requires
half_at-requires c =
    let s = c.args.s in
    let m = c.in-Some.m in
    let tests = rw (c.draw_ok.ensures, c.valid.ensures, c.burst_length.ensures) at c.if-sane-s.true in
    let first = ((and-eq-true_iff (draw_ok s.wait && message_ok m) _).0 tests).0 in
    let last = (last_two (draw_ok s.wait && message_ok m) (eqb s.count s.wait) (ltb s.place (burst_length m)) tests).1 in
    (((and-eq-true_iff (draw_ok s.wait) (message_ok m)).0 first).1, ltb-true s.place (burst_length m) last)

pub returns-then-sane-s : goal.returns-then-sane-s
unfolding send_of
returns-then-sane-s c =
    let s = c.args.s in
    let m = c.in-Some.m in
    let held = c.in-Some.is in
    let busy = sym c.idle.ensures ∙ c.if-idle.false in
    let tests = rw (c.draw_ok.ensures, c.valid.ensures, c.burst_length.ensures) at c.if-sane-s.true in
    let level = (last_two (draw_ok s.wait && message_ok m) (eqb s.count s.wait) (ltb s.place (burst_length m)) tests).0 in
    let ok = holds_busy s busy m held ∙ tests in
    let half = ap {B = Result ℕ Refusal} Ok (c.half_at.ensures ∙ sym (sends_half s m held level)) in
    let told = send_promise {o = Ok c.half_at.result} s (search ladder) in
    record { answer = told.0; report = told.1 }

pub returns-in-None : goal.returns-in-None
unfolding send_of
returns-in-None c =
    let s = c.args.s in
    let bad = empty_busy s (sym c.idle.ensures ∙ c.if-idle.false) c.in-None.is in
    let told = send_promise {o = Err refusal.State} s (search ladder) in
    record { answer = told.0; report = told.1 }

pub returns-else-sane-s : goal.returns-else-sane-s
unfolding send_of
returns-else-sane-s c =
    let s = c.args.s in
    let busy = sym c.idle.ensures ∙ c.if-idle.false in
    let tests = rw (c.draw_ok.ensures, c.valid.ensures, c.burst_length.ensures) at c.if-sane-s.false in
    let bad = holds_busy s busy c.in-Some.m c.in-Some.is ∙ tests in
    let told = send_promise {o = Err refusal.State} s (search ladder) in
    record { answer = told.0; report = told.1 }
