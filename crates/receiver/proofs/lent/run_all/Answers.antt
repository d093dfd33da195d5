use mathlib.Core.Path.{◌≡◌, sym, ap, ◌∙◌}
use mathlib.Core.List.{List, flat_map}
use Prim.Native.Nat.{ℕ, ◌*◌}
use native.Mathlib.Omega.{arith}
use lib.ListN.{drop, length-drop, drop_of_length-le}
use lib.Seq.{sets}
use Rattle.receiver.specs.Receivers.{receiver_ok}
use Rattle.receiver.specs.Hearing.{events_of, receiver_after, to_given}
use Rattle.receiver.specs.Bytes.{event_bytes}
use Rattle.receiver.proofs.ReadBack.{run_valid}
use Rattle.receiver.proofs.Stretches.{to_most, to_some, rest_on}
use Rattle.receiver.proofs.lent.run_all.Goals as goal

pub loop-i-smaller : goal.loop-i-smaller
loop-i-smaller c =
    let halves = c.args.halves.now in
    let now = c.loop-i in
    let rest : List ℕ = drop now.i halves in
    let long = length-drop now.i halves in
    omega (arith, c.to_message-ran.ensures.at_value.0, long, to_most now.current rest, to_some now.current rest (omega (arith, long)))

pub loop-i-preserved : goal.loop-i-preserved
loop-i-preserved c =
    let halves = c.args.halves.now in
    let now = c.loop-i in
    let ran = c.to_message-ran in
    let rest : List ℕ = drop now.i halves in
    let t = rest_on halves now.current now.i now.events ran.result.at ran.result.next ran.result.given _
    (record { place = ran.ensures.at_value.0; receiver = ran.ensures.at_value.1; message = ran.ensures.at_value.2; events = ran.ensures.events_after }) in (
      ap receiver_ok ran.ensures.at_value.1 ∙ run_valid now.current (to_given now.current rest) now.invariant.0,
      omega (arith, ran.ensures.at_value.0, to_most now.current rest, length-drop now.i halves),
      t.0 ∙ now.invariant.2,
      t.1 ∙ now.invariant.3,
      t.2 ∙ now.invariant.4,
    )

pub returns : goal.returns
unfolding flat_map events_of receiver_after
returns c =
    let now = c.loop-i in
    let halves = c.args.halves.now in
    let none : drop now.i halves ≡ _ = drop_of_length-le halves c.loop-i-test.false in
    record {
      value = ap (receiver_after now.current) (sym none) ∙ now.invariant.3;
      events_after = ap (λ (l : List ℕ). sets now.events (6 * now.i) (flat_map event_bytes (events_of now.current l))) (sym none) ∙ now.invariant.4;
    }
