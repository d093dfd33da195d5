use Rattle.std.specs.Prelude.{Option}
use mathlib.Core.Path.{◌≡◌, sym, ap, ◌∙◌}
use mathlib.Core.List.{List, flat_map}
use Prim.Native.Nat.{ℕ, ◌+◌, ◌*◌}
use native.Mathlib.Omega.{arith}
use lib.ListN.{length, drop}
use lib.Seq.{sets, length-sets}
use Rattle.message.specs.declared.Message.{Message}
use Rattle.receiver.specs.Receivers.{receiver_ok}
use Rattle.receiver.specs.Hearing.{events_of, receiver_after, first_given, to_given}
use Rattle.receiver.specs.Bytes.{event_bytes}
use Rattle.receiver.specs.declared.Heard.{Heard}
use Rattle.receiver.specs.declared.Receiver.{Receiver}
use Rattle.receiver.proofs.ReceiverLaws.{stays_valid}
use Rattle.receiver.proofs.Stretches.{Toward, stretch_end, turn_given, turn_on}
use Rattle.receiver.proofs.lent.to_message.Goals as goal

-- as the contract has it
owed : {hs : List ℕ} {r : Receiver} {i : ℕ} {evs : List ℕ} {at : ℕ} {next : Receiver} {given : Option Message} {after : List ℕ} → Toward hs r i evs at next given after
    → ((at ≡ i + length (to_given r (drop i hs))) × (next ≡ receiver_after r (to_given r (drop i hs))) × (given ≡ first_given r (drop i hs)))
    × (after ≡ sets evs (6 * i) (flat_map event_bytes (events_of r (to_given r (drop i hs)))))
owed t = ((t.place, t.receiver, t.message), t.events)

pub loop-i-preserved : goal.loop-i-preserved
loop-i-preserved c =
    let halves = c.args.halves.now in
    let now = c.loop-i in
    let more = c.loop-i-test.true in
    let stepped = c.step_valid-heard in
    let put = c.put_event.ensures in
    let none = sym c.given_by.ensures ∙ c.in_default.is in (
      ap (λ (x : Heard). receiver_ok x.next) stepped.ensures ∙ stays_valid now.current _ now.invariant.0,
      ap length put ∙ length-sets now.events (6 * now.i) (event_bytes stepped.result.event) ∙ now.invariant.1,
      omega arith,
      λ at next given after t. now.invariant.3 at next given after
          (turn_on halves now.current now.i now.events more stepped.result _ stepped.ensures put none at next given after t),
    )

pub returns-in-Some : goal.returns-in-Some
returns-in-Some c =
    let halves = c.args.halves.now in
    let now = c.loop-i in
    let more = c.loop-i-test.true in
    let stepped = c.step_valid-heard in
    let gave = sym c.given_by.ensures ∙ c.in-Some.is in
    let owed = owed (now.invariant.3 _ _ _ _
    (turn_given halves now.current now.i now.events more stepped.result _ stepped.ensures
    c.put_event.ensures _ gave)) in
    record { at_value = owed.0; events_after = owed.1 }

pub returns-clause-at_value : goal.returns-clause-at_value
returns-clause-at_value c =
    let now = c.loop-i in
    let t = owed (now.invariant.3 _ _ _ _ (stretch_end c.args.halves.now now.current now.i now.events c.loop-i-test.false)) in
    let last : c.max.result ≡ now.i = omega arith in
    (last ∙ t.0.0, t.0.1, t.0.2)

pub returns-clause-events_after : goal.returns-clause-events_after
returns-clause-events_after c =
    let now = c.loop-i in
    (owed (now.invariant.3 _ _ _ _ (stretch_end c.args.halves.now now.current now.i now.events c.loop-i-test.false))).1
