-- Which waitings are refused (02, A2): "6 also for a receiver whose waiting no break, with calls after it, leads to." The theorem: proofs/Waitings.antt.
use Rattle.std.specs.Prelude.{ℕ, ◌≤◌, ◌<◌, ◌↔◌, ◌≡◌, true, List}
use Rattle.ground.specs.declared.Refusal.TheVariants as refusal
use Rattle.receiver.specs.Receivers.{fresh_receiver, given_ok, waiting_ok, step_of}
use Rattle.receiver.specs.Hearing.{receiver_after}
use Rattle.receiver.specs.declared.Receiver.{Receiver}
use Rattle.receiver.specs.declared.Event.TheVariants.{BrokenPair, BrokenUnsupported, Refused}

-- "break": the half-cycle gives BROKEN 10; "with calls after it": they lead to a receiver that waits as `at` says
pub record LeadsTo (from : Receiver) (at : ℕ) : Type 0 where
  pub half : ℕ
  pub breaks : (step_of from half).event ≡ BrokenPair
  pub calls : List ℕ
  pub waits : (receiver_after (step_of from half).next calls).at ≡ at

-- a receiver waits where `at` is above 62, the last place of a frame
pub record WaitingsRight : Type 0 where
  -- a break leads only to what the test lets pass, whatever receiver it comes from
  pub all : (from : Receiver) (at : ℕ) → 62 < at → LeadsTo from at → waiting_ok at ≡ true
  -- and to each of these a receiver that was fresh comes by one
  pub led : (at : ℕ) → waiting_ok at ≡ true → (hs : List ℕ) × LeadsTo (receiver_after fresh_receiver hs) at
  -- BROKEN 11 is no such break: after it the receiver waits for none
  pub unsupported : (r : Receiver) (h : ℕ) → (step_of r h).event ≡ BrokenUnsupported → (step_of r h).next.at ≡ 0
  -- so a call that nothing else refuses is given 6 exactly where no break leads to the waiting
  pub refused : (r : Receiver) (h : ℕ) → 62 < r.at → r.past ≤ 63 → given_ok r.given ≡ true → h ≤ 1
      → ((step_of r h).event ≡ Refused refusal.State) ↔ ((from : Receiver) → LeadsTo from r.at → ⊥)
