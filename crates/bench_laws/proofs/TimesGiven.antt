-- How often MESSAGE and REPEAT are given: within a burst MESSAGE at its first frame's end, REPEAT at its own.
--
--     frame_some           a frame has at least 22 half-cycles
--     Given                the two counts once so many half-cycles of a burst are out
--     counts_still         an answer in which the receiver says nothing counts for neither
--     given_first, given_next, given_over     before a burst, after one half-cycle more of it, and at its end
use mathlib.Core.Path.{◌≡◌, ap, ◌∙◌}
use mathlib.Core.List.{List, ◌∷◌}
use Prim.Native.Nat.{ℕ, suc, ◌+◌, ◌≤◌, ◌<◌}
use native.Mathlib.Decide.{ℕ_discrete}
use native.Mathlib.Omega.{arith}
use borrow.Author.Tests.{eq-eqb, ne_eqb}
use Rattle.message.specs.declared.Message.{Message}
use Rattle.burst.specs.Frames.{frame_length, burst_length}
use Rattle.receiver.specs.declared.Event.{Event}
use Rattle.receiver.specs.declared.Event.TheVariants.{Nothing, Message as Gives, Repeat}
use Rattle.receiver_laws.proofs.Standing.{event_at}
use Rattle.bench_run.specs.Calls.{Answered}
use Rattle.bench_laws.specs.Demand3.{gives_message, gives_repeat, times_given, times_repeated}
use Rattle.bench_laws.proofs.BurstLaws.{burst_some}
use Rattle.bench_laws.proofs.StationStates.{mark}
use Rattle.bench_laws.proofs.PartHeard.{end_repeats}

pub frame_some : (m : Message) → 22 ≤ frame_length m
frame_some m = omega (arith, burst_some m)

-- k half-cycles of the burst of m are out
pub record Given (m : Message) (k : ℕ) (past : List Answered) : Type 0 where
  pub early : k < frame_length m → times_given past ≡ times_repeated past
  pub late : frame_length m ≤ k → times_given past ≡ times_repeated past + 1

pub counts_still : (a : Answered) (past : List Answered) → a.event ≡ Nothing
    → (times_given (a ∷ past) ≡ times_given past) × (times_repeated (a ∷ past) ≡ times_repeated past)
counts_still a past e =
    (omega (arith, ap (λ (x : Event). mark (gives_message x)) e), omega (arith, ap (λ (x : Event). mark (gives_repeat x)) e))

module _ (m : Message) (past : List Answered) where
  pub given_first : times_given past ≡ times_repeated past → Given m 0 past
  given_first e = record { early = λ l. e; late = λ l. absurd (omega (arith, frame_some m)) }

  module _ (a : Answered) (k : ℕ) (says : a.event ≡ event_at m k) (G : Given m k past) where
    pub given_next : (j : ℕ) → j ≡ k + 1 → j < burst_length m → Given m j (a ∷ past)
    unfolding event_at
    given_next j e l = go (ℕ_discrete (suc k) (frame_length m))
      where
        go : Dec (suc k ≡ frame_length m) → Given m j (a ∷ past)
        go (yes f) =
            let gives : a.event ≡ Gives m = says ∙ rw (eq-eqb (suc k) (frame_length m) f) in
            let one : mark (gives_message a.event) ≡ 1 = ap (λ (x : Event). mark (gives_message x)) gives in
            let none : mark (gives_repeat a.event) ≡ 0 = ap (λ (x : Event). mark (gives_repeat x)) gives in
            record { early = λ u. absurd (omega arith); late = λ u. omega (arith, one, none, G.early (omega arith)) }
        go (no f) =
            let nothing : a.event ≡ Nothing =
            says ∙ rw (ne_eqb (suc k) (frame_length m) f, ne_eqb (suc k) (burst_length m) (λ x. omega arith)) in
            let still = counts_still a past nothing in
            record { early = λ u. omega (arith, still, G.early (omega arith)); late = λ u. omega (arith, still, G.late (omega arith)) }

    pub given_over : suc k ≡ burst_length m → times_given (a ∷ past) ≡ times_repeated (a ∷ past)
    given_over l =
        let repeat : a.event ≡ Repeat = says ∙ end_repeats m k l in
        let none : mark (gives_message a.event) ≡ 0 = ap (λ (x : Event). mark (gives_message x)) repeat in
        let one : mark (gives_repeat a.event) ≡ 1 = ap (λ (x : Event). mark (gives_repeat x)) repeat in
        omega (arith, one, none, G.late (omega (arith, frame_some m)))
