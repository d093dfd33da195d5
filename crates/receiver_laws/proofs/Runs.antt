-- Runs: what a receiver says over a list of half-cycles and where it then stands, put together from single steps.
--
--     Run                               a receiver hears a list, says a list of events and stands somewhere
--     run_none, run_more, run-append    no half-cycle, one more in front, two lists
--     events_append, after-append       the same of the definitions themselves
use mathlib.Core.Path.{◌≡◌, refl, ap, ap₂, ◌∙◌}
use mathlib.Core.List.{List, [], ◌∷◌, ◌++◌}
use Prim.Native.Nat.{ℕ}
use Rattle.receiver.specs.Receivers.{step_of, says}
use Rattle.receiver.specs.Hearing.{events_of, receiver_after}
use Rattle.receiver.specs.declared.Receiver.{Receiver}
use Rattle.receiver.specs.declared.Event.{Event}
use Rattle.receiver.specs.declared.Heard.{Heard}
pub use Rattle.receiver.proofs.ReadBack.{events_append, after-append}

pub record Run (r : Receiver) (hs : List ℕ) (es : List Event) (s : Receiver) : Type 0 where
  pub events : events_of r hs ≡ es
  pub stands : receiver_after r hs ≡ s

pub run_none : (r : Receiver) → Run r [] [] r
unfolding events_of receiver_after
run_none r = record { events = refl; stands = refl }

pub run_more : {r s t : Receiver} {h : ℕ} {hs : List ℕ} {e : Event} {es : List Event} → step_of r h ≡ says e s → Run s hs es t → Run r (h ∷ hs) (e ∷ es) t
unfolding events_of receiver_after
run_more {hs = hs} p q = record {
  events = ap₂ ◌∷◌ (ap (λ (x : Heard). x.event) p) (ap (λ (x : Heard). events_of x.next hs) p ∙ q.events);
  stands = ap (λ (x : Heard). receiver_after x.next hs) p ∙ q.stands;
}

pub run-append : {r s t : Receiver} {hs ks : List ℕ} {es fs : List Event} → Run r hs es s → Run s ks fs t → Run r (hs ++ ks) (es ++ fs) t
run-append {r} {s} {t} {hs} {ks} p q = record {
  events = events_append r hs ks ∙ ap₂ ◌++◌ p.events (ap (λ (x : Receiver). events_of x ks) p.stands ∙ q.events);
  stands = after-append r hs ks ∙ ap (λ (x : Receiver). receiver_after x ks) p.stands ∙ q.stands;
}
