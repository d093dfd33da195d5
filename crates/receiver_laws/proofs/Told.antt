-- The messages that a receiver gives over a list of half-cycles.
--
--     tells                        the messages given, in order
--     told_nothing, told_frame     by lists of events
--     tells_run, quietly           over a run and what comes after it; over one that gives none
--     hush_tells                   none where no start comes
use Prim.Native.Nat.{ℕ, zero, suc, ◌-◌, ◌≤◌}
use mathlib.Core.Path.{◌≡◌, refl, sym, ap, ap₂, ◌∙◌}
use mathlib.Core.List.{List, [], ◌∷◌, ◌++◌, append_assoc, append-nil}
use lib.ListN.{length, replicate}
use Rattle.message.specs.declared.Message.{Message}
use Rattle.burst.specs.Frames.{frame_length}
use Rattle.receiver.specs.Receivers.{hunting}
use Rattle.receiver.specs.Hearing.{events_of}
use Rattle.receiver.specs.declared.Receiver.{Receiver}
use Rattle.receiver.specs.declared.Event.{Event}
use Rattle.receiver.specs.declared.Event.TheVariants.{Nothing}
use Rattle.receiver_laws.specs.Whole.{frame_events}
use Rattle.receiver.specs.Hearing.{given_by}
use Rattle.receiver_laws.specs.Inversion.{as_list, told}
use Rattle.receiver_laws.proofs.Runs.{Run, events_append}
use Rattle.receiver_laws.proofs.Hush.{Hush, hush_run}

abbrev pub tells : Receiver → List ℕ → List Message
tells r hs = told (events_of r hs)

told_append : (es fs : List Event) → told (es ++ fs) ≡ told es ++ told fs
unfolding told
told_append [] fs = refl
told_append (e ∷ es) fs = ap (λ (ms : List Message). as_list (given_by e) ++ ms) (told_append es fs) ∙ sym (append_assoc (as_list (given_by e)) (told es) (told fs))

pub told_nothing : (n : ℕ) → told (replicate n Nothing) ≡ []
unfolding told
told_nothing zero = refl
told_nothing (suc n) = told_nothing n

pub told_frame : (m : Message) (e : Event) → told (frame_events m e) ≡ as_list (given_by e)
unfolding frame_events told
told_frame m e =
    let n = frame_length m - 1 in
    told_append (replicate n Nothing) (e ∷ []) ∙ ap₂ ◌++◌ (told_nothing n) (append-nil (as_list (given_by e)))

pub tells_run : {r s : Receiver} {hs : List ℕ} {es : List Event} (ks : List ℕ) → Run r hs es s → tells r (hs ++ ks) ≡ told es ++ tells s ks
tells_run {r} {s} {hs} {es} ks u =
    ap told (events_append r hs ks ∙ ap₂ ◌++◌ u.events (ap (λ (x : Receiver). events_of x ks) u.stands))
    ∙ told_append es (events_of s ks)

pub quietly : {r s : Receiver} {hs : List ℕ} {es : List Event} (ks : List ℕ) → Run r hs es s → told es ≡ [] → tells r (hs ++ ks) ≡ tells s ks
quietly {s = s} ks u n = tells_run ks u ∙ ap (λ (ms : List Message). ms ++ tells s ks) n

pub hush_tells : (hs : List ℕ) (p : ℕ) → p ≤ 63 → Hush p hs → tells (hunting p) hs ≡ []
hush_tells hs p hp u = ap told (hush_run hs p hp u).events ∙ told_nothing (length hs)
