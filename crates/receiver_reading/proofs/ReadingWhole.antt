-- The receiver says exactly what ends: what ends is said, by where the derivation brings the receiver; and nothing else is, because every history
-- stands somewhere, and its last half-cycle either ended something or was met with nothing. Refused half-cycles leave the receiver as it is.
--
--     frame_ends, ends_frame        MESSAGE in lists
--     repeat_ends, ends_repeat      REPEAT in lists
--     read                          the theorem of specs/Reading.antt
use Prim.Native.Nat.{ℕ, ◌≤◌}
use mathlib.Core.Logic.{◌≢◌}
use mathlib.Core.Path.{◌≡◌, refl, sym, ap, subst, ◌∙◌}
use mathlib.Core.Bool.{false≢true}
use mathlib.Core.List.{List, [], ◌∷◌, ◌++◌, append_assoc}
use Rattle.message.specs.Words.{word_of, bit_count}
use Rattle.message.specs.declared.Message.{Message}
use Rattle.burst.specs.Frames.{frame_of, burst_of}
use Rattle.receiver.specs.Receivers.{step_of, fresh_receiver}
use Rattle.receiver.specs.Hearing.{receiver_after, taken}
use Rattle.receiver.specs.declared.Receiver.{Receiver}
use Rattle.receiver.specs.declared.Event.{Event}
use Rattle.receiver.specs.declared.Event.TheVariants.{Nothing, Message as Gives, Repeat}
use Rattle.receiver.specs.declared.Heard.{Heard}
use Rattle.receiver_laws.proofs.Pasts.{Bits}
use Rattle.receiver_reading.specs.Reading.{start_mark, pairs, said, At, awaited, message, repeated, broken, unsupported}
use Rattle.receiver_reading.specs.Reading.{heard_at, FrameEnds, SaysWhatEnds, Read}
use Rattle.receiver_reading.proofs.Answers.{answer, state, answer_more, state_after_lem, taken_bits, refuses, state_taken}
use Rattle.receiver_reading.proofs.States.{valid_message, message_ends, where_at}
use Rattle.receiver_reading.proofs.Standing.{Step, ends, quiet, last_step}

-- ---- what is said of the last of them

-- something always
something : {e : Event} {hs : List ℕ} → At (said e) hs → e ≢ Nothing
something (message m a ok n) q = false≢true cc
something (repeated a) q = false≢true cc
something (broken a) q = false≢true cc
something (unsupported w a c) q = false≢true cc

-- a message's pairs end where they followed a start
frame_ends : {m : Message} {hs : List ℕ} → At (said (Gives m)) hs → FrameEnds m hs
frame_ends (message {hs} {g} m a ok n) = record { valid = ok; hs = hs; given = g; starts = a; different = n; whole = refl }

ends_frame : {m : Message} {hs : List ℕ} → FrameEnds m hs → At (said (Gives m)) hs
ends_frame {m} f = subst (λ (l : List ℕ). At (said (Gives m)) l) f.whole (message m f.starts f.valid f.different)

-- a second frame ends where the first gave its message
abbrev Twice : List ℕ → Type 0
Twice hs = (m : Message) × (before : List ℕ) × (before ++ burst_of m ≡ hs) × At (said (Gives m)) (before ++ frame_of m)

repeat_ends : {hs : List ℕ} → At (said Repeat) hs → Twice hs
unfolding burst_of frame_of
repeat_ends (repeated {m = m} (awaited {hs} a)) =
    let f = frame_of m in
    let e = message_ends a in
    let second : e.0 ++ burst_of m ≡ hs ++ f = sym (append_assoc e.0 f f) ∙ ap (λ (l : List ℕ). l ++ f) e.1 in
    (m, e.0, second ∙ sym (append_assoc hs start_mark (pairs (bit_count m) (word_of m))), subst (λ (l : List ℕ). At (said (Gives m)) l) (sym e.1) a)

ends_repeat : {hs : List ℕ} → Twice hs → At (said Repeat) hs
unfolding burst_of frame_of
ends_repeat t =
    let m = t.0 in
    let f = frame_of m in
    let first = t.1 ++ f in
    let all = append_assoc first start_mark (pairs (bit_count m) (word_of m)) ∙ append_assoc t.1 f f ∙ t.2 in
    subst (λ (l : List ℕ). At (said Repeat) l) all (repeated (awaited t.3))

module _ (hs : List ℕ) (h : ℕ) (bits : Bits hs) (l : h ≤ 1) where
  abbrev ks : List ℕ
  ks = hs ++ h ∷ []

  abbrev heard : Event
  heard = (answer ks).event

  -- what ends is said
  whole : (e : Event) → At (said e) ks → heard ≡ e
  whole e a = (where_at a).0

  -- nothing else is
  sound : (e : Event) → e ≢ Nothing → heard ≡ e → At (said e) ks
  sound e n q = go (last_step hs h bits l)
    where
      go : Step ks → At (said e) ks
      go (ends {e = f} a) = subst (λ (x : Event). At (said x) ks) (sym (whole f a) ∙ q) a
      go (quiet e s) = absurd (n (sym q ∙ e))

  silent : ((e : Event) → At (said e) ks → ⊥) → heard ≡ Nothing
  silent n = go (last_step hs h bits l)
    where
      go : Step ks → heard ≡ Nothing
      go (ends {e = f} a) = absurd (n f a)
      go (quiet e s) = e

  given : (m : Message) → heard ≡ Gives m → At (said (Gives m)) ks
  given m q = sound (Gives m) (λ z. false≢true cc) q

  says_what_ends : SaysWhatEnds ks heard
  says_what_ends = record {
    ends = λ e n. (sound e n, whole e);
    silent = (λ q e a. something a (sym (whole e a) ∙ q), silent);
    complete = λ m. (λ q. frame_ends (given m q), λ f. whole (Gives m) (ends_frame f));
    framed = λ m q. (valid_message (given m q), message_ends (given m q));
    twice = (λ q. repeat_ends (sound Repeat (λ z. false≢true cc) q), λ t. whole Repeat (ends_repeat t));
  }

-- all that came bring the receiver to the same answer
answer_taken : (hs : List ℕ) (h : ℕ) → (answer (taken hs ++ h ∷ [])).event ≡ heard_at hs h
answer_taken hs h =
    let same : receiver_after fresh_receiver hs ≡ state (taken hs) = state_taken fresh_receiver hs ∙ state_after_lem (taken hs) in
    ap (λ (o : Heard). o.event) (answer_more (taken hs) h) ∙ ap (λ (r : Receiver). (step_of r h).event) (sym same)

pub read : Read
read = record {
  one = λ hs h l. subst (λ (e : Event). SaysWhatEnds (taken hs ++ h ∷ []) e) (answer_taken hs h) (says_what_ends (taken hs) h (taken_bits hs) l);
  refused = λ hs h l. ap (λ (o : Heard). o.event) (refuses (receiver_after fresh_receiver hs) h l);
}
