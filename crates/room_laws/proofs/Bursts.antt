-- Bursts after three clear half-cycles or more are each heard, since the receiver hunts again after each; so the line carries their messages.
--
--     AllValid                 messages that have a burst
--     line_carries             the messages of a line of bursts
--     codes_carry              the messages of a list of codes
--     bursts_as_codes          the theorem of specs/Demand2.antt
use Rattle.std.specs.Prelude.{Result, Ok, Err}
use mathlib.Core.Path.{◌≡◌, refl, sym, ap, ap₂, subst, ◌∙◌}
use mathlib.Core.Bool.{true, and-eq-true_iff}
use mathlib.Core.List.{List, [], ◌∷◌, ◌++◌, map, flat_map}
use Prim.Native.Nat.{ℕ, zero, suc, ◌-◌, ◌*◌, ◌≤◌}
use native.Mathlib.Omega.{arith}
use lib.Dec.{leb}
use lib.ListN.{length, replicate, length-replicate}
use lib.Seq.{append_snoc}
use borrow.Author.Tests.{le-leb}
use Rattle.ground.specs.Refusals.{judged}
use Rattle.ground.specs.declared.Refusal.{Refusal}
use Rattle.ground.proofs.Causes.{judged_map}
use Rattle.message.specs.Messages.{message_ok}
use Rattle.message.specs.declared.Message.{Message}
use Rattle.burst.specs.Frames.{frame_length, burst_of}
use Rattle.receiver.specs.Receivers.{fresh_receiver, hunting}
use Rattle.receiver.specs.Hearing.{events_of}
use Rattle.receiver.proofs.ReceiverLaws.{fresh_is_valid}
use Rattle.receiver.specs.declared.Receiver.{Receiver}
use Rattle.receiver.specs.declared.Event.{Event}
use Rattle.receiver.specs.declared.Event.TheVariants.{Nothing, Message as Gives, Repeat}
use Rattle.receiver_laws.specs.Whole.{clear, last_six, frame_events, burst_events}
use Rattle.receiver_laws.specs.Inversion.{told}
use Rattle.receiver_laws.proofs.Runs.{Run, run_more}
use Rattle.receiver_laws.proofs.Pasts.{six_append, clean_burst}
use Rattle.receiver_laws.proofs.Rests.{Rests, rests_hunting, rests_fresh, rested, rests_step, rests_next, rests_ready}
use Rattle.receiver_laws.proofs.Told.{tells_run}
use Rattle.receiver_laws.proofs.Whole.{every_burst_is_heard}
use Rattle.receiver.specs.Bytes.{is_receiver, receiver_bytes, events_by, events_heard}
use Rattle.receiver.proofs.ReadBack.{receivers_read_back}
use Rattle.radio.specs.Codes.{four_bytes, command_ok, command_of}
use Rattle.radio.specs.Answers.{read_causes, read_answer, messages_of}
use Rattle.radio.specs.declared.RadioCommand.{RadioCommand}
use Rattle.radio.specs.declared.RadioCommand.TheVariants.{On, Off, Bright, Dim}
use Rattle.radio.proofs.AnswerLaws.{read_given}
use Rattle.room_laws.specs.Demand2.{radio, meant_by, Sending, on_line, lending, to_fresh, Spaced, AllOk, BurstsAsCodes}
use Rattle.room.specs.Mains.{lent_causes}
use Rattle.room_laws.proofs.Carried.{demand_2}

-- ---- messages that have a burst

abbrev pub AllValid : List Message → Type 0
AllValid [] = Unit {0}
AllValid (m ∷ ms) = (message_ok m ≡ true) × AllValid ms

valid_append : (ms ns : List Message) → AllValid ms → AllValid ns → AllValid (ms ++ ns)
valid_append [] ns p q = q
valid_append (m ∷ ms) ns p q = (p.0, valid_append ms ns p.1 q)

command_valid : (k : RadioCommand) → command_ok k ≡ true → AllValid (messages_of k)
command_valid (On h u) ok = (ok, (((and-eq-true_iff (leb h 15) (leb u 15)).0 ok).0, tt))
command_valid (Off h u) ok = (ok, (((and-eq-true_iff (leb h 15) (leb u 15)).0 ok).0, tt))
command_valid (Bright h) ok = (ok, tt)
command_valid (Dim h) ok = (ok, tt)

commands_valid : (ks : List RadioCommand) → AllOk ks → AllValid (flat_map messages_of ks)
unfolding flat_map
commands_valid [] ok = tt
commands_valid (k ∷ ks) ok = valid_append (messages_of k) (flat_map messages_of ks) (command_valid k ok.0) (commands_valid ks ok.1)

-- ---- one burst

told_quiet : (n : ℕ) (es : List Event) → told (replicate n Nothing ++ es) ≡ told es
unfolding told
told_quiet zero es = refl
told_quiet (suc n) es = told_quiet n es

told_burst : (z : ℕ) (m : Message) → told (replicate z Nothing ++ burst_events m) ≡ m ∷ []
unfolding told burst_events frame_events
told_burst z m =
    let n = frame_length m - 1 in
    let second = replicate n Nothing ++ Repeat ∷ [] in
    told_quiet z (burst_events m)
    ∙ ap told (append_snoc (replicate n Nothing) (Gives m) second)
    ∙ told_quiet n (Gives m ∷ second)
    ∙ ap (λ (ms : List Message). m ∷ ms) (told_quiet n (Repeat ∷ []))

-- a receiver that hunts hears it after three clear half-cycles, and then hunts again
pub record HeardOn (r : Receiver) (z : ℕ) (m : Message) : Type 0 where
  stands : Receiver
  run : Run r (clear z ++ burst_of m) (replicate z Nothing ++ burst_events m) stands
  rests : Rests 0 stands

heard_on : (m : Message) → message_ok m ≡ true → (r : Receiver) (z : ℕ) → Rests 0 r → 3 ≤ z → HeardOn r z m
heard_on m valid r zero h l = absurd (omega arith)
heard_on m valid r (suc zero) h l = absurd (omega arith)
heard_on m valid r (suc (suc zero)) h l = absurd (omega arith)
heard_on m valid r (suc (suc (suc y))) h l =
    let s = rested (rested (rested r)) in
    let p = s.past in
    let one = rests_next h in
    let two = rests_next one in
    let three = rests_next two in
    let hears = (every_burst_is_heard m valid).ready s y (rests_ready 3 s (omega arith) three) in
    let clean = clean_burst m (last_six p (clear y)) in
    record {
      stands = hunting (last_six p (clear y ++ burst_of m));
      run = run_more (rests_step h) (run_more (rests_step one) (run_more (rests_step two) (record { events = hears.events; stands = hears.after })));
      rests = rw (six_append p (clear y) (burst_of m)) (rests_hunting (last_six (last_six p (clear y)) (burst_of m)) clean.six (omega arith));
    }

-- ---- a line of bursts, and a list of codes

pub line_carries : (line : List Sending) (r : Receiver) → Spaced line → AllValid (map (λ s. s.message) line) → Rests 0 r
    → told (events_of r (on_line line)) ≡ map (λ s. s.message) line
unfolding on_line events_of told
line_carries [] r spaced valid h = refl
line_carries (s ∷ more) r spaced valid h =
    let heard = heard_on s.message valid.0 r s.gap h spaced.0 in
    tells_run (on_line more) heard.run
    ∙ ap₂ ◌++◌ (told_burst s.gap s.message) (line_carries more heard.stands spaced.1 valid.1 heard.rests)

-- what the reader answers means
abbrev meant_if : Result RadioCommand Refusal → List Message
meant_if (Ok k) = messages_of k
meant_if (Err why) = []

code_means : (k : RadioCommand) → command_ok k ≡ true → meant_by (four_bytes k) ≡ messages_of k
unfolding meant_by read_answer
code_means k ok =
    let code = four_bytes k in
    sym (judged_map meant_if (Ok (command_of code)) Err (read_causes code)) ∙ ap meant_if (read_given k ok)

pub codes_carry : (ks : List RadioCommand) → AllOk ks → flat_map meant_by (map four_bytes ks) ≡ flat_map messages_of ks
unfolding flat_map
codes_carry [] ok = refl
codes_carry (k ∷ ks) ok = ap₂ ◌++◌ (code_means k ok.0) (codes_carry ks ok.1)

-- a fresh receiver's bytes hold it
fresh_hears : (halves : List ℕ) → events_heard (receiver_bytes fresh_receiver) halves ≡ events_of fresh_receiver halves
unfolding events_heard
fresh_hears halves = ap (λ x. events_by x halves) (receivers_read_back fresh_receiver fresh_is_valid)

-- with room for what it leaves, the call is not refused
fresh_called : (halves : List ℕ) {A : Type 0} (done : A) (refused : Refusal → A) → judged (lent_causes (lending
    (receiver_bytes fresh_receiver) halves)) done refused ≡ done
unfolding judged
fresh_called halves done refused =
    rw (ap is_receiver (receivers_read_back fresh_receiver fresh_is_valid), room (8 * length halves), room (6 * length halves))
  where
    room : (n : ℕ) → leb n (length {A = ℕ} (replicate n 0)) ≡ true
    room n = le-leb n (length {A = ℕ} (replicate n 0)) (omega (arith, length-replicate {A = ℕ} n 0))

pub bursts_as_codes : BurstsAsCodes
bursts_as_codes ks line ok spaced same =
    let valid = subst AllValid (sym same) (commands_valid ks ok) in
    let heard = fresh_called (on_line line) (told (events_heard (receiver_bytes fresh_receiver) (on_line line))) (λ why. [])
    ∙ ap told (fresh_hears (on_line line)) ∙ line_carries line fresh_receiver spaced valid rests_fresh ∙ same in
    let read = codes_carry ks ok in
    record {
      by_mains = heard;
      by_codes = read;
      alike = λ room. demand_2 (to_fresh line) (radio (map four_bytes ks)) room room (heard ∙ sym read) refl;
    }
