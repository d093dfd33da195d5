-- Every burst is heard whole: clear half-cycles leave the receiver hunting until it is ready, and then the two copies of the frame are read one
-- after the other. After fewer than three no start pattern comes.
--
--     hears_burst              the burst, by a receiver that is ready
--     every_burst_is_heard     the theorem of specs/Whole.antt
use Prim.Native.Nat.{ℕ, zero, suc, ◌+◌, ◌%◌, ◌≤◌}
use mathlib.Core.Logic.{◌≢◌}
use mathlib.Core.Path.{◌≡◌}
use mathlib.Core.Bool.{true}
use mathlib.Core.List.{◌++◌}
use native.Mathlib.Omega.{arith}
use lib.ListN.{replicate}
use Rattle.message.specs.Messages.{message_ok}
use Rattle.message.specs.declared.Message.{Message}
use Rattle.burst.specs.Frames.{frame_of, burst_of}
use Rattle.receiver.specs.Receivers.{hunting, fresh_receiver}
use Rattle.receiver.specs.declared.Receiver.{Receiver}
use Rattle.receiver.specs.declared.Event.TheVariants.{Nothing}
use Rattle.receiver_laws.specs.Whole.{clear, Ready, burst_events, last_six, Hears, EveryBurstIsHeard}
use Rattle.receiver_laws.proofs.Runs.{Run, run_more, run-append}
use Rattle.receiver_laws.proofs.FrameBits.{framed}
use Rattle.receiver_laws.proofs.Pasts.{six_append, clean_frame}
use Rattle.receiver_laws.proofs.FrameHeard.{hears_frame, hears_repeat}
use Rattle.receiver_laws.proofs.Hush.{Hush, hush_run, hush_append, hush_clear, hush_frame}
use Rattle.receiver_laws.proofs.Rests.{Rests, rests_fresh, ready_rests, rests_ready, rested, rests_step, rests_next}

module _ (m : Message) (ok : message_ok m ≡ true) where
  pub hears_burst : (r : Receiver) → Ready r → Run r (burst_of m) (burst_events m) (hunting (last_six r.past (burst_of m)))
  unfolding burst_of burst_events
  hears_burst r h =
      let F = framed m ok in
      rw (six_append r.past (frame_of m) (frame_of m))
      (run-append (hears_frame m F ok r h) (hears_repeat m F ok (last_six r.past (frame_of m)) (clean_frame m r.past).six))

  -- z clear half-cycles before it, c having come already
  hears_after : (z c : ℕ) (r : Receiver) → Rests c r → 3 ≤ c + z
      → Run r (clear z ++ burst_of m) (replicate z Nothing ++ burst_events m) (hunting (last_six r.past (clear z ++ burst_of m)))
  unfolding last_six
  hears_after zero c r h l = hears_burst r (rests_ready c r (omega arith) h)
  hears_after (suc z) c r h l = run_more (rests_step h) (hears_after z (suc c) (rested r) (rests_next h) (omega arith))

  hears : (z c : ℕ) (r : Receiver) → Rests c r → 3 ≤ c + z → Hears r z m
  hears z c r h l = let u = hears_after z c r h l in record { events = u.events; after = u.stands }

-- fewer than three of a fresh receiver's last half-cycles are clear, and two half-cycles that differ come before the second copy
too_few : (z : ℕ) → z ≤ 2 → last_six 63 (clear z) % 8 ≢ 0
unfolding last_six
too_few zero l = omega arith
too_few (suc zero) l = omega arith
too_few (suc (suc zero)) l = omega arith
too_few (suc (suc (suc z))) l = absurd (omega arith)

no_start : (m : Message) (z : ℕ) → z ≤ 2 → Hush 63 (clear z ++ burst_of m)
unfolding burst_of
no_start m z l =
    let p = last_six 63 (clear z) in
    let q = last_six p (frame_of m) in
    let clean = clean_frame m p in
    let apart : q % 8 % 4 ≡ q % 4 = omega arith in
    hush_append (clear z) (frame_of m ++ frame_of m) 63 (hush_clear z 63 (omega arith))
    (hush_append (frame_of m) (frame_of m) p (hush_frame m p (too_few z l)) (hush_frame m q (omega arith)))

pub every_burst_is_heard : EveryBurstIsHeard
every_burst_is_heard m ok = record {
  fresh = λ z l. hears m ok z 0 fresh_receiver rests_fresh (omega arith);
  ready = λ r z h. hears m ok z 3 r (ready_rests r h) (omega arith);
  fewer = λ z l. (hush_run (clear z ++ burst_of m) 63 (omega arith) (no_start m z l)).events;
}
