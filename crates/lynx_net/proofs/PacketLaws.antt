-- Laws of packets.
--
--     front_short, front_put     bytes at the front of a buffer that has no room for them, or has
--     past_causes, alone_written     the same, where it comes after other causes, and for a message's payload
--     put_next                   one byte of the payload more
--     check_split                the check byte, the bytes before the payload apart
--     packet_length, packet_laid     a packet in the buffer
--     size_small, size_other, size_right, payload_between      what the length byte says
--     causes_passed, read_reported, packet_told      the number and the parts by the causes, and what they tell
use Rattle.std.proofs.Common.{◌≡◌, ℕ, zero, suc, ◌+◌, ◌-◌, ◌%◌, ◌^◌, ◌<◌, ◌≤◌, true, false, leb, List, [], ◌∷◌, ◌++◌, length, get_or, take, drop, set, sym, refl, ap, ◌∙◌, add_assoc, add-suc, add-one, arith, length-append, drop-cons, eq-eqb, ne_eqb, le-leb, Result, Ok, Err}
use mathlib.Core.Bool.{and-false}
use borrow.Author.Tests.{lt-leb}
use lib.Seq.{sets}
use Rattle.ground.specs.Refusals.{Cause, unless, judged, number_given, Report, reports, refuses, count_report}
use Rattle.ground.specs.Records.{front, sum_below}
use Rattle.ground.specs.declared.Refusal.{Refusal}
use Rattle.ground.specs.declared.Refusal.TheVariants as refusal
use Rattle.ground.proofs.Causes.{judged_map, judged_same, judged_past, nothing_refused, done_told, none_stops}
use Rattle.ground.proofs.Lists.{sets-front, sets-append}
use Rattle.message.specs.Messages.{message_ok}
use Rattle.message.specs.declared.Message.{Message}
use Rattle.lynx_net.specs.declared.Packet.{Packet}
use Rattle.lynx_net.specs.Payloads.{payload_ok, messages_of, payload_of, has_payload}
use Rattle.lynx_net.specs.Lists.{listed}
use Rattle.lynx_net.specs.Packets.{NETWORK, check_of, before_check, packet_of, size_ok, payload_in, read_causes, packet_in, read_answer, Parts, parts_of, read_report}
use Rattle.lynx_net.specs.Packets.{front_causes, front_answer, front_after, alone_causes, alone_answer, alone_after}
use Rattle.lynx_net.proofs.ListLaws.{listed_held}

-- ---- bytes at a buffer's front

pub front_short : (bytes buf : List ℕ) → length buf < length bytes → (Err refusal.Short ≡ front_answer bytes (length buf)) × (buf ≡ front_after bytes buf)
unfolding front_answer front_after judged
front_short bytes buf h = rw (lt-leb (length bytes) (length buf) h) (refl, refl)

pub front_put : (bytes buf after : List ℕ) → length bytes ≤ length buf → after ≡ sets buf 0 bytes
    → (Ok (length bytes) ≡ front_answer bytes (length buf)) × (after ≡ front_after bytes buf)
unfolding front_answer front_after judged
front_put bytes buf after h e = rw (le-leb (length bytes) (length buf) h) (refl, e ∙ sets-front bytes buf h)

-- and so after other causes, of which none applies
pub past_causes : (bytes buf : List ℕ) (cs : List Cause) {r : Result ℕ Refusal} {after : List ℕ} → number_given cs ≡ 0
    → r ≡ front_answer bytes (length buf) → after ≡ front_after bytes buf
    → (r ≡ judged (cs ++ front_causes bytes (length buf)) (Ok (length bytes)) Err)
    × ((count_report r ≡ judged (cs ++ front_causes bytes (length buf)) (reports (length bytes ∷ [])) refuses)
    × (after ≡ judged (cs ++ front_causes bytes (length buf)) (front bytes buf) (λ why. buf)))
unfolding front_answer front_after
past_causes bytes buf cs {r} none answer left =
    let short = front_causes bytes (length buf) in
    let answered : r ≡ judged (cs ++ short) (Ok (length bytes)) Err = answer ∙ past (Ok (length bytes)) Err in
    (answered, (ap count_report answered ∙ judged_map count_report (Ok (length bytes)) Err (cs ++ short), left ∙ past (front bytes buf) (λ why. buf)))
  where
    past : {A : Type 0} (done : A) (refused : Refusal → A)
        → judged (front_causes bytes (length buf)) done refused ≡ judged (cs ++ front_causes bytes (length buf)) done refused
    past done refused = sym (judged_past done refused cs (front_causes bytes (length buf)) none)

-- of a message that is valid and has a payload, the bytes
pub alone_written : (m : Message) (bytes buf : List ℕ) {r : Result ℕ Refusal} {after : List ℕ} → bytes ≡ payload_of m → message_ok m ≡ true → has_payload m ≡ true
    → r ≡ front_answer bytes (length buf) → after ≡ front_after bytes buf
    → (r ≡ alone_answer m (length buf))
    × ((count_report r ≡ judged (alone_causes m (length buf)) (reports (length (payload_of m) ∷ [])) refuses) × (after ≡ alone_after m buf))
unfolding alone_answer alone_after judged
alone_written m bytes buf {r} {after} is valid has answer left =
    past_causes (payload_of m) buf (unless (message_ok m) refusal.Message ∷ unless (has_payload m) refusal.Payload ∷ []) (rw (valid, has))
    (answer ∙ ap (λ (l : List ℕ). front_answer l (length buf)) is) (left ∙ ap (λ (l : List ℕ). front_after l buf) is)

-- ---- the payload put

pub put_next : (buf p : List ℕ) (i : ℕ) → i < length p → sets (set buf (4 + i) (get_or p i 0)) (4 + (i + 1)) (drop (i + 1) p) ≡ sets buf (4 + i) (drop i p)
put_next buf p i h = rw (add-one i, add-suc 4 i, drop-cons p i 0 h)

-- ---- the check byte

sum_first : (f : ℕ → ℕ) (n : ℕ) → sum_below (suc n) f ≡ f 0 + sum_below n (λ k. f (suc k))
unfolding sum_below
sum_first f zero = omega arith
sum_first f (suc n) = ap (λ (k : ℕ). k + f (suc n)) (sum_first f n) ∙ add_assoc (f 0) _ _

-- by the sum of the four bytes before the payload, carries dropped, and the payload's
pub check_split : (node sequence : ℕ) (payload : List ℕ) (head : ℕ) → head ≡ (NETWORK + node + sequence + length payload) % 2 ^ 8
    → (head + sum_below (length payload) (λ k. get_or payload k 0)) % 2 ^ 8 ≡ check_of (before_check node sequence payload)
unfolding check_of
check_split node sequence payload head is =
    let n = length payload in
    let before = before_check node sequence payload in
    let one = sum_first (λ k. get_or before k 0) (suc (suc (suc n))) in
    let two = sum_first (λ k. get_or before (suc k) 0) (suc (suc n)) in
    let three = sum_first (λ k. get_or before (suc (suc k)) 0) (suc n) in
    let four = sum_first (λ k. get_or before (suc (suc (suc k))) 0) n in
    omega (arith, one, two, three, four)

-- ---- a packet put

module _ (node sequence : ℕ) (payload : List ℕ) where
  pub packet_length : length (packet_of node sequence payload) ≡ length payload + 5
  unfolding packet_of
  packet_length = length-append (before_check node sequence payload) _ ∙ omega arith

  module _ (buf : List ℕ) (room : length payload + 5 ≤ length buf) where
    pub packet_laid : (check : ℕ) → check ≡ check_of (before_check node sequence payload)
        → set (sets buf 0 (before_check node sequence payload)) (length payload + 4) check ≡ sets buf 0 (packet_of node sequence payload)
    unfolding packet_of
    packet_laid check e =
        let before = before_check node sequence payload in
        let place : length payload + 4 ≡ 0 + length before = omega arith in
        rw (e, place) (sym (sets-append buf 0 before (check_of before ∷ [])))

-- ---- reading

module _ (packet : List ℕ) where
  pub size_small : length packet < 5 → size_ok packet ≡ false
  size_small h = rw (lt-leb 5 (length packet) h)

  module _ (long : 5 ≤ length packet) where
    pub size_other : (length packet - 5 ≡ get_or packet 3 0 → ⊥) → size_ok packet ≡ false
    size_other n =
        let other = ne_eqb (length packet) (get_or packet 3 0 + 5) (λ e. n (omega arith)) in
        rw (other, and-false (leb 5 (length packet)))

    module _ (same : length packet - 5 ≡ get_or packet 3 0) where
      pub size_right : size_ok packet ≡ true
      size_right = let right = eq-eqb (length packet) (get_or packet 3 0 + 5) (omega arith) in rw (le-leb 5 (length packet) long, right)

      -- the payload by the places where it begins and ends
      pub payload_between : take (length packet - 1 - 4) (drop 4 packet) ≡ payload_in packet
      payload_between = let n : length packet - 1 - 4 ≡ get_or packet 3 0 = omega arith in ap (λ (k : ℕ). take k (drop 4 packet)) n

  -- the causes are passed one after the other, so the payload is one
  pub causes_passed : number_given (read_causes packet) ≡ 0 → payload_ok (payload_in packet) ≡ true
  causes_passed none =
      let one = (none_stops _ _ _ none).1 in
      let two = (none_stops _ _ _ one).1 in
      let three = (none_stops _ _ _ two).1 in
      (none_stops _ _ _ three).0

  pub read_reported : read_report packet (read_answer packet) ≡ judged (read_causes packet) (reports (parts_of packet ∷ [])) refuses
  unfolding read_answer
  read_reported =
      judged_map (read_report packet) (Ok (packet_in packet)) Err (read_causes packet)
      ∙ judged_same refuses (read_causes packet) (λ none. ap told (listed_held (payload_in packet) (causes_passed none)))
    where
      told : List Message → Report Parts
      told ms = reports (
          record { node = get_or packet 1 0; sequence = get_or packet 2 0; payload = payload_in packet; messages = ms } ∷ [])

  -- what an answer tells of a packet: nothing is refused, and the answer has its parts
  pub packet_told : {r : Result Packet Refusal} (p : Packet) → r ≡ read_answer packet → r ≡ Ok p
      → (number_given (read_causes packet) ≡ 0) × (p ≡ packet_in packet) × (listed p.messages ≡ messages_of (payload_in packet))
  unfolding read_answer
  packet_told p e is =
      let answer = sym is ∙ e in
      let none = (done_told (parts_of packet ∷ []) (read_causes packet) (ap (read_report packet) answer ∙ read_reported)).0 in
      let same = answer ∙ nothing_refused (Ok (packet_in packet)) Err (read_causes packet) none in
      let parts : p ≡ packet_in packet = cc in
      (none, parts, ap (λ (q : Packet). listed q.messages) parts ∙ listed_held (payload_in packet) (causes_passed none))
