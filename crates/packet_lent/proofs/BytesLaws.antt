-- Laws of what a packet carries, in lent bytes.
--
--     bytes_length          five bytes a message
--     each_of, each_mapped, each_first, each_next, each_end      five bytes for each of n numbers, put one after the other
--     two_parts                        the addresses and what ends them are all messages
--     packet_short, packet_put         a packet's parts put, or no room for them
--     packet_carried, packet_refused   a packet read, or refused
--     carried_order         CarriedOrder
use Rattle.std.specs.Prelude.{Result, Ok, Err}
use mathlib.Core.Path.{◌≡◌, refl, sym, ap, ap₂, ◌∙◌}
use mathlib.Core.List.{List, [], ◌∷◌, ◌++◌, flat_map, map}
use Prim.Native.Nat.{ℕ, zero, suc, ◌+◌, ◌-◌, ◌*◌, ◌≤◌, ◌<◌}
use native.Mathlib.Numerals.{add-one}
use native.Mathlib.Omega.{arith}
use borrow.Author.Tests.{le-leb, lt-leb}
use lib.ListN.{length, get_or}
use lib.Seq.{sets}
use Rattle.ground.specs.Records.{front}
use Rattle.ground.specs.Refusals.{judged, count_report, reports, refuses}
use Rattle.ground.specs.declared.Refusal.{Refusal}
use Rattle.ground.specs.declared.Refusal.TheVariants as refusal
use Rattle.ground.proofs.Causes.{judged_map, judged_append, judged_past, refused_told}
use Rattle.ground.proofs.Lists.{sets-append, sets-front, flat_append, flat_length}
use Rattle.message.specs.declared.Message.{Message}
use Rattle.message.specs.declared.Message.TheVariants.{Address, Function as Command, Extended}
use Rattle.wire.specs.Messages.{message_bytes}
use Rattle.lynx_net.specs.declared.Packet.{Packet}
use Rattle.lynx_net.specs.Lists.{ending_list, unit_count, addresses_of, listed}
use Rattle.lynx_net.specs.declared.payload.Messages.{Messages}
use Rattle.lynx_net.specs.Payloads.{numbers_from}
use Rattle.lynx_net.specs.Packets.{read_causes, read_answer, parts_of, read_report, front_causes}
use Rattle.lynx_net.proofs.ListLaws.{addresses_length}
use Rattle.lynx_net.proofs.PacketLaws.{packet_told}
use Rattle.packet_lent.specs.PacketBytes.{all_bytes, part_bytes, carried_by, carried_bytes, packet_bytes}
use Rattle.packet_lent.specs.PacketBytes.{carried_causes, carried_answer, carried_after, CarriedOrder}

five_bytes : (m : Message) → length (message_bytes m) ≡ 5
five_bytes (Address h u) = refl
five_bytes (Command h f) = refl
five_bytes (Extended h u d c) = refl

pub bytes_length : (ms : List Message) → length (all_bytes ms) ≡ 5 * length ms
bytes_length ms = flat_length message_bytes 5 ms five_bytes

-- ---- five bytes for each of n numbers, put one after the other

abbrev pub each_of : (ℕ → List ℕ) → ℕ → ℕ → List ℕ
each_of B k n = flat_map B (numbers_from k n)

pub each_mapped : (g : ℕ → Message) (k n : ℕ) → all_bytes (map g (numbers_from k n)) ≡ each_of (λ i. message_bytes (g i)) k n
unfolding flat_map
each_mapped g k zero = refl
each_mapped g k (suc n) = ap (λ (l : List ℕ). message_bytes (g k) ++ l) (each_mapped g (suc k) n)

module _ (B : ℕ → List ℕ) (at i n : ℕ) (out : List ℕ) where
  pub each_next : length (B i) ≡ 5 → i < n
      → sets (sets out (at + 5 * i) (B i)) (at + 5 * (i + 1)) (each_of B (i + 1) (n - (i + 1))) ≡ sets out (at + 5 * i) (each_of B i (n - i))
  unfolding flat_map
  each_next five h =
      let place : at + 5 * (i + 1) ≡ (at + 5 * i) + length (B i) = omega (arith, five) in
      let left : n - i ≡ suc (n - (i + 1)) = omega arith in
      rw (place, left, add-one i) (sym (sets-append out (at + 5 * i) (B i) (each_of B (suc i) (n - suc i))))

  pub each_end : i ≡ n → sets out (at + 5 * i) (each_of B i (n - i)) ≡ out
  unfolding flat_map
  each_end e = let none : n - i ≡ 0 = omega arith in rw none

-- the whole, as it begins
pub each_first : (B : ℕ → List ℕ) (at n : ℕ) (out : List ℕ) → sets out (at + 5 * 0) (each_of B 0 (n - 0)) ≡ sets out at (each_of B 0 n)
each_first B at n out = let place : at + 5 * 0 ≡ at = omega arith in let all : n - 0 ≡ n = omega arith in rw (place, all)

-- ---- what a packet carries, put

-- addresses, and then what ends them
pub two_parts : (ms : Messages) (out : List ℕ)
    → sets (sets out 3 (all_bytes (addresses_of ms))) (3 + 5 * unit_count ms) (all_bytes (ending_list ms.ending)) ≡ sets out 3 (all_bytes (listed ms))
unfolding listed
two_parts ms out =
    let place : 3 + 5 * unit_count ms ≡ 3 + length (all_bytes (addresses_of ms)) = omega (arith, bytes_length (addresses_of ms), addresses_length ms) in
    let all = flat_append message_bytes (addresses_of ms) (ending_list ms.ending) in
    rw place (sym (ap (sets out 3) all ∙ sets-append out 3 (all_bytes (addresses_of ms)) (all_bytes (ending_list ms.ending))))

module _ (p : Packet) (out : List ℕ) {n : ℕ} (count : n ≡ length (listed p.messages)) where
  packet_length : length (packet_bytes p) ≡ 3 + 5 * n
  packet_length = omega (arith, bytes_length (listed p.messages))

  -- what `put_packet` owes
  abbrev Owed : Result ℕ Refusal → List ℕ → Type 0
  Owed r after =
      (r ≡ judged (front_causes (packet_bytes p) (length out)) (Ok (length (listed p.messages))) Err)
      × (after ≡ judged (front_causes (packet_bytes p) (length out)) (front (packet_bytes p) out) (λ why. out))

  pub packet_short : length out < 3 + 5 * n → Owed (Err refusal.Short) out
  unfolding judged
  packet_short h = rw (lt-leb (length (packet_bytes p)) (length out) (omega (arith, packet_length))) (refl, refl)

  pub packet_put : {after : List ℕ} → 3 + 5 * n ≤ length out → after ≡ sets out 0 (packet_bytes p) → Owed (Ok n) after
  unfolding judged
  packet_put h put =
      let long : length (packet_bytes p) ≤ length out = omega (arith, packet_length) in
      rw (le-leb (length (packet_bytes p)) (length out) long) (ap Ok count, put ∙ sets-front (packet_bytes p) out long)

-- ---- a packet read

module _ (packet out : List ℕ) where
  -- what `read` owes
  abbrev Right : Result ℕ Refusal → List ℕ → Type 0
  Right r after =
      (r ≡ carried_answer packet (length out))
      × ((count_report r ≡ judged (carried_causes packet (length out)) (reports (length (carried_by packet) ∷ [])) refuses)
      × (after ≡ carried_after packet out))

  -- by the answer, the report
  right_by : {r : Result ℕ Refusal} {after : List ℕ} → r ≡ carried_answer packet (length out) → after ≡ carried_after packet out → Right r after
  unfolding carried_answer
  right_by answer left = (answer, (ap count_report answer ∙ judged_map count_report (Ok (length (carried_by packet))) Err (carried_causes packet (length out)), left))

  pub packet_carried : (p : Packet) {q : Result Packet Refusal} {r : Result ℕ Refusal} {after : List ℕ} → q ≡ read_answer packet → q ≡ Ok p
      → r ≡ judged (front_causes (packet_bytes p) (length out)) (Ok (length (listed p.messages))) Err
      → after ≡ judged (front_causes (packet_bytes p) (length out)) (front (packet_bytes p) out) (λ why. out)
      → Right r after
  unfolding carried_answer carried_after
  packet_carried p e is did left =
      let told = packet_told packet p e is in
      let bytes : packet_bytes p ≡ carried_bytes packet =
      ap (λ (x : Packet). part_bytes x.node x.sequence x.length (listed p.messages)) told.1
      ∙ ap (part_bytes (get_or packet 1 0) (get_or packet 2 0) (get_or packet 3 0)) told.2 in
      let short = front_causes (carried_bytes packet) (length out) in
      let answered = did ∙ ap₂ (λ (l : List ℕ) (ms : List Message). judged (front_causes l (length out)) (Ok (length ms)) Err) bytes told.2 in
      let put = left ∙ ap (λ (l : List ℕ). judged (front_causes l (length out)) (front l out) (λ why. out)) bytes in
      right_by (answered ∙ sym (judged_past (Ok (length (carried_by packet))) Err (read_causes packet) short told.0))
      (put ∙ sym (judged_past (front (carried_bytes packet) out) (λ why. out) (read_causes packet) short told.0))

  pub packet_refused : (why : Refusal) {q : Result Packet Refusal} {r : Result ℕ Refusal}
      → read_report packet q ≡ judged (read_causes packet) (reports (parts_of packet ∷ [])) refuses → q ≡ Err why → r ≡ Err why → Right r out
  unfolding carried_answer carried_after
  packet_refused why {q} reported is passed = right_by (passed ∙ first (Ok (length (carried_by packet))) Err) (first (front (carried_bytes packet) out) (λ w. out))
    where
      first : {A : Type 0} (done : A) (refused : Refusal → A) → refused why ≡ judged (carried_causes packet (length out)) done refused
      first done refused =
          let short = front_causes (carried_bytes packet) (length out) in
          refused_told (parts_of packet ∷ []) (read_causes packet) why (ap (read_report packet) (sym is) ∙ reported) (judged short done refused) refused
          ∙ sym (judged_append done refused (read_causes packet) short)

pub carried_order : CarriedOrder
carried_order packet room = refl
