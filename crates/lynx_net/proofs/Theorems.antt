-- The theorems of specs/Statements.antt: the order of the causes, 02's packets, and reading after writing, both ways.
use Rattle.std.proofs.Common.{◌≡◌, ℕ, suc, ◌+◌, ◌-◌, ◌≤◌, true, eqb, leb, List, [], ◌∷◌, ◌++◌, length, get_or, take, drop, sym, refl, ap, ◌∙◌, arith, length-take-le, take_all, take-suc, take_at, eq-eqb, eqb-true, le-leb, leb-true}
use mathlib.Core.Bool.{and-eq-true_iff}
use lib.Seq.{get_or_at}
use Rattle.ground.specs.Refusals.{judged, number_given, reports}
use Rattle.ground.specs.Records.{sum_below, all_below}
use Rattle.ground.proofs.Causes.{none_stops}
use Rattle.lynx_net.specs.Payloads.{form_of, closed_units, payload_ok, messages_of}
use Rattle.lynx_net.specs.Lists.{number_of, listed}
use Rattle.lynx_net.specs.Packets.{NETWORK, check_of, before_check, packet_of, size_ok, check_ok, network_ok, payload_in, read_causes, read_answer}
use Rattle.lynx_net.specs.Packets.{Parts, parts_of, read_report, buffer_after}
use Rattle.lynx_net.specs.Statements.{ReadOrder, WriteOrder, AloneOrder, PacketExamples, WrittenRead, ReadWritten}
use Rattle.lynx_net.proofs.PacketLaws.{packet_length, read_reported, packet_told}

pub read_order : ReadOrder
read_order packet = refl

pub write_order : WriteOrder
write_order node sequence payload room = refl

pub alone_order : AloneOrder
alone_order m room = refl

pub packet_examples : PacketExamples
unfolding judged read_answer check_of sum_below all_below form_of closed_units messages_of number_of listed
packet_examples = record { status_on_example = refl; refused = refl }

-- ---- what is written is read

module _ (node sequence : ℕ) (payload : List ℕ) where
  abbrev before : List ℕ
  before = before_check node sequence payload

  abbrev pub whole : List ℕ
  whole = packet_of node sequence payload

  long : length whole ≡ length payload + 5
  long = packet_length node sequence payload

  last_byte : get_or whole (length whole - 1) 0 ≡ check_of before
  unfolding packet_of
  last_byte = get_or_at before (check_of before) [] 0 (length whole - 1) (omega (arith, long))

  bytes_before : take (length whole - 1) whole ≡ before
  unfolding packet_of
  bytes_before = take_at before (check_of before ∷ []) (length whole - 1) (omega (arith, long))

  payload_inside : payload_in whole ≡ payload
  unfolding packet_of
  payload_inside = take_at payload (check_of before ∷ []) (length payload) refl

  networks : network_ok whole ≡ true
  unfolding packet_of
  networks = refl

  size_fits : size_ok whole ≡ true
  unfolding packet_of
  size_fits = rw (le-leb 5 (length whole) (omega (arith, long)), eq-eqb (length whole) (length payload + 5) long)

  check_fits : check_ok whole ≡ true
  check_fits = eq-eqb (get_or whole (length whole - 1) 0) (check_of (take (length whole - 1) whole)) (last_byte ∙ ap check_of (sym bytes_before))

  abbrev pub parts : List ℕ → Parts
  parts p = record { node = node; sequence = sequence; payload = p; messages = messages_of p }

  parts_back : parts_of whole ≡ parts payload
  unfolding packet_of
  parts_back = ap parts payload_inside

  pub whole_read : payload_ok payload ≡ true → read_report whole (read_answer whole) ≡ reports (parts payload ∷ [])
  unfolding judged
  whole_read ok =
      let inside : payload_ok (payload_in whole) ≡ true = ap payload_ok payload_inside ∙ ok in
      read_reported whole ∙ rw (size_fits, check_fits, networks, inside) (ap (λ (q : Parts). reports (q ∷ [])) parts_back)

  written : (buf : List ℕ) → payload_ok payload ≡ true → length payload + 5 ≤ length buf
      → take (length payload + 5) (buffer_after node sequence payload buf) ≡ whole
  unfolding buffer_after judged
  written buf ok room =
      let fits = le-leb (length whole) (length buf) (omega (arith, long)) in
      rw (ok, fits) (take_at whole (drop (length whole) buf) (length payload + 5) long)

pub written_read : WrittenRead
written_read node sequence payload buf ok room = rw (written node sequence payload buf ok room) (whole_read node sequence payload ok)

-- ---- what is read is written

-- a packet by its first four bytes and the rest, which is the payload and the check byte
again : (a b c d : ℕ) (rest : List ℕ) → length rest ≡ suc d
    → get_or (a ∷ b ∷ c ∷ d ∷ rest) (length (a ∷ b ∷ c ∷ d ∷ rest) - 1) 0 ≡ check_of (take (length (a ∷ b ∷ c ∷ d ∷ rest) - 1) (a ∷ b ∷ c ∷ d ∷ rest))
    → a ≡ NETWORK → packet_of b c (take d rest) ≡ a ∷ b ∷ c ∷ d ∷ rest
unfolding packet_of
again a b c d rest size check network =
    let place : length (a ∷ b ∷ c ∷ d ∷ rest) - 1 ≡ suc (suc (suc (suc d))) = omega arith in
    let last : get_or rest d 0 ≡ check_of (a ∷ b ∷ c ∷ d ∷ take d rest) = rw place at check in
    let count : length (take d rest) ≡ d = length-take-le d rest (omega arith) in
    let head : before_check b c (take d rest) ≡ a ∷ b ∷ c ∷ d ∷ take d rest = rw (count, network) in
    let whole : take d rest ++ (get_or rest d 0 ∷ []) ≡ rest = sym (take-suc rest d 0 (omega arith)) ∙ take_all (suc d) rest (omega arith) in
    ap (λ (l : List ℕ). l ++ (check_of l ∷ [])) head
    ∙ ap (λ (k : ℕ). (a ∷ b ∷ c ∷ d ∷ take d rest) ++ (k ∷ [])) (sym last)
    ∙ ap (λ (l : List ℕ). a ∷ b ∷ c ∷ d ∷ l) whole

split : (q : List ℕ) → 5 ≤ length q → length q ≡ get_or q 3 0 + 5 → get_or q (length q - 1) 0 ≡ check_of (take (length q - 1) q) → get_or q 0 0 ≡ NETWORK
    → packet_of (get_or q 1 0) (get_or q 2 0) (payload_in q) ≡ q
split [] few size check network = absurd (omega arith)
split (a ∷ []) few size check network = absurd (omega arith)
split (a ∷ b ∷ []) few size check network = absurd (omega arith)
split (a ∷ b ∷ c ∷ []) few size check network = absurd (omega arith)
split (a ∷ b ∷ c ∷ d ∷ rest) few size check network = again a b c d rest (omega arith) check network

-- a packet of which nothing is refused
read_again : (packet : List ℕ) → number_given (read_causes packet) ≡ 0 → packet_of (get_or packet 1 0) (get_or packet 2 0) (payload_in packet) ≡ packet
read_again packet none =
    let one = none_stops _ _ _ none in
    let two = none_stops _ _ _ one.1 in
    let three = none_stops _ _ _ two.1 in
    let size = (and-eq-true_iff (leb 5 (length packet)) (eqb (length packet) (get_or packet 3 0 + 5))).0 one.0 in
    split packet (leb-true 5 (length packet) size.0) (eqb-true _ _ size.1) (eqb-true _ _ two.0) (eqb-true _ _ three.0)

pub read_written : ReadWritten
read_written packet p is =
    let told = packet_told packet p refl is in
    rw told.1 (read_again packet told.0)
