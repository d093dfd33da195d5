-- Laws of what is printed for a packet.
--
--     fields-more      one message more
--     answer_few       no packet has more than seventeen messages
--     example_printed  ExamplePrinted
use Rattle.std.specs.Prelude.{Result, Ok, Err}
use mathlib.Core.Path.{◌≡◌, refl, sym, ap, subst, ◌∙◌}
use mathlib.Core.List.{List, [], ◌∷◌, ◌++◌, append-nil, append_assoc}
use Prim.Native.Nat.{ℕ, zero, suc, ◌+◌, ◌≤◌}
use native.Mathlib.Omega.{arith}
use lib.ListN.{length, take}
use Rattle.ground.specs.Records.{all_below, sum_below}
use Rattle.ground.specs.Refusals.{judged}
use Rattle.ground.specs.declared.Refusal.{Refusal}
use Rattle.ground.specs.Text.{bytes_of, bytes_from}
use Rattle.ground.proofs.Causes.{judged_holds}
use Rattle.message.specs.Codes.{name_at, function_names}
use Rattle.message.specs.declared.Message.{Message}
use Rattle.text.specs.Texts.{digits_up_to, message_text}
use Rattle.lynx_net.specs.declared.Packet.{Packet}
use Rattle.lynx_net.specs.declared.payload.Form.{Form}
use Rattle.lynx_net.specs.declared.payload.Form.TheVariants.{Addresses, Units, ExtendedCode, EveryHouse, Unknown}
use Rattle.lynx_net.specs.declared.payload.Messages.{Messages}
use Rattle.lynx_net.specs.Payloads.{form_of, form_in, closed_units}
use Rattle.lynx_net.specs.Lists.{number_of, unit_count, ending_list, listed, nth, held_by}
use Rattle.lynx_net.specs.Packets.{check_of, payload_in, read_causes, packet_in, read_answer}
use Rattle.lynx_net.proofs.ListLaws.{count_by}
use Rattle.packet_lines.specs.Answers.{field, field_at, fields_of, packet_text, answer_text}
use Rattle.packet_lines.specs.Statements.{status_on, ExamplePrinted}

-- ---- messages one after the other

pub fields-more : (l : List Message) (i : ℕ) → fields_of (take (suc i) l) ≡ fields_of (take i l) ++ field_at (nth l i)
unfolding fields_of
fields-more [] zero = refl
fields-more [] (suc i) = refl
fields-more (m ∷ ms) zero = append-nil (field (message_text 9 m))
fields-more (m ∷ ms) (suc i) =
    ap (λ (t : List ℕ). field (message_text 9 m) ++ t) (fields-more ms i)
    ∙ sym (append_assoc (field (message_text 9 m)) (fields_of (take i ms)) (field_at (nth ms i)))

-- ---- how many messages a packet has

listed_count : (ms : Messages) → length (listed ms) ≡ unit_count ms + length (ending_list ms.ending)
listed_count ms = sym (count_by ms {n = unit_count ms} refl {e = ms.ending} refl)

held_few : (f : Form) (p : List ℕ) → length (listed (held_by f p)) ≤ 17
held_few Addresses p = omega (arith, listed_count (held_by Addresses p))
held_few (Units f most) p = omega (arith, listed_count (held_by (Units f most) p))
held_few (ExtendedCode command) p = omega (arith, listed_count (held_by (ExtendedCode command) p))
held_few (EveryHouse f) p = omega (arith, listed_count (held_by (EveryHouse f) p))
held_few Unknown p = omega (arith, listed_count (held_by Unknown p))

-- of an answer: the messages of the packet are few
abbrev Few : Result Packet Refusal → Type 0
Few (Ok p) = length (listed p.messages) ≤ 17
Few (Err why) = Unit {0}

few : (packet : List ℕ) → Few (read_answer packet)
unfolding read_answer
few packet =
    judged_holds Few (Ok (packet_in packet)) Err (read_causes packet) (λ z. held_few (form_in (payload_in packet)) (payload_in packet)) (λ why. tt)

pub answer_few : (packet : List ℕ) (p : Packet) → read_answer packet ≡ Ok p → length (listed p.messages) ≤ 17
answer_few packet p e = subst Few e (few packet)

-- ---- 02's two packets

refused : answer_text (read_answer (status_on 0xCC)) ≡ bytes_of "20"
unfolding read_answer judged check_of sum_below digits_up_to bytes_of bytes_from
refused = refl

pub example_printed : ExamplePrinted
unfolding read_answer judged check_of sum_below form_of closed_units all_below listed number_of packet_text fields_of message_text bytes_of bytes_from name_at function_names
example_printed = record { read = refl; refused = refused }
