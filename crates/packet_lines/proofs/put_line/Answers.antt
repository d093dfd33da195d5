-- `put_line` meets its contract: the place is that of the definition, and the answer is to the front of the bytes kept.
use mathlib.Core.Path.{◌≡◌, refl, sym, ap, ◌∙◌}
use mathlib.Core.List.{List, [], ◌∷◌, ◌++◌, append_assoc}
use Prim.Native.Nat.{ℕ}
use native.Mathlib.Omega.{arith}
use borrow.Author.Tests.{eq-eqb, ne_eqb}
use Rattle.ground.specs.Text.{bytes_of, bytes_from}
use Rattle.text.specs.Texts.{digits_of}
use Rattle.text.proofs.PutLaws.{put_then, put_as}
use Rattle.text.proofs.TextLaws.{digits_at_most}
use Rattle.lynx_net.specs.Packets.{read_answer}
use Rattle.packet_lines.specs.declared.Line.{Line}
use Rattle.packet_lines.specs.Lines.{bad_place, bytes_named}
use Rattle.packet_lines.specs.Answers.{field, answer_text, text_by, line_text}
use Rattle.packet_lines.proofs.put_line.Goals as goal

-- where a character does not fit, and where all do
bad_text : (l : Line) (kept : List ℕ) {n : ℕ} → n ≡ bad_place l → (n ≡ 0 → ⊥)
    → digits_of n ++ (field (bytes_of "BADBYTE") ++ (10 ∷ [])) ≡ line_text l kept
unfolding line_text
bad_text l kept {n} e h =
    let answer = answer_text (read_answer (bytes_named l kept)) in
    let is : digits_of n ++ (field (bytes_of "BADBYTE") ++ (10 ∷ [])) ≡ text_by n answer =
    rw (ne_eqb n 0 h) (sym (append_assoc (digits_of n) (field (bytes_of "BADBYTE")) (10 ∷ [])))
    in
    is ∙ ap (λ (k : ℕ). text_by k answer) e

good_text : (l : Line) (kept : List ℕ) {n : ℕ} → n ≡ bad_place l → n ≡ 0 → answer_text (read_answer (bytes_named l kept)) ++ (10 ∷ []) ≡ line_text l kept
unfolding line_text
good_text l kept {n} e h =
    let answer = answer_text (read_answer (bytes_named l kept)) in
    let is : answer ++ (10 ∷ []) ≡ text_by n answer = rw (eq-eqb n 0 h) refl in
    is ∙ ap (λ (k : ℕ). text_by k answer) e

pub put_bytes-requires : goal.put_bytes-requires
put_bytes-requires c = omega (arith, digits_at_most 20 c.bad_place-place.result)

pub returns-then-place-ne0 : goal.returns-then-place-ne0
unfolding bytes_of bytes_from
returns-then-place-ne0 c =
    let args = c.args in
    let n = c.bad_place-place.result in
    let put = put_then c.put_number-a.ensures c.put_bytes.ensures in
    record {
      text = put_as (bad_text args.line args.kept.now c.bad_place-place.ensures c.if-place-ne0.true) put;
      room = omega (arith, put.place, digits_at_most 20 n);
    }

pub returns-clause-text : goal.returns-clause-text
returns-clause-text c =
    let args = c.args in
    let named = ap (λ (packet : List ℕ). answer_text (read_answer packet)) c.front.ensures in
    let put = put_then (put_as named c.put_answer-a.ensures.text) c.put_bytes-2.ensures in
    put_as (good_text args.line args.kept.now c.bad_place-place.ensures c.if-place-ne0.false) put
