-- Laws of lines: bytes written in hexadecimal are read as these bytes.
--
--     digit_back               a digit that is printed is read as its number
--     first_digit, second_digit, blank      one character of such a line
--     one_byte                 two digits and a blank
--     hex_is_read              HexIsRead
use mathlib.Core.Path.{◌≡◌, refl, sym, ap, subst, ◌∙◌}
use mathlib.Core.Bool.{Bool, true, false, not, ◌&&◌, and-eq-true_iff}
use mathlib.Core.List.{List, [], ◌∷◌, ◌++◌, append-nil, append_assoc}
use Prim.Native.Nat.{ℕ, suc, ◌+◌, ◌*◌, ◌/◌, ◌%◌, ◌≤◌, ◌<◌}
use native.Mathlib.Nat.{div-add-mod'}
use native.Mathlib.Numerals.{add-one}
use native.Mathlib.Omega.{arith}
use borrow.Author.Tests.{lt-ltb, ltb-true, eqb-true, not-true}
use lib.Dec.{eqb, ltb}
use lib.ListN.{length, get_or, take, set, length-set}
use lib.Seq.{take-suc-set}
use Rattle.ground.specs.Records.{all_below}
use Rattle.ground.proofs.Records.{below_at}
use Rattle.text.specs.Texts.{hex_digit}
use Rattle.lynx_net.specs.Packets.{read_answer}
use Rattle.packet_lines.specs.Lines.{digit_of, is_return, KEPT, place_after, first_of, second_of, line_after, stored, kept_by_second, kept_after}
use Rattle.packet_lines.specs.Lines.{Taken, takes, taken_from, bad_place, bytes_named}
use Rattle.packet_lines.specs.Answers.{answer_text, text_by, line_text}
use Rattle.packet_lines.specs.Statements.{hex_line, line_taken, HexIsRead}

-- ---- one character

-- a line of which all has fitted so far: n bytes, and a digit that waits or 16
abbrev at : ℕ → ℕ → ℕ → List ℕ → Taken
at n high place kept = record { line = record { count = n; high = high; place = place; bad = 0 }; kept = kept }

-- of each of the sixteen digits: it is read as its number, and is no carriage return
abbrev back_at : ℕ → Bool
back_at d = eqb (digit_of (hex_digit d)) d && not (is_return (hex_digit d))

digits_back : all_below 16 back_at ≡ true
unfolding all_below digit_of
digits_back = refl

digit_back : (d : ℕ) → d < 16 → (digit_of (hex_digit d) ≡ d) × (is_return (hex_digit d) ≡ false)
digit_back d h =
    let both = (and-eq-true_iff (eqb (digit_of (hex_digit d)) d) (not (is_return (hex_digit d)))).0 (below_at back_at 16 digits_back d h) in
    (eqb-true (digit_of (hex_digit d)) d both.0, not-true (is_return (hex_digit d)) both.1)

-- a character that is read as the digit d
abbrev Reads : ℕ → ℕ → Type 0
Reads c d = (digit_of c ≡ d) × (is_return c ≡ false)

first_digit : (n place : ℕ) (kept : List ℕ) (c d : ℕ) → Reads c d → d < 16 → takes (at n 16 place kept) c ≡ at n d (place_after place) kept
unfolding line_after first_of kept_after
first_digit n place kept c d is low = rw (is.1, is.0, lt-ltb d 16 low) refl

second_digit : (n high place : ℕ) (kept : List ℕ) (c d : ℕ) → n < KEPT → high < 16 → Reads c d → d < 16
    → takes (at n high place kept) c ≡ at (n + 1) 16 (place_after place) (set kept n (high * 16 + d))
unfolding line_after second_of kept_after kept_by_second stored
second_digit n high place kept c d few first is low = rw (is.1, is.0, lt-ltb d 16 low, lt-ltb high 16 first, lt-ltb n KEPT few) refl

blank : (n place : ℕ) (kept : List ℕ) → takes (at n 16 place kept) 32 ≡ at n 16 (place_after place) kept
unfolding line_after first_of kept_after digit_of
blank n place kept = refl

-- two digits and a blank
one_byte : (n place : ℕ) (kept : List ℕ) (b : ℕ) → n < KEPT → b < 256
    → takes (takes (takes (at n 16 place kept) (hex_digit (b / 16))) (hex_digit (b % 16))) 32
    ≡ at (n + 1) 16 (place_after (place_after (place_after place))) (set kept n b)
one_byte n place kept b few byte =
    let high : b / 16 < 16 = omega arith in
    let low : b % 16 < 16 = omega arith in
    ap (λ (t : Taken). takes (takes t (hex_digit (b % 16))) 32) (first_digit n place kept (hex_digit (b / 16)) (b / 16) (digit_back (b / 16) high) high)
    ∙ ap (λ (t : Taken). takes t 32) (second_digit n (b / 16) (place_after place) kept (hex_digit (b % 16)) (b % 16) few high (digit_back (b % 16) low) low)
    ∙ blank (n + 1) (place_after (place_after place)) (set kept n (b / 16 * 16 + b % 16))
    ∙ ap (λ (x : ℕ). at (n + 1) 16 (place_after (place_after (place_after place))) (set kept n x)) (div-add-mod' b 16)

-- ---- the bytes of a line

-- that there is no character that does not fit, and the bytes
abbrev Told : List ℕ → Taken → Type 0
Told bytes t = (bad_place t.line ≡ 0) × (bytes_named t.line t.kept ≡ bytes)

all_told : (bytes before : List ℕ) (n place : ℕ) (kept : List ℕ) → ((k : ℕ) → k < length bytes → get_or bytes k 0 < 256) → n + length bytes ≤ KEPT
    → length kept ≡ KEPT → take n kept ≡ before → Told (before ++ bytes) (taken_from (at n 16 place kept) (hex_line bytes))
unfolding taken_from hex_line
all_told [] before n place kept below few full is = (refl, is ∙ sym (append-nil before))
all_told (b ∷ bs) before n place kept below few full is =
    let rest =
    all_told bs (before ++ (b ∷ [])) (n + 1) (place_after (place_after (place_after place))) (set kept n b)
    (λ k h. below (suc k) (omega arith)) (omega arith) (length-set kept n b ∙ full)
    (ap (λ (k : ℕ). take k (set kept n b)) (add-one n) ∙ take-suc-set kept n b (omega arith) ∙ ap (λ (l : List ℕ). l ++ (b ∷ [])) is)
    in
    subst (λ (t : Taken). Told (before ++ (b ∷ bs)) (taken_from t (hex_line bs))) (sym (one_byte n place kept b (omega arith) (below 0 (omega arith))))
    (subst (λ (l : List ℕ). Told l (taken_from (at (n + 1) 16 (place_after (place_after (place_after place))) (set kept n b)) (hex_line bs)))
    (append_assoc before (b ∷ []) bs) rest)

line_printed : (bytes : List ℕ) (t : Taken) → Told bytes t → line_text t.line t.kept ≡ answer_text (read_answer bytes) ++ (10 ∷ [])
unfolding line_text
line_printed bytes t told =
    ap (λ (n : ℕ). text_by n (answer_text (read_answer (bytes_named t.line t.kept)))) told.0
    ∙ ap (λ (l : List ℕ). answer_text (read_answer l) ++ (10 ∷ [])) told.1

pub hex_is_read : HexIsRead
hex_is_read bytes kept ok few full =
    let below : (k : ℕ) → k < length bytes → get_or bytes k 0 < 256 =
    λ k h. ltb-true (get_or bytes k 0) 256 (below_at (λ i. ltb (get_or bytes i 0) 256) (length bytes) ok k h)
    in
    let told = all_told bytes [] 0 0 kept below (omega arith) full refl in
    record { fits = told.0; names_bytes = told.1; printed = line_printed bytes (line_taken kept (hex_line bytes)) told }
