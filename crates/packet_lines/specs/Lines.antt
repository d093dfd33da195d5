-- What a line of the packet program names: bytes, each two hexadecimal digits next to each other.
use Rattle.std.specs.Prelude.{ℕ, ◌+◌, ◌-◌, ◌*◌, Bool, ◌&&◌, ◌||◌, List, [], ◌∷◌, eqb, leb, ltb, take, set}
use Rattle.ground.specs.Choice.{pick}
use Rattle.packet_lines.specs.declared.Line.{Line}

-- ---- characters

-- 0 to 9, A to F, a to f; 16 for any other
unfoldable pub digit_of : ℕ → ℕ
digit_of b =
    pick (leb 48 b && leb b 57) (b - 48)
    (pick (leb 65 b && leb b 70) (b - 55)
    (pick (leb 97 b && leb b 102) (b - 87) 16))

abbrev pub is_digit : ℕ → Bool
is_digit b = ltb (digit_of b) 16

-- a space or a tab: it may stand between bytes
abbrev pub is_blank : ℕ → Bool
is_blank b = eqb b 32 || eqb b 9

-- it is passed over, and has no place
abbrev pub is_return : ℕ → Bool
is_return b = eqb b 13

-- ---- one character

-- the bytes that are kept: a packet has 260 at most, and a longer line is refused whatever follows
abbrev pub KEPT : ℕ
KEPT = 261

abbrev pub GREATEST : ℕ
GREATEST = 18446744073709551615

abbrev pub place_after : ℕ → ℕ
place_after place = pick (ltb place GREATEST) (place + 1) place

-- a line before any character: no byte, no digit that waits, none that does not fit
abbrev pub line_start : Line
line_start = record { count = 0; high = 16; place = 0; bad = 0 }

-- a digit waits for its second
abbrev pub waits : Line → Bool
waits l = ltb l.high 16

-- the line after a character at its own place: so many bytes, the digit that waits, and 0 or that place where the character does not fit
abbrev pub moved_to : Line → ℕ → ℕ → ℕ → Line
moved_to l count high bad = record { count = count; high = high; place = place_after l.place; bad = bad }

abbrev pub unfit : Line → Line
unfit l = moved_to l l.count 16 (place_after l.place)

-- where no digit waits: a digit, a blank, or a character that does not fit
unfoldable pub first_of : Line → ℕ → Line
first_of l b = pick (is_digit b) (moved_to l l.count (digit_of b) 0) (pick (is_blank b) (moved_to l l.count 16 0) (unfit l))

-- where one waits: its second, which makes a byte; all else does not fit
abbrev pub count_after : ℕ → ℕ
count_after n = pick (ltb n KEPT) (n + 1) n

unfoldable pub second_of : Line → ℕ → Line
second_of l b = pick (is_digit b) (moved_to l (count_after l.count) 16 0) (unfit l)

-- after a character that does not fit none is looked at
unfoldable pub line_after : Line → ℕ → Line
line_after l b =
    pick (is_return b) l
    (pick (eqb l.bad 0) (pick (waits l) (second_of l b) (first_of l b))
    (moved_to l l.count l.high l.bad))

-- the bytes kept: one more where a character is the second digit of a byte and there is room
unfoldable pub stored : ℕ → ℕ → List ℕ → List ℕ
stored n byte kept = pick (ltb n KEPT) (set kept n byte) kept

unfoldable pub kept_by_second : Line → ℕ → List ℕ → List ℕ
kept_by_second l b kept = pick (is_digit b) (stored l.count (l.high * 16 + digit_of b) kept) kept

unfoldable pub kept_after : Line → ℕ → List ℕ → List ℕ
kept_after l b kept = pick (is_return b) kept (pick (eqb l.bad 0) (pick (waits l) (kept_by_second l b kept) kept) kept)

-- ---- a whole line

-- where a line stands, and the bytes that are kept
pub record Taken : Type 0 where
  pub line : Line
  pub kept : List ℕ

abbrev pub takes : Taken → ℕ → Taken
takes t b = record { line = line_after t.line b; kept = kept_after t.line b t.kept }

unfoldable pub taken_from : Taken → List ℕ → Taken
taken_from t [] = t
taken_from t (b ∷ bs) = taken_from (takes t b) bs

-- the place of the first character that does not fit, 0 for none: after a lone digit at the line's end the place past it
abbrev pub bad_place : Line → ℕ
bad_place l = pick (eqb l.bad 0) (pick (waits l) (place_after l.place) 0) l.bad

-- the bytes that a line names where all of it fits
abbrev pub bytes_named : Line → List ℕ → List ℕ
bytes_named l kept = take l.count kept
