-- The length of a line.
--
--     fields_at_most     no line has more than 28 bytes after its number and before its end
--     lines_fit          no byte prints a line of more than 64: LinesFit
use mathlib.Core.Path.{◌≡◌, refl}
use mathlib.Core.Bool.{true}
use mathlib.Core.List.{List}
use Prim.Native.Nat.{ℕ, ◌-◌, ◌≤◌, ◌<◌}
use native.Mathlib.Omega.{arith}
use mir.Val.{Val}
use denote.Laws.{Is}
use denote.Enum.Declared as Declared
use lib.Dec.{lit<, lit≤}
use lib.ListN.{length, length-append}
use Rattle.ground.specs.Text.{bytes_of, bytes_from}
use Rattle.ground.proofs.Choices.{pick_both, both_below}
use Rattle.message.specs.Messages.{message_ok}
use Rattle.message.specs.declared.Message.{Message}
use Rattle.message.specs.declared.Message.TheVariants.{Address, Function as Command, Extended}
use Rattle.message.proofs.CodeLaws.{extended_below}
use Rattle.receiver.specs.declared.Event.{Event}
use Rattle.receiver.specs.declared.Event.TheVariants.{Nothing, Message as Gives, Repeat, BrokenPair, BrokenUnsupported, Refused}
use Rattle.receiver.proofs.ReceiverLaws.{gives_valid}
use Rattle.text.specs.Texts.{digits_up_to, unit_of}
use Rattle.text.proofs.TextLaws.{unit_told, fits_in_text}
use Rattle.trace_lines.specs.Lines.{fields_of, line_text, event_text, LONGEST}
use Rattle.trace_lines.specs.Trace.{is_half, is_skipped, printed, LinesFit}
use Rattle.trace_lines.specs.declared.Line.{Line}
use Rattle.trace_lines.specs.declared.Line.TheVariants.{Message as Says, Repeat as Repeated, BrokenPair as Unequal, BrokenUnsupported as Unread, BadByte}
use Rattle.trace_lines.specs.contracts.Line as L

-- the unit of the message that a line gives
abbrev unit_in : Line → ℕ
unit_in (Says m) = unit_of m
unit_in Repeated = 0
unit_in Unequal = 0
unit_in Unread = 0
unit_in BadByte = 0

fields_by_unit : (line : Line) → unit_in line < 256 → length (fields_of line) ≤ 28
unfolding fields_of bytes_of bytes_from digits_up_to
fields_by_unit (Says m) t = omega (arith, fits_in_text.message 9 m t)
fields_by_unit Repeated t = omega arith
fields_by_unit Unequal t = omega arith
fields_by_unit Unread t = omega arith
fields_by_unit BadByte t = omega arith

-- the type of a line tells that the unit of its message is a byte
pub fields_at_most : (line : Line) (vs : List Val) → Is (Declared.row L.the_type) line vs → length (fields_of line) ≤ 28
fields_at_most (Says m) vs p = fields_by_unit (Says m) (unit_told m _ p.1.1.1.1.0)
fields_at_most Repeated vs p = fields_by_unit Repeated (lit< tt)
fields_at_most Unequal vs p = fields_by_unit Unequal (lit< tt)
fields_at_most Unread vs p = fields_by_unit Unread (lit< tt)
fields_at_most BadByte vs p = fields_by_unit BadByte (lit< tt)

-- ---- whole lines

line_at_most : (n : ℕ) (line : Line) → unit_in line < 256 → length (line_text n line) ≤ LONGEST
unfolding line_text
line_at_most n line t = simp length-append (omega (arith, fits_in_text.decimal n, fields_by_unit line t))

-- a message that is valid has a unit of at most 15
valid_unit : (m : Message) → message_ok m ≡ true → unit_of m < 256
valid_unit (Address h u) ok = omega (arith, (both_below h u ok).1)
valid_unit (Command h f) ok = lit< tt
valid_unit (Extended h u d c) ok = omega (arith, (extended_below h u d c ok).1)

event_at_most : (n : ℕ) (e : Event) → ((m : Message) → e ≡ Gives m → message_ok m ≡ true) → length (event_text n e) ≤ LONGEST
event_at_most n Nothing ok = lit≤ tt
event_at_most n (Gives m) ok = line_at_most n (Says m) (valid_unit m (ok m refl))
event_at_most n Repeat ok = line_at_most n Repeated (lit< tt)
event_at_most n BrokenPair ok = line_at_most n Unequal (lit< tt)
event_at_most n BrokenUnsupported ok = line_at_most n Unread (lit< tt)
event_at_most n (Refused why) ok = lit≤ tt

pub lines_fit : LinesFit
unfolding printed
lines_fit p b =
    let few : List ℕ → Type 0 = λ l. length l ≤ LONGEST in
    pick_both few p.stopped _ _ (lit≤ tt)
    (pick_both few (is_half b) _ _ (event_at_most p.number _ (gives_valid p.receiver (b - 48)))
    (pick_both few (is_skipped b) _ _ (lit≤ tt) (line_at_most p.number BadByte (lit< tt))))
