-- The lines of the trace program (01, 'Line examples'), as bytes.
use Rattle.std.specs.Prelude.{ℕ, ◌-◌, List, [], ◌∷◌, ◌++◌, leb}
use Rattle.ground.specs.Choice.{pick}
use Rattle.ground.specs.Text.{bytes_of}
use Rattle.text.specs.Texts.{digits_of, message_text}
use Rattle.receiver.specs.Receivers.{event_number}
use Rattle.receiver.specs.declared.Event.{Event}
use Rattle.receiver.specs.declared.Event.TheVariants.{Nothing, Message as Gives, Repeat, BrokenPair, BrokenUnsupported, Refused}
use Rattle.trace_lines.specs.declared.Line.{Line}
use Rattle.trace_lines.specs.declared.Line.TheVariants.{Message as Says, Repeat as Repeated, BrokenPair as Unequal, BrokenUnsupported as Unread, BadByte}

-- "fields parted by tabs"
abbrev pub field : List ℕ → List ℕ
field text = 9 ∷ text

-- what follows the number: the kind and its fields; "BROKEN gives 10 or 11"
unfoldable pub fields_of : Line → List ℕ
fields_of (Says m) = field (message_text 9 m)
fields_of Repeated = field (bytes_of "REPEAT")
fields_of Unequal = field (bytes_of "BROKEN") ++ field (digits_of (event_number BrokenPair))
fields_of Unread = field (bytes_of "BROKEN") ++ field (digits_of (event_number BrokenUnsupported))
fields_of BadByte = field (bytes_of "BADBYTE")

-- a whole line: the number of the half-cycle, what follows it, and the line's end
unfoldable pub line_text : ℕ → Line → List ℕ
line_text n line = digits_of n ++ (fields_of line ++ (10 ∷ []))

-- "One line an event"; NOTHING and a refusal have none
abbrev pub event_text : ℕ → Event → List ℕ
event_text n Nothing = []
event_text n (Gives m) = line_text n (Says m)
event_text n Repeat = line_text n Repeated
event_text n BrokenPair = line_text n Unequal
event_text n BrokenUnsupported = line_text n Unread
event_text n (Refused why) = []

-- the bytes of the buffer that lines are put into, and the most that a line has: LinesFit of Trace.antt
abbrev pub SIZE : ℕ
SIZE = 65536

abbrev pub LONGEST : ℕ
LONGEST = 64

-- the last place of the buffer at which a line may begin
abbrev pub LAST : ℕ
LAST = SIZE - LONGEST

-- a text that is put only where a line may begin
unfoldable pub room_for : ℕ → List ℕ → List ℕ
room_for at text = pick (leb at LAST) text []
