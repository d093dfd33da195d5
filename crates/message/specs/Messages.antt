-- Messages (01, 'Code numbers'): which of them a routine takes.
use Rattle.std.specs.Prelude.{◌≡◌, ◌↔◌, Bool, true, false, ◌&&◌, eqb, leb}
use Rattle.message.specs.Codes.{function_code}
use Rattle.message.specs.declared.Message.{Message}
use Rattle.message.specs.declared.Message.TheVariants.{Address, Function as Command, Extended}

-- "an extended message (house, unit, data byte, command byte). Houses and units are numbers 0 to 15." Every message of the code has its bytes by
-- its type, so MESSAGE, 2, is given exactly for a "house or unit above 15".
abbrev pub message_ok : Message → Bool
message_ok (Address h u) = leb h 15 && leb u 15
message_ok (Command h f) = leb h 15
message_ok (Extended h u d c) = (leb h 15 && leb u 15) && (leb d 255 && leb c 255)

-- whether two messages are one and the same
abbrev pub same_message : Message → Message → Bool
same_message (Address h u) (Address g v) = eqb h g && eqb u v
same_message (Command h f) (Command g k) = eqb h g && eqb (function_code f) (function_code k)
same_message (Extended h u d c) (Extended g v e b) = eqb h g && eqb u v && eqb d e && eqb c b
same_message (Address h u) (Command g k) = false
same_message (Address h u) (Extended g v e b) = false
same_message (Command h f) (Address g v) = false
same_message (Command h f) (Extended g v e b) = false
same_message (Extended h u d c) (Address g v) = false
same_message (Extended h u d c) (Command g k) = false

-- they are exactly where the test holds: proofs/CodeLaws.antt
abbrev pub SameIsEqual : Type 0
SameIsEqual = (m n : Message) → (same_message m n ≡ true) ↔ (m ≡ n)
