-- `x10_burst`, `x10_apply` and `x10_station_load`: a message in five numbers, handed on to the routine, whose causes alone refuse it.
use Rattle.std.specs.Prelude.{◌≡◌, false, Result, Ok, Err}
use Rattle.message.specs.Messages.{message_ok}
use Rattle.message.specs.declared.Message.{Message}
use Rattle.message.specs.declared.Message.TheVariants.{Address}
use Rattle.ground.specs.declared.Refusal.{Refusal}

-- handed on for numbers that make no message: one of house 16, which every routine refuses by 2 in its own order
abbrev pub no_message : Message
no_message = Address 16 0

-- the message that is handed on
abbrev pub handed_on : Result Message Refusal → Message
handed_on (Ok m) = m
handed_on (Err why) = no_message

-- "house or unit above 15", wherever a message is judged: proofs/Refusals.antt
abbrev pub NoMessageRefused : Type 0
NoMessageRefused = message_ok no_message ≡ false
