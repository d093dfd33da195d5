-- The line examples P1 to P12 (01, 'Line examples'), as one list under a single statement.
use Rattle.std.specs.Prelude.{ℕ, ◌≡◌, List, [], ◌∷◌, replicate, Result, Ok, Err}
use Rattle.ground.specs.Refusals.{reports}
use Rattle.message.specs.declared.Function.TheVariants.{On, Dim, Bright}
use Rattle.message.specs.declared.Message.{Message}
use Rattle.message.specs.declared.Message.TheVariants.{Address, Function as Command, Extended}
use Rattle.burst.specs.Frames.{frame_of}
use Rattle.radio.specs.Answers.{write_answer, write_report, read_answer, read_report}
use Rattle.radio.specs.declared.RadioCommand.{RadioCommand}
use Rattle.radio.specs.declared.RadioCommand.TheVariants.{On as RadioOn, Off as RadioOff}
use Rattle.plan.specs.Plans.{plan_answer}
use Rattle.plan.specs.declared.Plan.{Plan}
use Rattle.plan.specs.declared.Plan.TheVariants.{Run, Move}
use Rattle.record.specs.Layout.{GROUPS}
use Rattle.record.specs.ModuleTable.{lit_of, step_record}
use Rattle.record.specs.declared.Record.{Record}
use Rattle.ground.specs.declared.Refusal.{Refusal}

-- an addressed module of this kind (1 lamp, 2 appliance) at this level, in no group
abbrev pub module_of : ℕ → ℕ → Record
module_of kind level =
    let none : List ℕ = replicate GROUPS 0 in
    record { kind = kind; level = level; addressed = 1; groups = record { mask = 0; presets = none; references = none } }

abbrev pub LAMP : ℕ
LAMP = 1

abbrev pub APPLIANCE : ℕ
APPLIANCE = 2

-- the level of unit 1's module once a plan is carried out, in a house that has no other and has heard no command since the address
abbrev pub level_after : Result Plan Refusal → Record → ℕ
level_after (Ok (Run a)) r = (step_record a (record { heard = 0; lit = lit_of r }) 0 r).level
level_after (Ok (Move a)) r = r.level
level_after (Err why) r = r.level

-- an example: a message and its frame; a radio command and its four bytes; four bytes and the number that refuses them; a message of
-- house A, a module of A1 and the level that the message leaves
pub data Example : Type 0 where
  frame : Message → List ℕ → Example
  radio : RadioCommand → List ℕ → Example
  refused : List ℕ → ℕ → Example
  level : Message → Record → ℕ → Example

-- what an example says, by the definitions of the contracts
abbrev pub Says : Example → Type 0
Says (frame m halves) = frame_of m ≡ halves
Says (radio k bytes) = write_report (write_answer k) ≡ reports bytes
Says (refused bytes n) = read_report (read_answer bytes) ≡ record { number = n; values = [] }
Says (level m r x) = level_after (plan_answer m) r ≡ x

abbrev pub AllSay : List Example → Type 0
AllSay [] = Unit {0}
AllSay (e ∷ es) = Says e × AllSay es

-- P1 address A1, P2 A on, P3 address M13; P4 radio A1 on, P5 A5 off, P6 P16 off, P7 refused 14; P8 lamp 2, dim, P9 lamp 0, dim, P10 lamp 62,
-- bright, P11 lamp, 31 with C0, P12 appliance, 31 with 05
abbrev pub examples : List Example
examples =
    frame (Address 0 0) (1 ∷ 1 ∷ 1 ∷ 0 ∷ 0 ∷ 1 ∷ 1 ∷ 0 ∷ 1 ∷ 0 ∷ 0 ∷ 1 ∷ 0 ∷ 1 ∷ 1 ∷ 0 ∷ 1 ∷ 0 ∷ 0 ∷ 1 ∷ 0 ∷ 1 ∷ [])
    ∷ frame (Command 0 On) (1 ∷ 1 ∷ 1 ∷ 0 ∷ 0 ∷ 1 ∷ 1 ∷ 0 ∷ 1 ∷ 0 ∷ 0 ∷ 1 ∷ 0 ∷ 1 ∷ 0 ∷ 1 ∷ 1 ∷ 0 ∷ 0 ∷ 1 ∷ 1 ∷ 0 ∷ [])
    ∷ frame (Address 12 12) (1 ∷ 1 ∷ 1 ∷ 0 ∷ 0 ∷ 1 ∷ 0 ∷ 1 ∷ 0 ∷ 1 ∷ 0 ∷ 1 ∷ 0 ∷ 1 ∷ 0 ∷ 1 ∷ 0 ∷ 1 ∷ 0 ∷ 1 ∷ 0 ∷ 1 ∷ [])
    ∷ radio (RadioOn 0 0) (0x60 ∷ 0x9F ∷ 0x00 ∷ 0xFF ∷ [])
    ∷ radio (RadioOff 0 4) (0x60 ∷ 0x9F ∷ 0x60 ∷ 0x9F ∷ [])
    ∷ radio (RadioOff 15 15) (0x34 ∷ 0xCB ∷ 0x78 ∷ 0x87 ∷ [])
    ∷ refused (0x60 ∷ 0x9F ∷ 0x01 ∷ 0xFE ∷ []) 14
    ∷ level (Command 0 Dim) (module_of LAMP 2) 1
    ∷ level (Command 0 Dim) (module_of LAMP 0) 60
    ∷ level (Command 0 Bright) (module_of LAMP 62) 63
    ∷ level (Extended 0 0 0xC0 0x31) (module_of LAMP 40) 0
    ∷ level (Extended 0 0 0x05 0x31) (module_of APPLIANCE 0) 63
    ∷ []

abbrev pub LineExamples : Type 0
LineExamples = AllSay examples
