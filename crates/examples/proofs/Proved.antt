-- P1 to P12 hold: each is computed.
use mathlib.Core.Path.{◌≡◌, refl}
use mathlib.Core.List.{[], ◌∷◌, flat_map}
use Rattle.ground.specs.Refusals.{judged}
use Rattle.message.specs.Codes.{code_of, line_codes, place_in}
use Rattle.burst.specs.Frames.{bits_of, pairs_of, frame_of}
use Rattle.radio.specs.Codes.{nibble_of, house_nibbles, sixteen, commands_of, commands, codes, code_place}
use Rattle.radio.specs.Answers.{write_answer, read_answer}
use Rattle.plan.specs.Plans.{extended_plan, plan_answer}
use Rattle.record.specs.ModuleTable.{step_record}
use Rattle.examples.specs.LineExamples.{LineExamples}

-- P7's bytes stand nowhere among the 544 codes
none_of_them : code_place (0x60 ∷ 0x9F ∷ 0x01 ∷ 0xFE ∷ []) ≡ 544
unfolding nibble_of house_nibbles sixteen commands_of commands codes code_place place_in flat_map
none_of_them = refl

pub line_examples : LineExamples
unfolding judged code_of line_codes bits_of pairs_of frame_of nibble_of house_nibbles write_answer read_answer extended_plan plan_answer step_record
line_examples = (refl, (refl, (refl, (refl, (refl, (refl, (rw none_of_them, (refl, (refl, (refl, (refl, (refl, tt))))))))))))
