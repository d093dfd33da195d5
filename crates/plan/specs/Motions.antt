-- What a message of type 0 asks of the shutters (02, A1; XTC798, 'TYPE = 0 Shutters and Sunshades'), in the order of XTC798's table. What a motion
-- makes of a shutter is in shutter's Shutters.
use Rattle.std.specs.Prelude.{ℕ, ◌/◌, ◌%◌, Bool, ◌||◌, eqb, leb, Result, Ok, Err}
use Rattle.ground.specs.Choice.{pick}
use Rattle.ground.specs.declared.Refusal.TheVariants as refusal
use Rattle.plan.specs.declared.Motion.{Motion}
use Rattle.plan.specs.declared.Motion.TheVariants.{SelfTest, OpenProtected, Limit, OpenUnprotected, OpenHouse, OpenAll}
use Rattle.plan.specs.declared.Motion.TheVariants.{Include, Begin, Exclude, ExcludeAll, CloseHouse, CloseAll}
use Rattle.plan.specs.declared.Plan.{Plan}
use Rattle.plan.specs.declared.Plan.TheVariants.{Move}
use Rattle.ground.specs.declared.Refusal.{Refusal}

-- "x x x D D D D D": D is the data's low five bits; "L4 L2 L1": L is its top three
abbrev pub opening_in : ℕ → ℕ
opening_in d = d % 32

abbrev pub lifestyle_in : ℕ → ℕ
lifestyle_in d = d / 32

-- "D = 0 is closed, D = 25 is fully open"
abbrev pub OPEN : ℕ
OPEN = 25

-- by unit, data and command of type 0: "0E and 0F are heard only"; 00, 06 and 0D are NOT CARRIED
unfoldable pub motion_plan : ℕ → ℕ → ℕ → Result Plan Refusal
motion_plan u d c =
    pick (eqb c 0x01) (Ok (Move (OpenProtected u (opening_in d))))
    (pick (eqb c 0x02) (Ok (Move (Limit u (opening_in d))))
    (pick (eqb c 0x03) (Ok (Move (OpenUnprotected u (opening_in d))))
    (pick (eqb c 0x04) (Ok (Move OpenHouse))
    (pick (eqb c 0x05) (Ok (Move OpenAll))
    (pick (eqb c 0x07) (Ok (Move (Include u (lifestyle_in d) (opening_in d))))
    (pick (eqb c 0x08) (Ok (Move (Begin (lifestyle_in d))))
    (pick (eqb c 0x09) (Ok (Move (Exclude u (lifestyle_in d))))
    (pick (eqb c 0x0A) (Ok (Move ExcludeAll))
    (pick (eqb c 0x0B) (Ok (Move CloseHouse))
    (pick (eqb c 0x0C) (Ok (Move CloseAll))
    (pick (eqb c 0x0E || eqb c 0x0F) (Ok (Move SelfTest))
    (Err refusal.NotCarried))))))))))))

-- "01, 02, 03 or 07 carries": the opening that a motion brings, and 0 where it brings none
abbrev pub brought_by : Motion → ℕ
brought_by (OpenProtected u x) = x
brought_by (Limit u x) = x
brought_by (OpenUnprotected u x) = x
brought_by (Include u l x) = x
brought_by OpenHouse = 0
brought_by OpenAll = 0
brought_by (Begin l) = 0
brought_by (Exclude u l) = 0
brought_by ExcludeAll = 0
brought_by CloseHouse = 0
brought_by CloseAll = 0
brought_by SelfTest = 0

-- whether there is such an opening
abbrev pub motion_fits : Motion → Bool
motion_fits a = leb (brought_by a) OPEN
