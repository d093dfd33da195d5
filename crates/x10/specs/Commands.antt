-- A radio command as three numbers, and as three bytes: command (0 on, 1 off, 2 bright, 3 dim), house, unit.
use Rattle.std.specs.Prelude.{ℕ, ◌<◌, ◌≡◌, false, List, [], ◌∷◌, eqb}
use Rattle.ground.specs.Choice.{pick}
use Rattle.radio.specs.Codes.{command_ok}
use Rattle.radio.specs.declared.RadioCommand.{RadioCommand}
use Rattle.radio.specs.declared.RadioCommand.TheVariants.{On, Off, Bright, Dim}
use Rattle.x10.specs.declared.commands.Three.{Three}

-- the command that three numbers say; the unit is not looked at for bright and dim. A number above 3 makes none, and is handed on as a
-- command of house 16: the writer refuses it by 2, as any house or unit above 15, in its own order.
unfoldable pub command_from : ℕ → ℕ → ℕ → RadioCommand
command_from command house unit =
    pick (eqb command 0) (On house unit)
    (pick (eqb command 1) (Off house unit)
    (pick (eqb command 2) (Bright house)
    (pick (eqb command 3) (Dim house)
    (Bright 16))))

-- "house or unit above 15", of a number that makes no command: proofs/Refusals.antt
abbrev pub NoCommandRefused : Type 0
NoCommandRefused = (command house unit : ℕ) → 3 < command → command_ok (command_from command house unit) ≡ false

-- the three bytes of a command, 0 for the unit of bright and dim
abbrev pub command_bytes : RadioCommand → List ℕ
command_bytes (On h u) = 0 ∷ h ∷ u ∷ []
command_bytes (Off h u) = 1 ∷ h ∷ u ∷ []
command_bytes (Bright h) = 2 ∷ h ∷ 0 ∷ []
command_bytes (Dim h) = 3 ∷ h ∷ 0 ∷ []

-- three numbers in their order
abbrev pub three_listed : Three → List ℕ
three_listed t = t.command ∷ t.house ∷ t.unit ∷ []
