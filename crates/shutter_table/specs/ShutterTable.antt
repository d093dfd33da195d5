-- The lent bytes of a shutter table (02, A1): where a shutter's twenty lie, the rules of a valid table, what a motion makes of the table, and how many
-- openings differ. One shutter's rules and steps are in shutter's Shutters.
use Rattle.std.specs.Prelude.{ℕ, ◌+◌, ◌*◌, Bool, ◌&&◌, List, ◌∷◌, ◌++◌, eqb, length, get_or}
use Rattle.ground.specs.Choice.{pick}
use Rattle.ground.specs.Records.{bytes_at, Layout, step_each, all_below, differing, value_at}
use Rattle.plan.specs.declared.Motion.{Motion}
use Rattle.shutter.specs.declared.Shutter.{Shutter}
use Rattle.shutter.specs.Shutters.{shutter_ok, reaches, step_shutter}

-- "a second lent table of 256 shutters, A1..P16", "20 bytes each", "5,120 in all"
abbrev pub SHUTTER_BYTES : ℕ
SHUTTER_BYTES = 20

abbrev pub SHUTTERS : ℕ
SHUTTERS = 256

abbrev pub SHUTTER_TABLE_BYTES : ℕ
SHUTTER_TABLE_BYTES = SHUTTERS * SHUTTER_BYTES

-- "present, opening .., limit .., sun protection ..", "the eight marks before the eight openings": shutter i of a table
unfoldable pub shutter_at : List ℕ → ℕ → Shutter
shutter_at t i =
    let at = i * SHUTTER_BYTES in
    record {
      present = get_or t at 0;
      opening = get_or t (at + 1) 0;
      limit = get_or t (at + 2) 0;
      protection = get_or t (at + 3) 0;
      marks = bytes_at t at 4 8;
      openings = bytes_at t at 12 8;
    }

abbrev pub shutter_bytes : Shutter → List ℕ
shutter_bytes s = s.present ∷ s.opening ∷ s.limit ∷ s.protection ∷ (s.marks ++ s.openings)

abbrev pub shutters : Layout Shutter
shutters = record { size = SHUTTER_BYTES; at = shutter_at; bytes = shutter_bytes }

-- the table has its length, and each shutter keeps the rules
unfoldable pub shutters_ok : List ℕ → Bool
shutters_ok t = eqb (length t) SHUTTER_TABLE_BYTES && all_below SHUTTERS (λ i. shutter_ok (shutter_at t i))

-- what a motion for house h makes of shutter i
abbrev pub shutter_after : Motion → ℕ → ℕ → Shutter → Shutter
shutter_after a h i s = pick (reaches a h i) (step_shutter a s) s

-- and of the table
unfoldable pub move_all : Motion → ℕ → List ℕ → List ℕ
move_all a h t = step_each shutters (shutter_after a h) 0 SHUTTERS t

-- "a second count, the shutters whose opening differs"
abbrev pub opening_of : Shutter → ℕ
opening_of s = s.opening

abbrev pub openings_changed : List ℕ → List ℕ → ℕ
openings_changed before after = differing (value_at shutters opening_of) SHUTTERS before after
