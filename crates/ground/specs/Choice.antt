-- A choice between two values by a test, for every definition that goes by tests.
use Rattle.std.specs.Prelude.{Bool, true, false}

-- the first value where the test holds, else the second
abbrev pub pick {ℓ} : {A : Type ℓ} → Bool → A → A → A
pick true a b = a
pick false a b = b
