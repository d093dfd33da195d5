-- What the type of a message tells: the data and the command of an extended one are bytes.
use Prim.Native.Nat.{ℕ, ◌<◌}
use mathlib.Core.Path.{◌≡◌, subst}
use mathlib.Core.List.{List}
use mir.Val.{Val}
use denote.Laws.{Is}
use denote.Enum.Declared as Declared
use Rattle.message.specs.contracts.Message as M
use Rattle.message.specs.declared.Message.{Message}
use Rattle.message.specs.declared.Message.TheVariants.{Extended}

pub bytes_told : (m : Message) (vs : List Val) → Is (Declared.row M.the_type) m vs → {h u d c : ℕ} → m ≡ Extended h u d c → (d < 256) × (c < 256)
bytes_told m vs p e =
    let fields = (subst (λ (x : Message). Is (Declared.row M.the_type) x vs) e p).1.1.1.1 in
    (fields.1.1.0.1, fields.1.1.1.0.1)
