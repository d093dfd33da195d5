-- Laws of bytes at the front of a lent buffer, and of what the radio's routines answered.
--
--     command_placed      a radio command's three bytes
--     wrote, not_written  what the answer of `radio::write` tells
--     was_read, not_read  what the answer of `radio::read` tells
use Rattle.std.specs.Prelude.{Result, Ok, Err}
use mathlib.Core.Path.{◌≡◌, refl, sym, ap}
use mathlib.Core.Bool.{Bool, true, false, true≢false, false≢true}
use mathlib.Core.List.{List, [], ◌∷◌}
use Prim.Native.Nat.{ℕ, ◌≤◌}
use native.Mathlib.Omega.{arith}
use lib.ListN.{length}
use lib.Seq.{sets}
use Rattle.ground.specs.Choice.{pick}
use Rattle.ground.specs.Refusals.{Report, reports, refuses, Cause, when, unless, judged, number_given}
use Rattle.ground.specs.declared.Refusal.{Refusal}
use Rattle.ground.specs.declared.Refusal.TheVariants as refusal
use Rattle.ground.proofs.Lists.{sets-front}
use Rattle.radio.specs.Codes.{command_ok, four_bytes}
use Rattle.radio.specs.Answers.{write_causes, write_answer}
use Rattle.radio.specs.declared.RadioCommand.{RadioCommand}
use Rattle.radio.specs.declared.RadioCommand.TheVariants.{On, Off, Bright, Dim}
use Rattle.x10.specs.Commands.{command_bytes}
use Rattle.x10.specs.Radio.{front}

command_length : (k : RadioCommand) → length (command_bytes k) ≡ 3
command_length (On h u) = refl
command_length (Off h u) = refl
command_length (Bright h) = refl
command_length (Dim h) = refl

pub command_placed : (k : RadioCommand) (l : List ℕ) → 3 ≤ length l → sets l 0 (command_bytes k) ≡ front (command_bytes k) l
command_placed k l h = sets-front (command_bytes k) l (omega (arith, command_length k))

-- ---- what `radio::write` answered

pub wrote : (k : RadioCommand) (xs : List ℕ) → reports xs ≡ judged (write_causes k) (reports (four_bytes k)) refuses
    → (command_ok k ≡ true) × (xs ≡ four_bytes k)
unfolding judged
wrote k xs e = go (command_ok k) e
  where
    go : (b : Bool) → reports xs ≡ pick b (reports (four_bytes k)) (refuses refusal.Message) → (b ≡ true) × (xs ≡ four_bytes k)
    go true p = (refl, ap (λ (r : Report ℕ). r.values) p)
    go false p = let n = ap (λ (r : Report ℕ). r.number) p in absurd (omega (arith, n))

pub not_written : (k : RadioCommand) (why : Refusal) → write_answer k ≡ Err why → (command_ok k ≡ false) × (why ≡ refusal.Message)
unfolding write_answer judged
not_written k why e = go (command_ok k) e
  where
    go : (b : Bool) → pick b (Ok (four_bytes k)) (Err refusal.Message) ≡ Err why → (b ≡ false) × (why ≡ refusal.Message)
    go true p = cc
    go false p = (refl, cc)

-- ---- what `radio::read` answered

is_command : Result RadioCommand Refusal → Bool
is_command (Ok k) = true
is_command (Err why) = false

module _ (k : RadioCommand) where
  pub was_read : (cs : List Cause) (j : RadioCommand) → judged cs (Ok k) Err ≡ Ok j → (number_given cs ≡ 0) × (k ≡ j)
  unfolding judged is_command
  was_read [] j e = (refl, cc)
  was_read (when true why ∷ cs) j e = absurd (false≢true (ap is_command e))
  was_read (when false why ∷ cs) j e = was_read cs j e
  was_read (unless true why ∷ cs) j e = was_read cs j e
  was_read (unless false why ∷ cs) j e = absurd (false≢true (ap is_command e))

  pub not_read : {B : Type 0} (done : B) (refused : Refusal → B) (cs : List Cause) (why : Refusal)
      → judged cs (Ok k) Err ≡ Err why → refused why ≡ judged cs done refused
  unfolding judged is_command
  not_read done refused [] why e = absurd (true≢false (ap is_command e))
  not_read done refused (when true w ∷ cs) why e = let p : w ≡ why = cc in ap refused (sym p)
  not_read done refused (when false w ∷ cs) why e = not_read done refused cs why e
  not_read done refused (unless true w ∷ cs) why e = not_read done refused cs why e
  not_read done refused (unless false w ∷ cs) why e = let p : w ≡ why = cc in ap refused (sym p)
