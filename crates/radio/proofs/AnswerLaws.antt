-- Laws of the answers: which commands are written, which bytes are read, and what each answer reports.
--
--     write_given                                            a valid command's four bytes are given
--     read_given, Read, read_cases                           the codes of the valid commands are read, and no others
--     write_reported, read_reported, messages_reported       the reports that the contracts promise
use Rattle.std.specs.Prelude.{Ok, Err}
use mathlib.Core.Path.{◌≡◌, refl, ap}
use mathlib.Core.Bool.{Bool, true, false}
use mathlib.Core.List.{List, [], ◌∷◌}
use Prim.Native.Nat.{ℕ, ◌-◌}
use borrow.Author.Tests.{eq-eqb}
use lib.Dec.{eqb}
use lib.ListN.{length}
use Rattle.ground.specs.Refusals.{reports, refuses, judged}
use Rattle.ground.specs.declared.Refusal.{Refusal}
use Rattle.ground.specs.declared.Refusal.TheVariants as refusal
use Rattle.ground.proofs.Causes.{judged_map}
use Rattle.radio.specs.Codes.{byte_b, byte_c, code_from, four_bytes, command_ok, among, command_of}
use Rattle.radio.specs.Answers.{write_causes, write_answer, write_report, complementary, read_causes, read_answer, read_report}
use Rattle.radio.specs.Answers.{messages_of, messages_causes, messages_answer, messages_report}
use Rattle.radio.specs.declared.RadioCommand.{RadioCommand}
use Rattle.radio.proofs.CommandLaws.{code_of-named, named_of_code}

-- ---- the writer

pub write_given : (k : RadioCommand) → command_ok k ≡ true → write_report (write_answer k) ≡ reports (four_bytes k)
unfolding write_answer judged
write_given k ok = simp ok

-- ---- the reader

-- bytes are read as the valid command whose code they are, or refused
pub data Read (code : List ℕ) : Type 0 where
  named : (k : RadioCommand) → command_ok k ≡ true → four_bytes k ≡ code → read_answer code ≡ Ok k → Read code
  refused : (why : Refusal) → read_answer code ≡ Err why → Read code

pub read_cases : (code : List ℕ) → Read code
unfolding read_answer judged
read_cases code = go (eqb (length code) 4) (complementary code) (among code) refl refl refl
  where
    go : (four paired one : Bool) → eqb (length code) 4 ≡ four → complementary code ≡ paired → among code ≡ one → Read code
    go false paired one f p a = refused refusal.RfLength (simp f)
    go true false one f p a = refused refusal.Complement (simp (f, p))
    go true true false f p a = refused refusal.Code (simp (f, p, a))
    go true true true f p a =
        let it = code_of-named code a in
        named (command_of code) it.0 it.1 (simp (f, p, a))

-- the pairs of a code that is made of b and c are complementary
pairs : (b c : ℕ) → complementary (code_from b c) ≡ true
pairs b c = simp (eq-eqb (255 - b) (255 - b) refl, eq-eqb (255 - c) (255 - c) refl)

pub read_given : (k : RadioCommand) → command_ok k ≡ true → read_answer (four_bytes k) ≡ Ok k
unfolding read_answer judged
read_given k ok =
    let it = named_of_code k ok in
    simp (pairs (byte_b k) (byte_c k), it.0) (ap Ok it.1)

-- ---- what the answers report

pub write_reported : (k : RadioCommand) → write_report (write_answer k) ≡ judged (write_causes k) (reports (four_bytes k)) refuses
unfolding write_answer
write_reported k = judged_map write_report _ Err (write_causes k)

pub read_reported : (code : List ℕ) → read_report (read_answer code) ≡ judged (read_causes code) (reports (command_of code ∷ [])) refuses
unfolding read_answer
read_reported code = judged_map read_report _ Err (read_causes code)

pub messages_reported : (k : RadioCommand) → messages_report (messages_answer k) ≡ judged (messages_causes k) (reports (messages_of k)) refuses
unfolding messages_answer
messages_reported k = judged_map messages_report _ Err (messages_causes k)
