-- The statements of specs/Statements.antt about codes and answers, proved.
use Rattle.std.specs.Prelude.{Ok}
use mathlib.Core.Path.{◌≡◌, refl, sym, ap, subst, ◌∙◌}
use mathlib.Core.Bool.{Bool, true, false, and-eq-true_iff}
use mathlib.Core.List.Memᴰ
use mathlib.Core.List.{List, [], Memᴰ}
use Prim.Native.Nat.{ℕ, ◌<◌}
use native.Mathlib.Omega.{arith}
use lib.Dec.{leb}
use lib.ListN.{length, get_or, get_or-map}
use Rattle.ground.specs.Refusals.{Report, reports, refuses, Cause, judged, lowest, rising}
use Rattle.ground.proofs.Causes.{judged_map, some_number, lowest_given}
use Rattle.message.specs.Messages.{message_ok}
use Rattle.message.proofs.Tables.{every_from, get_d_any}
use Rattle.radio.specs.Codes.{four_bytes, command_ok, commands, codes}
use Rattle.radio.specs.Answers.{write_causes, read_causes, read_answer, read_report, messages_of, messages_causes, messages_answer}
use Rattle.radio.specs.Statements.{Exactly544, ReadOfWritten, WrittenOfRead, MessagesValid, LowestNumbers}
use Rattle.radio.specs.declared.RadioCommand.{RadioCommand}
use Rattle.radio.specs.declared.RadioCommand.TheVariants.{On, Off, Bright, Dim}
use Rattle.radio.proofs.CodeLaws.{no_shared_code}
use Rattle.radio.proofs.CommandLaws.{get_d_mem, every_mem, in_commands, commands_ok, commands_count, commands_one_to_one, codes_count_lem}
use Rattle.radio.proofs.AnswerLaws.{write_given, Read, named, refused, read_cases, read_given, write_reported, read_reported, messages_reported}

-- ---- there and back

pub read_of-written : ReadOfWritten
read_of-written k ok = (write_given k ok, read_given k ok)

-- what is read is a valid command, and these are its bytes
pub read_as : (k : RadioCommand) (code : List ℕ) → read_answer code ≡ Ok k → (command_ok k ≡ true) × (four_bytes k ≡ code)
read_as k code e = go (read_cases code)
  where
    go : Read code → (command_ok k ≡ true) × (four_bytes k ≡ code)
    go (named j ok b a) =
        let same : j ≡ k = cc in
        (subst (λ (x : RadioCommand). command_ok x ≡ true) same ok, subst (λ (x : RadioCommand). four_bytes x ≡ code) same b)
    go (refused why a) = let z : ◌≡◌ {A = ℕ} 0 1 = cc in absurd (omega arith)

pub written_of_read : WrittenOfRead
written_of_read k code e = let it = read_as k code e in write_given k it.0 ∙ ap reports it.1

-- ---- the 544 codes

none_twice : (i j : ℕ) → i < 544 → j < 544 → get_or codes i [] ≡ get_or codes j [] → i ≡ j
unfolding codes
none_twice i j li lj e =
    commands_one_to_one (Bright 0) i j (in_list i li) (in_list j lj)
    (no_shared_code (at i) (at j) (at_ok i li) (at_ok j lj) (sym (code_at i li) ∙ e ∙ code_at j lj))
  where
    at : ℕ → RadioCommand
    at i = get_or commands i (Bright 0)

    in_list : (i : ℕ) → i < 544 → i < length commands
    in_list i l = subst (λ (n : ℕ). i < n) (sym commands_count) l

    at_ok : (i : ℕ) → i < 544 → command_ok (at i) ≡ true
    at_ok i l = commands_ok (at i) (get_d_mem commands i (Bright 0) (in_list i l))

    code_at : (i : ℕ) → i < 544 → get_or codes i [] ≡ four_bytes (at i)
    code_at i l =
        get_d_any codes i [] (four_bytes (Bright 0)) (subst (λ (n : ℕ). i < n) (sym codes_count_lem) l)
        ∙ get_or-map four_bytes commands i (Bright 0)

each_read : (code : List ℕ) → Memᴰ code codes → (read_report (read_answer code)).number ≡ 0
unfolding codes
each_read code m =
    let it = Memᴰ.of_map four_bytes commands m in
    ap (λ a. (read_report a).number) (ap read_answer (sym it.2) ∙ read_given it.0 (commands_ok it.0 it.1))

no_other : (code : List ℕ) → (read_report (read_answer code)).number ≡ 0 → Memᴰ code codes
unfolding codes
no_other code e = go (read_cases code)
  where
    go : Read code → Memᴰ code codes
    go (named k ok b a) = Memᴰ.cast (sym b) (Memᴰ.map four_bytes (in_commands k ok))
    go (refused why a) = let z = sym (ap (λ a. (read_report a).number) a) ∙ e in absurd (omega (arith, some_number why))

pub exactly_544 : Exactly544
exactly_544 = record { as_many = codes_count_lem; none_twice = none_twice; each_read = each_read; no_other = no_other }

-- ---- the messages

all_valid : (k : RadioCommand) → command_ok k ≡ true → every_from (λ i m. message_ok m) 0 (messages_of k) ≡ true
all_valid (On h u) t = let p = (and-eq-true_iff (leb h 15) (leb u 15)).0 t in simp (p.0, p.1)
all_valid (Off h u) t = let p = (and-eq-true_iff (leb h 15) (leb u 15)).0 t in simp (p.0, p.1)
all_valid (Bright h) t = simp t
all_valid (Dim h) t = simp t

pub messages_valid : MessagesValid
unfolding messages_answer judged
messages_valid k m i = go (command_ok k) refl
  where
    go : (t : Bool) → command_ok k ≡ t → message_ok m ≡ true
    go true t = every_mem message_ok (messages_of k) 0 (all_valid k t) (simp t at i)
    go false t = absurd (Memᴰ.not-nil (simp t at i))

-- ---- the lowest number

-- of causes whose numbers rise, a report by them has the lowest that applies
lowest_number : {A : Type 0} {r : Report A} (cs : List Cause) (xs : List A) → rising cs ≡ true → r ≡ judged cs (reports xs) refuses → r.number ≡ lowest cs
lowest_number cs xs up e =
    ap (λ x. x.number) e ∙ judged_map (λ x. x.number) (reports xs) refuses cs ∙ sym (lowest_given cs up)

pub lowest_numbers : LowestNumbers
lowest_numbers = record {
  by_write = λ k. lowest_number (write_causes k) _ refl (write_reported k);
  by_read = λ code. lowest_number (read_causes code) _ refl (read_reported code);
  by_messages = λ k. lowest_number (messages_causes k) _ refl (messages_reported k);
}
