-- Laws of messages as five numbers and five bytes.
--
--     message_number        when reading refuses, it is by 2
--     message_length        a message has five bytes
--     messages_read_back    MessagesReadBack
--     kept_reported         where five bytes keep nothing that is read, it is refused by 6
--     kept_refused          it is refused by 6 alone
--     kept_read_back        KeptReadBack
use Rattle.std.specs.Prelude.{Result, Ok, Err, Option, Some, None}
use mathlib.Core.Path.{◌≡◌, refl, sym, ap, ◌∙◌}
use mathlib.Core.Bool.{Bool, true, false, ◌&&◌, and-eq-true_iff}
use mathlib.Core.List.{[], ◌∷◌}
use Prim.Native.Nat.{ℕ}
use native.Mathlib.Decide.{ℕ_discrete}
use native.Mathlib.Omega.{arith}
use borrow.Author.Tests.{eqb-true, eq-eqb, ne_eqb}
use lib.Dec.{eqb}
use lib.ListN.{length}
use Rattle.ground.specs.Choice.{pick}
use Rattle.ground.specs.Refusals.{judged, number_given}
use Rattle.ground.specs.declared.Refusal.TheVariants as refusal
use Rattle.message.specs.Codes.{function_answer}
use Rattle.message.specs.Messages.{message_ok}
use Rattle.message.specs.declared.Function.{Function}
use Rattle.message.specs.declared.Message.{Message}
use Rattle.message.specs.declared.Message.TheVariants.{Address, Function as Command, Extended}
use Rattle.message.proofs.CodeLaws.{codes_read_back}
use Rattle.wire.specs.Messages.{taken_message, function_from, message_from, message_in, message_bytes}
use Rattle.wire.specs.Messages.{as_written, MessagesReadBack, message_report, says_message, message_causes}
use Rattle.wire.specs.Messages.{none_bytes, kept_as, kept_from, kept_in, is_kept, kept_causes, kept_report, KeptReadBack}
use Rattle.ground.specs.declared.Refusal.{Refusal}

-- ---- what numbers say, by their kind

data Kind (k h t d c : ℕ) : Result Message Refusal → Type 0 where
  address : k ≡ 1 → Kind k h t d c (taken_message (Address h t))
  function : k ≡ 2 → Kind k h t d c (function_from h (function_answer t))
  extended : k ≡ 3 → Kind k h t d c (taken_message (Extended h t d c))
  other : (k ≡ 1 → ⊥) → (k ≡ 2 → ⊥) → (k ≡ 3 → ⊥) → Kind k h t d c (Err refusal.Message)

kind_of : (k h t d c : ℕ) → Kind k h t d c (message_from k h t d c)
unfolding message_from
kind_of k h t d c = go (ℕ_discrete k 1) (ℕ_discrete k 2) (ℕ_discrete k 3)
  where
    go : Dec (k ≡ 1) → Dec (k ≡ 2) → Dec (k ≡ 3) → Kind k h t d c (message_from k h t d c)
    go (yes e) q r = rw (eq-eqb k 1 e) (address e)
    go (no n) (yes e) r = rw (ne_eqb k 1 n, eq-eqb k 2 e) (function e)
    go (no n) (no m) (yes e) = rw (ne_eqb k 1 n, ne_eqb k 2 m, eq-eqb k 3 e) (extended e)
    go (no n) (no m) (no l) = rw (ne_eqb k 1 n, ne_eqb k 2 m, ne_eqb k 3 l) (other n m l)

-- ---- read back

-- by which number it is refused
abbrev numbered : Result Message Refusal → Type 0
numbered x = (message_report x).number ≡ pick (says_message x) 0 2

taken_number : (m : Message) → numbered (taken_message m)
unfolding taken_message judged
taken_number m = go (message_ok m)
  where
    go : (b : Bool) → numbered (pick b (Ok m) (Err refusal.Message))
    go true = refl
    go false = refl

function_number : (h : ℕ) (x : Result Function Refusal) → numbered (function_from h x)
function_number h (Ok f) = taken_number (Command h f)
function_number h (Err why) = refl

pub message_number : (k h t d c : ℕ) → (message_report (message_from k h t d c)).number ≡ number_given (message_causes k h t d c)
unfolding judged
message_number k h t d c = go (kind_of k h t d c)
  where
    go : {x : Result Message Refusal} → Kind k h t d c x → numbered x
    go (address e) = taken_number (Address h t)
    go (function e) = function_number h (function_answer t)
    go (extended e) = taken_number (Extended h t d c)
    go (other a b e) = refl

pub message_length : (m : Message) → length (message_bytes m) ≡ 5
message_length (Address h u) = refl
message_length (Command h f) = refl
message_length (Extended h u d c) = refl

-- a message that is taken is valid, and the one handed in
taken_back : (m g : Message) → taken_message m ≡ Ok g → (m ≡ g) × (message_ok m ≡ true)
unfolding taken_message judged
taken_back m g e = go (message_ok m) e
  where
    go : (b : Bool) → pick b (Ok m) (Err refusal.Message) ≡ Ok g → (m ≡ g) × (b ≡ true)
    go true e' = (cc, refl)
    go false e' = (cc, cc)

-- no data and no command where the kind has none
none_written : (k d c : ℕ) → (k ≡ 3 → ⊥) → as_written k d c ≡ true → (d ≡ 0) × (c ≡ 0)
none_written k d c n w =
    let z : (eqb d 0 && eqb c 0) ≡ true = rw (ne_eqb k 3 n) at w in
    let p = (and-eq-true_iff (eqb d 0) (eqb c 0)).0 z in
    (eqb-true d 0 p.0, eqb-true c 0 p.1)

-- a function is read by the code that it has
function_back : (h t : ℕ) (x : Result Function Refusal) (m : Message) → function_answer t ≡ x → function_from h x ≡ Ok m
    → (message_ok m ≡ true) × (message_bytes m ≡ 2 ∷ h ∷ t ∷ 0 ∷ 0 ∷ [])
function_back h t (Ok f) m e s =
    let p = taken_back (Command h f) m s in (
      ap message_ok (sym p.0) ∙ p.1,
      ap message_bytes (sym p.0) ∙ ap (λ (n : ℕ). 2 ∷ h ∷ n ∷ 0 ∷ 0 ∷ []) (codes_read_back.code_of-function t f e),
    )
function_back h t (Err why) m e s = (cc, cc)

module _ (k h t d c : ℕ) (m : Message) where
  said : {o : Result Message Refusal} → Kind k h t d c o → o ≡ Ok m → (message_ok m ≡ true) × (as_written k d c ≡ true → message_bytes m ≡ k ∷ h ∷ t ∷ d ∷ c ∷ [])
  said (address one) e =
      let p = taken_back (Address h t) m e in (
        ap message_ok (sym p.0) ∙ p.1,
        λ w. let z = none_written k d c (λ x. omega arith) w in ap message_bytes (sym p.0) ∙ rw (one, z.0, z.1),
      )
  said (function two) e =
      let p = function_back h t (function_answer t) m refl e in
      (p.0, λ w. let z = none_written k d c (λ x. omega arith) w in p.1 ∙ rw (two, z.0, z.1))
  said (extended three) e =
      let p = taken_back (Extended h t d c) m e in
      (ap message_ok (sym p.0) ∙ p.1, λ w. ap message_bytes (sym p.0) ∙ rw three)
  said (other n n' n'') e = (cc, λ w. cc)

pub messages_read_back : MessagesReadBack
unfolding message_from taken_message judged
messages_read_back = record {
  message_of_bytes = back;
  bytes_of-message = λ k h t d c m w e. (said k h t d c m (kind_of k h t d c) e).1 w;
  valid_message = λ k h t d c m e. (said k h t d c m (kind_of k h t d c) e).0;
}
  where
    back : (m : Message) → message_ok m ≡ true → message_in (message_bytes m) ≡ Ok m
    back (Address h u) ok = rw ok
    back (Command h f) ok = ap (function_from h) (codes_read_back.function_of_code f) ∙ rw ok
    back (Extended h u d c) ok = rw ok

-- ---- a message or none, kept

module _ (k h t d c : ℕ) where
  -- all five are 0
  abbrev all_zero : Bool
  all_zero = eqb k 0 && eqb h 0 && eqb t 0 && (eqb d 0 && eqb c 0)

  -- the two tests, and what the numbers say
  abbrev kept : Bool → Bool → Result Message Refusal → Result (Option Message) Refusal
  kept none written x = pick none (Ok None) (pick written (kept_as x) (Err refusal.State))

  pub kept_reported : {o : Result (Option Message) Refusal} → o ≡ kept_from k h t d c
      → (o ≡ kept_from k h t d c) × ((kept_report o).number ≡ number_given (kept_causes k h t d c))
  unfolding kept_from judged
  kept_reported e =
      (e, ap (λ (x : Result (Option Message) Refusal). (kept_report x).number) e ∙ go all_zero (as_written k d c) (message_from k h t d c))
    where
      go : (none written : Bool) (x : Result Message Refusal) → (kept_report (kept none written x)).number ≡ pick (is_kept (kept none written x)) 0 6
      go true written x = refl
      go false true (Ok m) = refl
      go false true (Err why) = refl
      go false false x = refl

  pub kept_refused : {why : Refusal} → kept_from k h t d c ≡ Err why → why ≡ refusal.State
  unfolding kept_from
  kept_refused {why} e = go all_zero (as_written k d c) (message_from k h t d c) e
    where
      go : (none written : Bool) (x : Result Message Refusal) → kept none written x ≡ Err why → why ≡ refusal.State
      go true written x e = cc
      go false true (Ok m) e = cc
      go false true (Err why) e = cc
      go false false x e = cc

  zeros : all_zero ≡ true → k ∷ h ∷ t ∷ d ∷ c ∷ [] ≡ none_bytes
  zeros e =
      let all = (and-eq-true_iff (eqb k 0 && eqb h 0 && eqb t 0) (eqb d 0 && eqb c 0)).0 e in
      let first = (and-eq-true_iff (eqb k 0 && eqb h 0) (eqb t 0)).0 all.0 in
      let two = (and-eq-true_iff (eqb k 0) (eqb h 0)).0 first.0 in
      let ends = (and-eq-true_iff (eqb d 0) (eqb c 0)).0 all.1 in
      rw (eqb-true k 0 two.0, eqb-true h 0 two.1, eqb-true t 0 first.1, eqb-true d 0 ends.0, eqb-true c 0 ends.1)

  none_kept : kept_from k h t d c ≡ Ok None → k ∷ h ∷ t ∷ d ∷ c ∷ [] ≡ none_bytes
  unfolding kept_from
  none_kept e = go all_zero (as_written k d c) (message_from k h t d c) refl e
    where
      go : (none written : Bool) (x : Result Message Refusal) → all_zero ≡ none → kept none written x ≡ Ok None → k ∷ h ∷ t ∷ d ∷ c ∷ [] ≡ none_bytes
      go true written x z e' = zeros z
      go false true (Ok m) z e' = cc
      go false true (Err why) z e' = cc
      go false false x z e' = cc

  message_kept : (m : Message) → kept_from k h t d c ≡ Ok (Some m) → (message_ok m ≡ true) × (k ∷ h ∷ t ∷ d ∷ c ∷ [] ≡ message_bytes m)
  unfolding kept_from
  message_kept m e = go all_zero (as_written k d c) (message_from k h t d c) refl refl e
    where
      go : (none written : Bool) (x : Result Message Refusal) → as_written k d c ≡ written → message_from k h t d c ≡ x → kept none written x ≡ Ok (Some m)
          → (message_ok m ≡ true) × (k ∷ h ∷ t ∷ d ∷ c ∷ [] ≡ message_bytes m)
      go true written x w s e' = (cc, cc)
      go false true (Ok g) w s e' =
          let same : g ≡ m = cc in
          let is = s ∙ ap Ok same in
          (messages_read_back.valid_message k h t d c m is, sym (messages_read_back.bytes_of-message k h t d c m w is))
      go false true (Err why) w s e' = (cc, cc)
      go false false x w s e' = (cc, cc)

pub kept_read_back : KeptReadBack
unfolding kept_from
kept_read_back = record { none = refl; message = back; bytes_of-none = none_kept; bytes_of-message = message_kept }
  where
    back : (m : Message) → message_ok m ≡ true → kept_in (message_bytes m) ≡ Ok (Some m)
    back (Address h u) ok = ap kept_as (messages_read_back.message_of_bytes (Address h u) ok)
    back (Command h f) ok = ap kept_as (messages_read_back.message_of_bytes (Command h f) ok)
    back (Extended h u d c) ok = ap kept_as (messages_read_back.message_of_bytes (Extended h u d c) ok)
