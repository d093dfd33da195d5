-- Laws of lists of causes.
--
--     ladder               what `search` needs to prove an answer at a return: the tests on the way there are the causes
--     bad, fine            what a test `if !judge(..)` says of the definition that `judge` computes
--     judged_map           what becomes of an answer becomes of its causes' answer
--     nothing_refused      where the number given is 0, the routine does what it is for
--     none_stops           and each test was passed
--     judged_append, judged_past      some causes, and then others, which decide where none of the first applies
--     judged_same, judged_holds    what is done matters only there; what holds of it and of all refusals holds of the answer
--     done_told, refused_told      what a report tells of its causes: none applies, or which one is first
--     some_number, lowest_given      SomeNumber and LowestGiven
use mathlib.Core.Path.{◌≡◌, refl, sym, ap, ap₂, ◌∙◌}
use mathlib.Core.Bool.{Bool, true, false, not, and-eq-true_iff}
use mathlib.Core.List.{List, [], ◌∷◌, ◌++◌}
use Prim.Native.Nat.{ℕ, zero, suc, ◌≤◌, min}
use native.Mathlib.Omega.{arith}
use borrow.Author.Tests.{leb-true, not-true, not-false, le-leb, lt-leb, lt-ltb, le-ltb, eq-eqb, ne_eqb}
use lib.Dec.{leb, eqb-suc-zero}
use lib.ListN.{get_or}
use Rattle.ground.specs.Choice.{pick}
use Rattle.ground.specs.Refusals.{refusal_number, Report, reports, refuses, Cause, when, unless, judged, number_given, applies}
use Rattle.ground.specs.Refusals.{cause_number, lower, lowest, all_from, rising, LowestGiven, SomeNumber}
use Rattle.ground.specs.declared.Refusal.{Refusal}
use Rattle.ground.specs.declared.Refusal.TheVariants.{Table, Message, Record, NotCarried, Half, State, Draw}
use Rattle.ground.specs.declared.Refusal.TheVariants.{Busy, Short, RfLength, Complement, Code, Fault, ShutterTable, ShutterRecord, Opening}
use Rattle.ground.specs.declared.Refusal.TheVariants.{PacketLength, Check, Network, Payload}

-- ---- an answer, cause by cause

module _ {A : Type 0} (done : A) (refused : Refusal → A) where
  pub through : {o : A} → o ≡ done → o ≡ judged [] done refused
  unfolding judged
  through e = e

  module _ {o : A} (test : Bool) (why : Refusal) (cs : List Cause) where
    pub stopped : test ≡ false → o ≡ refused why → o ≡ judged (unless test why ∷ cs) done refused
    unfolding judged
    stopped t e = rw t e

    pub passed : test ≡ true → o ≡ judged cs done refused → o ≡ judged (unless test why ∷ cs) done refused
    unfolding judged
    passed t e = rw t e

    pub stopped_when : test ≡ true → o ≡ refused why → o ≡ judged (when test why ∷ cs) done refused
    unfolding judged
    stopped_when t e = rw t e

    pub passed_when : test ≡ false → o ≡ judged cs done refused → o ≡ judged (when test why ∷ cs) done refused
    unfolding judged
    passed_when t e = rw t e

-- ---- what a test in the code says of a cause

module _ {r t : Bool} (meets : r ≡ t) where
  pub bad : not r ≡ true → t ≡ false
  bad h = sym meets ∙ not-true r h

  pub fine : not r ≡ false → t ≡ true
  fine h = sym meets ∙ not-false r h

pub ruleset ladder = (through, stopped, passed, stopped_when, passed_when, bad, fine, le-leb, lt-leb, lt-ltb, le-ltb, eq-eqb, ne_eqb)

-- ---- an answer taken further

module _ {A B : Type 0} (f : A → B) (done : A) (refused : Refusal → A) where
  pub judged_map : (cs : List Cause) → f (judged cs done refused) ≡ judged cs (f done) (λ why. f (refused why))
  unfolding judged
  judged_map [] = refl
  judged_map (when bad why ∷ cs) = go bad (judged_map cs)
    where
      go : (b : Bool) {x : A} {y : B} → f x ≡ y → f (pick b (refused why) x) ≡ pick b (f (refused why)) y
      go true e = refl
      go false e = e
  judged_map (unless fine why ∷ cs) = go fine (judged_map cs)
    where
      go : (b : Bool) {x : A} {y : B} → f x ≡ y → f (pick b x (refused why)) ≡ pick b y (f (refused why))
      go true e = e
      go false e = refl

-- ---- the number given

pub some_number : SomeNumber
some_number Table = omega arith
some_number Message = omega arith
some_number Record = omega arith
some_number NotCarried = omega arith
some_number Half = omega arith
some_number State = omega arith
some_number Draw = omega arith
some_number Busy = omega arith
some_number Short = omega arith
some_number RfLength = omega arith
some_number Complement = omega arith
some_number Code = omega arith
some_number Fault = omega arith
some_number ShutterTable = omega arith
some_number ShutterRecord = omega arith
some_number Opening = omega arith
some_number PacketLength = omega arith
some_number Check = omega arith
some_number Network = omega arith
some_number Payload = omega arith

module _ {A : Type 0} (done : A) (refused : Refusal → A) where
  pub nothing_refused : (cs : List Cause) → number_given cs ≡ 0 → judged cs done refused ≡ done
  unfolding judged
  nothing_refused [] e = refl
  nothing_refused (when true why ∷ cs) e = absurd (omega (arith, some_number why, e))
  nothing_refused (when false why ∷ cs) e = nothing_refused cs e
  nothing_refused (unless true why ∷ cs) e = nothing_refused cs e
  nothing_refused (unless false why ∷ cs) e = absurd (omega (arith, some_number why, e))

pub none_stops : (test : Bool) (why : Refusal) (cs : List Cause) → number_given (unless test why ∷ cs) ≡ 0 → (test ≡ true) × (number_given cs ≡ 0)
unfolding judged
none_stops true why cs e = (refl, e)
none_stops false why cs e = absurd (omega (arith, some_number why, e))

pub judged_same : {A : Type 0} {x y : A} (refused : Refusal → A) (cs : List Cause) → (number_given cs ≡ 0 → x ≡ y)
    → judged cs x refused ≡ judged cs y refused
unfolding judged
judged_same refused [] e = e refl
judged_same refused (when true why ∷ cs) e = refl
judged_same refused (when false why ∷ cs) e = judged_same refused cs e
judged_same refused (unless true why ∷ cs) e = judged_same refused cs e
judged_same refused (unless false why ∷ cs) e = refl

pub judged_holds : {A : Type 0} (P : A → Type 0) (done : A) (refused : Refusal → A) (cs : List Cause) → (number_given cs ≡ 0 → P done)
    → ((why : Refusal) → P (refused why)) → P (judged cs done refused)
unfolding judged
judged_holds P done refused [] d r = d refl
judged_holds P done refused (when true why ∷ cs) d r = r why
judged_holds P done refused (when false why ∷ cs) d r = judged_holds P done refused cs d r
judged_holds P done refused (unless true why ∷ cs) d r = judged_holds P done refused cs d r
judged_holds P done refused (unless false why ∷ cs) d r = r why

pub judged_append : {A : Type 0} (done : A) (refused : Refusal → A) (cs ds : List Cause)
    → judged (cs ++ ds) done refused ≡ judged cs (judged ds done refused) refused
unfolding judged
judged_append done refused [] ds = refl
judged_append done refused (when bad why ∷ cs) ds = ap (pick bad (refused why)) (judged_append done refused cs ds)
judged_append done refused (unless fine why ∷ cs) ds = ap (λ x. pick fine x (refused why)) (judged_append done refused cs ds)

-- where none of the first applies, the others decide
pub judged_past : {A : Type 0} (done : A) (refused : Refusal → A) (cs ds : List Cause) → number_given cs ≡ 0
    → judged (cs ++ ds) done refused ≡ judged ds done refused
judged_past done refused cs ds none = judged_append done refused cs ds ∙ nothing_refused (judged ds done refused) refused cs none

-- ---- what a report tells of its causes

-- no two refusals have one number
refusal_of : ℕ → Refusal
refusal_of n =
    get_or
    (Fault ∷ Table ∷ Message ∷ Record ∷ NotCarried ∷ Half ∷ State ∷ Draw ∷ Busy ∷ Short ∷ Fault ∷ Fault ∷ RfLength ∷ Complement ∷ Code ∷ Fault
    ∷ ShutterTable ∷ ShutterRecord ∷ Opening ∷ PacketLength ∷ Check ∷ Network ∷ Payload ∷ [])
    n Fault

of_number : (why : Refusal) → refusal_of (refusal_number why) ≡ why
unfolding refusal_of
of_number Table = refl
of_number Message = refl
of_number Record = refl
of_number NotCarried = refl
of_number Half = refl
of_number State = refl
of_number Draw = refl
of_number Busy = refl
of_number Short = refl
of_number RfLength = refl
of_number Complement = refl
of_number Code = refl
of_number Fault = refl
of_number ShutterTable = refl
of_number ShutterRecord = refl
of_number Opening = refl
of_number PacketLength = refl
of_number Check = refl
of_number Network = refl
of_number Payload = refl

same_number : (why w : Refusal) → refusal_number why ≡ refusal_number w → why ≡ w
same_number why w e = sym (of_number why) ∙ ap refusal_of e ∙ of_number w

-- the first cause that applies, by its number
by_number : {B : Type 0} (done : B) (refused : Refusal → B) (why : Refusal) (cs : List Cause) → refusal_number why ≡ number_given cs
    → refused why ≡ judged cs done refused
unfolding judged
by_number done refused why [] e = absurd (omega (arith, some_number why))
by_number done refused why (when true w ∷ cs) e = ap refused (same_number why w e)
by_number done refused why (when false w ∷ cs) e = by_number done refused why cs e
by_number done refused why (unless true w ∷ cs) e = by_number done refused why cs e
by_number done refused why (unless false w ∷ cs) e = ap refused (same_number why w e)

module _ {A : Type 0} (values : List A) (cs : List Cause) where
  report_number : {r : Report A} → r ≡ judged cs (reports values) refuses → r.number ≡ number_given cs
  report_number e = ap (λ (x : Report A). x.number) e ∙ judged_map (λ (x : Report A). x.number) (reports values) refuses cs

  pub done_told : {xs : List A} → reports xs ≡ judged cs (reports values) refuses → (number_given cs ≡ 0) × (xs ≡ values)
  done_told e =
      let none = sym (report_number e) in
      (none, ap (λ (x : Report A). x.values) (e ∙ nothing_refused (reports values) refuses cs none))

  pub refused_told : (why : Refusal) → refuses why ≡ judged cs (reports values) refuses
      → {B : Type 0} (done : B) (refused : Refusal → B) → refused why ≡ judged cs done refused
  refused_told why e done refused = by_number done refused why cs (report_number e)

-- ---- the lowest number, of numbers that rise

lower_le : (n k : ℕ) → n ≤ k → lower n k ≡ n
lower_le n zero h = refl
lower_le n (suc k) h = rw (eqb-suc-zero k) (omega arith)

lower_pick : (b : Bool) (n k x : ℕ) → n ≤ k → lower n x ≡ n → lower n (pick b (lower k x) x) ≡ n
lower_pick false n k x h e = e
lower_pick true n k zero h e = lower_le n k h
lower_pick true n k (suc x) h e =
    let low : min n (suc x) ≡ n = rw (eqb-suc-zero x) at e in
    rw (eqb-suc-zero x) (lower_le n (min k (suc x)) (omega arith))

-- numbers from n on do not lower n
from_first : (n : ℕ) (cs : List Cause) → all_from n cs ≡ true → lower n (lowest cs) ≡ n
from_first n [] t = refl
from_first n (c ∷ cs) t =
    let p = (and-eq-true_iff (leb n (cause_number c)) (all_from n cs)).0 t in
    lower_pick (applies c) n (cause_number c) (lowest cs) (leb-true n (cause_number c) p.0) (from_first n cs p.1)

given_first : (c : Cause) (cs : List Cause) → pick (applies c) (cause_number c) (number_given cs) ≡ number_given (c ∷ cs)
unfolding judged
given_first (when bad why) cs = refl
given_first (unless true why) cs = refl
given_first (unless false why) cs = refl

pub lowest_given : LowestGiven
unfolding judged
lowest_given [] t = refl
lowest_given (c ∷ cs) t =
    let p = (and-eq-true_iff (all_from (cause_number c) cs) (rising cs)).0 t in
    ap₂ (λ (x y : ℕ). pick (applies c) x y) (from_first (cause_number c) cs p.0) (lowest_given cs p.1)
    ∙ given_first c cs
