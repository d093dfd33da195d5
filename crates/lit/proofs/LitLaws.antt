-- Laws of the lit bytes.
--
--     lit_counted                          the lit byte of a valid table is the count over the records
--     lit_at_most                          which is at most 16
--     lit_is_the_count, that_byte_alone    LitIsTheCount, ThatByteAlone
--     lit_of-records, lit_lowest           LitOfRecords, LitLowest
use mathlib.Core.Path.{◌≡◌, refl, sym, ap, ◌∙◌}
use mathlib.Core.Bool.{true, and-eq-true_iff}
use mathlib.Core.List.{List}
use Prim.Native.Nat.{ℕ, ◌+◌, ◌*◌, ◌≤◌, ◌<◌}
use native.Mathlib.Omega.{arith}
use borrow.Author.Tests.{eqb-true, le-leb}
use lib.Dec.{eqb}
use Rattle.ground.specs.Choice.{pick}
use Rattle.ground.specs.Refusals.{judged}
use Rattle.ground.proofs.Causes.{lowest_given}
use Rattle.ground.proofs.Records.{below_at, sum-ext, sum-at_most, one_at_most}
use Rattle.record.specs.Layout.{UNITS, HOUSES, record_at, lit_byte, house_at}
use Rattle.record.specs.ModuleTable.{heard_ok, lit_of, lit_in, house_ok, table_ok}
use Rattle.module_table.proofs.HouseLaws.{whole}
use Rattle.lit.specs.Lit.{lit_causes, lit_answer, LitIsTheCount, ThatByteAlone, LitOfRecords, LitLowest}

pub lit_counted : (t : List ℕ) → table_ok t ≡ true → (h : ℕ) → h < HOUSES → lit_byte t h ≡ lit_in t h
unfolding house_at
lit_counted t ok h house =
    let own = below_at (λ g. house_ok (lit_in t g) (house_at t g)) HOUSES (whole t ok).houses h house in
    eqb-true (lit_byte t h) (lit_in t h) ((and-eq-true_iff (heard_ok (house_at t h).heard) (eqb (lit_byte t h) (lit_in t h))).0 own).1

pub lit_at_most : (t : List ℕ) (h : ℕ) → lit_in t h ≤ UNITS
lit_at_most t h = sum-at_most _ UNITS (λ n. one_at_most (eqb (record_at t (h * UNITS + n)).level 0))

pub lit_is_the_count : LitIsTheCount
unfolding lit_answer judged
lit_is_the_count h t house ok =
    let counted = lit_counted t ok h house in
    rw ((whole t ok).long, le-leb h 15 (omega arith), counted, le-leb (lit_in t h) 16 (lit_at_most t h))

pub that_byte_alone : ThatByteAlone
unfolding lit_answer
that_byte_alone h t u long same = rw (long, same)

pub lit_of-records : LitOfRecords
lit_of-records t u ok ok' same h house =
    lit_counted t ok h house
    ∙ sum-ext (λ n. lit_of (record_at t (h * UNITS + n))) (λ n. lit_of (record_at u (h * UNITS + n))) UNITS
    (λ n below. ap (λ (x : ℕ). pick (eqb x 0) 0 1) (same (h * UNITS + n) (omega arith)))
    ∙ sym (lit_counted u ok' h house)

pub lit_lowest : LitLowest
lit_lowest h t = lowest_given (lit_causes h t) refl
