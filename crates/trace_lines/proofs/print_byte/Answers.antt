-- `print_byte` meets its contract: which byte it is picks the case of `printed` and of `byte_after`.
use mathlib.Core.Path.{◌≡◌, refl, sym, ◌∙◌}
use mathlib.Core.Bool.{Bool, true, false, ◌||◌}
use Prim.Native.Nat.{ℕ, ◌≤◌}
use native.Mathlib.Omega.{arith}
use lib.Dec.{eqb}
use borrow.Author.Tests.{eqb-true}
use Rattle.trace_lines.specs.Trace.{is_half}
use Rattle.text.proofs.PutLaws.{put_none, put_as}
use Rattle.trace_lines.proofs.TraceLaws.{half_taken, byte_skipped, byte_refused}
use Rattle.trace_lines.proofs.print_byte.Goals as goal

-- the bytes of 0 and 1
half_at_least : (b : ℕ) → is_half b ≡ true → 48 ≤ b
half_at_least b h = go (eqb b 48) (eqb b 49) (eqb-true b 48) (eqb-true b 49) h
  where
    go : (x y : Bool) → (x ≡ true → b ≡ 48) → (y ≡ true → b ≡ 49) → (x || y) ≡ true → 48 ≤ b
    go true y e f t = omega (arith, e refl)
    go false y e f t = omega (arith, f t)

pub returns-then-b : goal.returns-then-b
returns-then-b c =
    let is = half_taken c.args.p c.args.b c.requires.0 c.if-b.true in
    (c.print_half.ensures.0 ∙ sym is.0, put_as (sym is.1) c.print_half.ensures.1)

pub returns-then-b-2 : goal.returns-then-b-2
returns-then-b-2 c =
    let is = byte_skipped c.args.p c.args.b c.requires.0 c.if-b.false c.if-b-2.true in
    (sym is.0, put_as (sym is.1) (put_none _ _))

pub returns : goal.returns
returns c =
    let is = byte_refused c.args.p c.args.b c.requires.0 c.if-b.false c.if-b-2.false in
    (sym is.0, put_as (sym is.1) c.put_line-place.ensures)
