-- `command_of` meets its contract: a code is that of an on or off, or of a bright or dim, and its b and c are those of the command named here.
use Rattle.std.specs.Prelude.{Result, Ok}
use mathlib.Core.Path.{refl, sym, ap, ◌∙◌}
use mathlib.Core.Bool.{and-eq-true_iff}
use mathlib.Core.Logic.{⊎_elim}
use Prim.Native.Nat.{ℕ}
use Rattle.radio.specs.Codes.{code_from, among}
use Rattle.ground.specs.declared.Refusal.{Refusal}
use Rattle.radio.specs.declared.RadioCommand.{RadioCommand}
use Rattle.radio.specs.declared.RadioCommand.TheVariants.{Bright, Dim}
use Rattle.radio.proofs.ReaderLaws.{of_step_lem, bright_named, dim_named, answered, unanswered}
use Rattle.radio.proofs.command_of.Goals as goal

pub returns-then-is_switch : goal.returns-then-is_switch
returns-then-is_switch c =
    let a = c.args in
    let one = ((and-eq-true_iff (among (code_from a.b a.c)) _).0 (sym c.is_switch.ensures ∙ c.if-is_switch.true)).0 in
    ap {B = Result RadioCommand Refusal} Ok c.switch_of.ensures ∙ answered a.b a.c _ (one, refl)

pub returns-then-not-is_step : goal.returns-then-not-is_step
returns-then-not-is_step c =
    let a = c.args in
    unanswered a.b a.c (sym c.is_switch.ensures ∙ c.if-is_switch.false)
    (sym c.is_step.ensures ∙ c.if-not-is_step.true)

pub returns-then-c-eq136 : goal.returns-then-c-eq136
returns-then-c-eq136 c =
    let p = of_step_lem c.args.b c.args.c (sym c.is_step.ensures ∙ c.if-not-is_step.false) in
    ap {B = Result RadioCommand Refusal} (λ (h : ℕ). Ok (Bright h)) c.house_of_nibble-house.ensures
    ∙ answered c.args.b c.args.c _ (bright_named c.args.b c.args.c c.ranges.b.fits p.0 c.if-c-eq136.true)

pub returns : goal.returns
returns c =
    let p = of_step_lem c.args.b c.args.c (sym c.is_step.ensures ∙ c.if-not-is_step.false) in
    let dims = ⊎_elim (λ e. absurd (c.if-c-eq136.false e)) (λ e. e) p.1 in
    ap {B = Result RadioCommand Refusal} (λ (h : ℕ). Ok (Dim h)) c.house_of_nibble-house.ensures
    ∙ answered c.args.b c.args.c _ (dim_named c.args.b c.args.c c.ranges.b.fits p.0 dims)
