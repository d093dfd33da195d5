-- `form_of` meets its contract: each arm is the definition's case for its number.
use native.Mathlib.Omega.{arith}
use Rattle.std.proofs.Common.{ne_eqb}
use Rattle.lynx_net.specs.Payloads.{form_of}
use Rattle.lynx_net.proofs.payload.form_of.Goals as goal

pub returns-in-8 : goal.returns-in-8
unfolding form_of
returns-in-8 c = simp c.in-8.is

pub returns-in-18 : goal.returns-in-18
unfolding form_of
returns-in-18 c = simp c.in-18.is

pub returns-in-19 : goal.returns-in-19
unfolding form_of
returns-in-19 c = simp c.in-19.is

pub returns-in-31 : goal.returns-in-31
unfolding form_of
returns-in-31 c = simp c.in-31.is

pub returns-in-16 : goal.returns-in-16
unfolding form_of
returns-in-16 c = simp c.in-16.is

pub returns-in-17 : goal.returns-in-17
unfolding form_of
returns-in-17 c = simp c.in-17.is

pub returns-in-22 : goal.returns-in-22
unfolding form_of
returns-in-22 c = simp c.in-22.is

pub returns-in-29 : goal.returns-in-29
unfolding form_of
returns-in-29 c = simp c.in-29.is

pub returns-in-30 : goal.returns-in-30
unfolding form_of
returns-in-30 c = simp c.in-30.is

pub returns-in-176 : goal.returns-in-176
unfolding form_of
returns-in-176 c = simp c.in-176.is

pub returns-in-177 : goal.returns-in-177
unfolding form_of
returns-in-177 c = simp c.in-177.is

pub returns-in-32 : goal.returns-in-32
unfolding form_of
returns-in-32 c = simp c.in-32.is

pub returns-in-33 : goal.returns-in-33
unfolding form_of
returns-in-33 c = simp c.in-33.is

pub returns-in-34 : goal.returns-in-34
unfolding form_of
returns-in-34 c = simp c.in-34.is

pub returns-in_default : goal.returns-in_default
unfolding form_of
returns-in_default c =
    simp (
      ne_eqb c.args.code 8 (omega arith),
      ne_eqb c.args.code 18 (omega arith),
      ne_eqb c.args.code 19 (omega arith),
      ne_eqb c.args.code 31 (omega arith),
      ne_eqb c.args.code 16 (omega arith),
      ne_eqb c.args.code 17 (omega arith),
      ne_eqb c.args.code 22 (omega arith),
      ne_eqb c.args.code 29 (omega arith),
      ne_eqb c.args.code 30 (omega arith),
      ne_eqb c.args.code 176 (omega arith),
      ne_eqb c.args.code 177 (omega arith),
      ne_eqb c.args.code 32 (omega arith),
      ne_eqb c.args.code 33 (omega arith),
      ne_eqb c.args.code 34 (omega arith),
    )
