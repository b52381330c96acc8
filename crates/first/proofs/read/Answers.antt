use mathlib.Core.Path.{refl}
use native.Mathlib.Omega.{arith}
use Rattle.code.specs.Said.{judge}
use Rattle.code.proofs.FirstRows.{set_byte, set_word, set_long, push_word, push_long, pop_word, pop_long, jump_short, jump_long, no_low, no_high}
use Rattle.first.proofs.read.Goals as goal

pub returns-in-4 : goal.returns-in-4
returns-in-4 c = rw (set_byte _ c.in-4.is) c.set.ensures

pub returns-in-5 : goal.returns-in-5
returns-in-5 c = rw (push_word _ c.in-5.is) (c.stack.ensures _)

pub returns-in-6 : goal.returns-in-6
returns-in-6 c = rw (set_word _ c.in-6.is) c.set-in-6.ensures

pub returns-in-7 : goal.returns-in-7
returns-in-7 c = rw (push_long _ c.in-7.is) (c.stack-in-7.ensures _)

pub returns-in-8 : goal.returns-in-8
returns-in-8 c = rw (set_long _ c.in-8.is) c.set-in-8.ensures

pub returns-in-9 : goal.returns-in-9
returns-in-9 c = rw (pop_word _ c.in-9.is) (c.stack-in-9.ensures _)

pub returns-in-11 : goal.returns-in-11
returns-in-11 c = rw (pop_long _ c.in-11.is) (c.stack-in-11.ensures _)

pub returns-in-0 : goal.returns-in-0
returns-in-0 c = c.case_00.ensures

pub returns-in-12 : goal.returns-in-12
returns-in-12 c = rw (jump_short _ c.in-12.if-this-lt11-own.false c.in-12.in_default-own.rest.1 c.in-12.if-this-lt14-own.true) c.control.ensures

pub returns-in-14 : goal.returns-in-14
returns-in-14 c = rw (jump_long c.args.b (omega arith) (omega arith)) c.control-in-14.ensures

pub returns-in_default : goal.returns-in_default
unfolding judge
returns-in_default c = rw (no_low _ c.in_default.if-this-lt2-own.false c.in_default.if-this-lt11-own.true c.in_default.in_default-own.rest) refl

pub returns-in_default-2 : goal.returns-in_default-2
unfolding judge
returns-in_default-2 c = rw (no_high c.args.b (omega arith) (omega arith)) refl
