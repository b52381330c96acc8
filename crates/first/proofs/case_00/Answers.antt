use mathlib.Core.Path.{refl}
use Rattle.code.specs.Said.{judge}
use Rattle.code.proofs.FirstRows.{first, no_00}
use Rattle.first.proofs.case_00.Goals as goal

pub returns-in-0 : goal.returns-in-0
unfolding first judge
returns-in-0 c = rw c.in-0.is refl

pub returns-in-2 : goal.returns-in-2
unfolding first judge
returns-in-2 c = rw c.in-2.is refl

pub returns-in-3 : goal.returns-in-3
unfolding first judge
returns-in-3 c = rw c.in-3.is refl

pub returns-in-6 : goal.returns-in-6
unfolding first
returns-in-6 c = rw c.in-6.is c.up_to_seven.ensures

pub returns-in-7 : goal.returns-in-7
unfolding first judge
returns-in-7 c = rw c.in-7.is refl

pub returns-in-12 : goal.returns-in-12
unfolding first judge
returns-in-12 c = rw c.in-12.is refl

pub returns-in-13 : goal.returns-in-13
unfolding first judge
returns-in-13 c = rw c.in-13.is refl

pub returns-in-14 : goal.returns-in-14
unfolding first judge
returns-in-14 c = rw c.in-14.is refl

pub returns-in_default : goal.returns-in_default
unfolding judge
returns-in_default c = rw (no_00 _ c.requires c.in_default.in_default-own.rest) refl
