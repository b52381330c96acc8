use mathlib.Core.Path.{refl}
use Rattle.code.specs.Said.{judge}
use Rattle.code.proofs.FirstRows.{first, no_10}
use Rattle.first.proofs.case_10.Goals as goal

pub returns-in-16 : goal.returns-in-16
unfolding first judge
returns-in-16 c = rw c.in-16.is refl

pub returns-in-17 : goal.returns-in-17
unfolding first judge
returns-in-17 c = rw c.in-17.is refl

pub returns-in-18 : goal.returns-in-18
unfolding first judge
returns-in-18 c = rw c.in-18.is refl

pub returns-in-19 : goal.returns-in-19
unfolding first judge
returns-in-19 c = rw c.in-19.is refl

pub returns-in-22 : goal.returns-in-22
unfolding first judge
returns-in-22 c = rw c.in-22.is refl

pub returns-in-23 : goal.returns-in-23
unfolding first
returns-in-23 c = rw c.in-23.is c.up_to_seven.ensures

pub returns-in_default : goal.returns-in_default
unfolding judge
returns-in_default c = rw (no_10 _ c.requires c.in_default.in_default-own.rest) refl
