use mathlib.Core.Path.{refl}
use Rattle.code.specs.Said.{judge}
use Rattle.code.proofs.FirstRows.{first, no_18}
use Rattle.first.proofs.case_18.Goals as goal

pub returns-in-24 : goal.returns-in-24
unfolding first judge
returns-in-24 c = rw c.in-24.is refl

pub returns-in-25 : goal.returns-in-25
unfolding first judge
returns-in-25 c = rw c.in-25.is refl

pub returns-in-26 : goal.returns-in-26
unfolding first
returns-in-26 c = rw c.in-26.is c.control.ensures

pub returns-in-27 : goal.returns-in-27
unfolding first
returns-in-27 c = rw c.in-27.is c.control-in-27.ensures

pub returns-in-28 : goal.returns-in-28
unfolding first
returns-in-28 c = rw c.in-28.is c.call.ensures

pub returns-in-29 : goal.returns-in-29
unfolding first
returns-in-29 c = rw c.in-29.is c.call-in-29.ensures

pub returns-in-30 : goal.returns-in-30
unfolding first
returns-in-30 c = rw c.in-30.is c.call-in-30.ensures

pub returns-in_default : goal.returns-in_default
unfolding judge
returns-in_default c = rw (no_18 _ c.requires c.in_default.in_default-own.rest) refl
