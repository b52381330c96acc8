use native.Mathlib.Omega.{arith}
use Rattle.code.specs.Listed.{absolute_rows}
use Rattle.code.specs.Rows.{lookup}
use Rattle.code.specs.Said.{judge}
use Rattle.code.proofs.FirstRows.{indirect_form, displaced_form, absolute_form, no_absolute, no_memory}
use Rattle.forms.proofs.begin.Goals as goal

pub returns-in-16 : goal.returns-in-16
returns-in-16 c = rw (indirect_form _ c.in-16.is)

pub returns-in-17 : goal.returns-in-17
returns-in-17 c = rw (displaced_form _ c.in-17.is) (c.with_number.ensures _)

pub returns-in-0 : goal.returns-in-0
unfolding absolute_rows lookup
returns-in-0 c = rw (absolute_form _ c.in-24.is, c.in-0.is) (c.with_number-in-0.ensures _)

pub returns-in-1 : goal.returns-in-1
unfolding absolute_rows lookup
returns-in-1 c = rw (absolute_form _ c.in-24.is, c.in-1.is) (c.with_number-in-1.ensures _)

pub returns-in-2 : goal.returns-in-2
unfolding absolute_rows lookup
returns-in-2 c = rw (absolute_form _ c.in-24.is, c.in-2.is) (c.with_number-in-2.ensures _)

pub returns-in_default-r : goal.returns-in_default-r
unfolding judge
returns-in_default-r c = rw (absolute_form _ c.in-24.is, no_absolute _ _ c.in_default-r.in_default-r-own.rest)

pub returns-in_default : goal.returns-in_default
unfolding judge
returns-in_default c = rw (no_memory _ (omega arith) c.in_default.in_default-own.rest)
