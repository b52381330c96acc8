use mathlib.Core.Path.{refl}
use native.Mathlib.Omega.{arith}
use borrow.Author.Tests.{ne_eqb}
use Rattle.state.proofs.named.sixteen.Goals as goal

pub returns-in-13 : goal.returns-in-13
returns-in-13 c = (simp c.in-13.is, omega arith)

pub returns-in-14 : goal.returns-in-14
returns-in-14 c = (simp c.in-14.is, omega (arith, c.requires))

pub returns-in-15 : goal.returns-in-15
returns-in-15 c = (simp c.in-15.is, omega arith)

pub returns-in_default : goal.returns-in_default
returns-in_default c = (rw (ne_eqb _ 13 c.in_default.in_default-own.rest.0.0.1, ne_eqb _ 14 c.in_default.in_default-own.rest.0.1, ne_eqb _ 15 c.in_default.in_default-own.rest.1) refl, omega (arith, c.requires))
