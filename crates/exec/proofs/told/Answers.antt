use mathlib.Core.Path.{refl}
use borrow.Author.Tests.{ne_eqb}
use Rattle.exec.proofs.told.Goals as goal

pub returns-then-n-eq0 : goal.returns-then-n-eq0
returns-then-n-eq0 c = rw c.if-n-eq0.true (refl, refl)

pub returns-then-n-eq1 : goal.returns-then-n-eq1
returns-then-n-eq1 c = rw c.if-n-eq1.true (refl, refl)

pub returns : goal.returns
returns c = rw (ne_eqb _ 0 c.if-n-eq0.false, ne_eqb _ 1 c.if-n-eq1.false) (c.on.ensures.0, c.on.ensures.1)
