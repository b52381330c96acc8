use mathlib.Core.Path.{refl}
use borrow.Author.Tests.{eq-eqb, ne_eqb}
use Rattle.state.proofs.byte_part.Goals as goal

pub returns-then-code-eq0 : goal.returns-then-code-eq0
returns-then-code-eq0 c = rw (eq-eqb _ _ c.if-code-eq0.true) refl

pub returns-else-code-eq0 : goal.returns-else-code-eq0
returns-else-code-eq0 c = rw (ne_eqb _ _ c.if-code-eq0.false) refl
