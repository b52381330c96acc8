use Rattle.alu.specs.Shift.{places_of}
use borrow.Author.Tests.{ne_eqb}
use Rattle.alu.proofs.shifter.places_of.Goals as goal

pub returns-then-code-eq0 : goal.returns-then-code-eq0
unfolding places_of
returns-then-code-eq0 c = simp c.if-code-eq0.true

pub returns-else-code-eq0 : goal.returns-else-code-eq0
unfolding places_of
returns-else-code-eq0 c = simp (ne_eqb _ _ c.if-code-eq0.false)
