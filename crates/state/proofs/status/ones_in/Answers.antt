use borrow.Author.Tests.{eq-eqb, ne_eqb}
use Rattle.state.proofs.status.ones_in.Goals as goal

pub returns-then-sr-ne1 : goal.returns-then-sr-ne1
returns-then-sr-ne1 c = simp (ne_eqb _ _ c.if-sr-ne1.true)

pub returns : goal.returns
returns c = simp (eq-eqb _ _ c.if-sr-ne1.false)
