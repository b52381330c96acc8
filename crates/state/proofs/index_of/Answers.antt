use borrow.Author.Tests.{lt-ltb, le-ltb}
use Rattle.state.proofs.index_of.Goals as goal

pub returns-then-code-lt4 : goal.returns-then-code-lt4
returns-then-code-lt4 c = simp (lt-ltb _ _ c.if-code-lt4.true)

pub returns-else-code-lt4 : goal.returns-else-code-lt4
returns-else-code-lt4 c = simp (le-ltb _ _ c.if-code-lt4.false)
