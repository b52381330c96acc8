use borrow.Author.Tests.{lt-ltb, le-ltb}
use Rattle.code.specs.Said.{judge}
use Rattle.first.proofs.stack.Goals as goal

pub returns-then-r-ge7 : goal.returns-then-r-ge7
unfolding judge
returns-then-r-ge7 c = λ s. simp (le-ltb _ _ c.if-r-ge7.true)

pub returns : goal.returns
unfolding judge
returns c = λ s. simp (lt-ltb _ _ c.if-r-ge7.false)
