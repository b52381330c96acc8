use borrow.Author.Tests.{lt-ltb, le-ltb}
use Rattle.flags.specs.Condition.{holds_of}
use Rattle.flags.proofs.condition.holds.Goals as goal

pub returns-then-cc-lt8 : goal.returns-then-cc-lt8
unfolding holds_of
returns-then-cc-lt8 c = simp (lt-ltb _ _ c.if-cc-lt8.true) c.basic-b.ensures

pub returns : goal.returns
unfolding holds_of
returns c = simp (le-ltb _ _ c.if-cc-lt8.false, c.basic-b.ensures)
