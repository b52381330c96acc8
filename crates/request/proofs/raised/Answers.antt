use Rattle.std.proofs.Common.{refl, le-ltb, lt-ltb}
use Rattle.request.proofs.raised.Goals as goal

pub returns-then-l-lt7 : goal.returns-then-l-lt7
returns-then-l-lt7 c = rw (lt-ltb _ _ c.if-l-lt7.true) refl

pub returns-else-l-lt7 : goal.returns-else-l-lt7
returns-else-l-lt7 c = rw (le-ltb _ _ c.if-l-lt7.false) refl
