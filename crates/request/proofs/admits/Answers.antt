use Rattle.std.proofs.Common.{refl, eq-eqb, ne_eqb}
use Rattle.request.specs.Request.{takes}
use Rattle.request.proofs.admits.Goals as goal

pub returns-then-mask-eq0 : goal.returns-then-mask-eq0
unfolding takes
returns-then-mask-eq0 c = rw (eq-eqb _ _ c.if-mask-eq0.true) refl

pub returns : goal.returns
unfolding takes
returns c = rw (ne_eqb _ _ c.if-mask-eq0.false) refl
