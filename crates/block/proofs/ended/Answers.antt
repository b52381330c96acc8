use Rattle.std.proofs.Common.{sym, refl, ◌∙◌}
use Rattle.state.specs.inner.Lent.{standing_at}
use Rattle.block.specs.Block.{ends_at}
use Rattle.block.proofs.ended.Goals as goal

pub returns : goal.returns
unfolding ends_at
returns c rest = rw (sym (c.goes_on.ensures (standing_at rest c.args.counter)) ∙ c.if-goes_on.false) refl
