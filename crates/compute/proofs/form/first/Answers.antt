use mathlib.Core.Path.{refl, sym, ◌∙◌}
use Rattle.state.specs.State.{with_flags, with_both_flags}
use Rattle.state.specs.inner.Lent.{flagged_at}
use Rattle.operand.specs.Flag.{flagged}
use Rattle.compute.proofs.form.first.Goals as goal

pub returns-then-stores : goal.returns-then-stores
unfolding flagged with_flags with_both_flags
returns-then-stores c rest =
    rw (sym c.load.ensures ∙ c.in_ok-v.was, c.write.ensures (flagged_at rest rest.counter c.operate-w.new.flags), sym c.stores.ensures ∙ c.if-stores.true, c.operate-w.ensures.0, c.operate-w.ensures.1, c.read-x.ensures) refl
