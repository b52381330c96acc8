use mathlib.Core.Path.{◌∙◌}
use Rattle.state.specs.Register.{register_at}
use Rattle.state.proofs.State.register.Goals as goal

pub returns : goal.returns
unfolding register_at
returns c = c.get.ensures ∙ simp c.slot_of.ensures
