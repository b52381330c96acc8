use mathlib.Core.Path.{refl}
use Rattle.state.specs.State.{reset_state}
use Rattle.state.proofs.State.at_reset.Goals as goal

pub returns : goal.returns
unfolding reset_state
returns c = refl
