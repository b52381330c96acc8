use mathlib.Core.Path.{refl}
use Rattle.state.specs.State.{zero_state}
use Rattle.state.proofs.State.zero.Goals as goal

pub returns : goal.returns
unfolding zero_state
returns c = refl
