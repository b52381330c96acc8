use mathlib.Core.Path.{refl}
use Rattle.state.specs.State.{valid_of}
use Rattle.state.proofs.State.valid.Goals as goal

pub returns : goal.returns
unfolding valid_of
returns c = rw (c.flags_valid.ensures, c.flags_valid-2.ensures) refl
