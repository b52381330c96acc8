use mathlib.Core.Path.{refl}
use Rattle.state.proofs.named.is_named.Goals as goal

pub returns : goal.returns
returns c = rw c.spacing.ensures.0 refl
