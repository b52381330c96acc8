use mathlib.Core.Path.{refl}
use Rattle.saved.proofs.refuse.Goals as goal

pub returns : goal.returns
returns c = rw c.zero.ensures refl
