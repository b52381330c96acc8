use mathlib.Core.Path.{refl}
use Rattle.flags.proofs.flag.settled.Goals as goal

pub returns : goal.returns
returns c = (refl, c.pack.ensures)
