use mathlib.Core.Path.{refl}
use Rattle.flags.specs.Flag.{packed_of}
use Rattle.flags.proofs.flag.pack.Goals as goal

pub returns : goal.returns
unfolding packed_of
returns c = rw c.byte.ensures refl
