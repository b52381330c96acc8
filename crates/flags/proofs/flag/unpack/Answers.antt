use mathlib.Core.Path.{refl}
use Rattle.flags.specs.Flag.{flags_of}
use Rattle.flags.proofs.flag.unpack.Goals as goal

pub returns : goal.returns
unfolding flags_of
returns c = refl
