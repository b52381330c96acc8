use Rattle.std.proofs.Common.{refl}
use Rattle.operand.proofs.pointer.Goals as goal

pub returns : goal.returns
returns c = rw c.read.ensures refl
