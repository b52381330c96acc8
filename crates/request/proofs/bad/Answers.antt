use Rattle.std.proofs.Common.{refl}
use Rattle.request.proofs.bad.Goals as goal

pub returns : goal.returns
returns c = refl
