use Rattle.flags.proofs.Half.{bit_four}
use Rattle.flags.proofs.sum.half.Goals as goal

pub returns : goal.returns
returns c = bit_four c.args.a c.args.b c.args.r c.args.k
