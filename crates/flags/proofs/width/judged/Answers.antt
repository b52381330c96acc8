use Rattle.flags.specs.Sums.{result_of}
use Rattle.flags.proofs.width.judged.Goals as goal

pub returns : goal.returns
unfolding result_of
returns c = rw c.negative.ensures
