use Rattle.flags.proofs.Turned.{turned_sum}
use Rattle.flags.proofs.sum.turned.Goals as goal

pub returns : goal.returns
returns c = turned_sum c.args.x c.args.y c.args.r c.ranges.x.fits c.ranges.y.fits c.ranges.r.fits
