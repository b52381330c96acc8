use Rattle.flags.proofs.Turned.{turned_less}
use Rattle.flags.proofs.sum.turned_less.Goals as goal

pub returns : goal.returns
returns c = turned_less c.args.x c.args.y c.args.r c.ranges.x.fits c.ranges.y.fits c.ranges.r.fits
