use Rattle.alu.specs.Parity.{ones_of, even_ones}
use Rattle.alu.proofs.Ones.{even_entry}
use Rattle.alu.proofs.even.even_ones.Goals as goal

pub returns : goal.returns
unfolding even_ones ones_of
returns c = even_entry c.args.x c.ranges.x.fits
