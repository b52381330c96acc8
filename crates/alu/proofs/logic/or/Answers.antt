use lib.Bits.{or_mod}
use Rattle.alu.specs.Logic.{or_of}
use Rattle.alu.proofs.logic.or.Goals as goal

pub returns : goal.returns
unfolding or_of
returns c = rw (← or_mod, ← c.low.ensures.value) c.plain.ensures
