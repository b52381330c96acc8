use lib.Bits.{and_mod}
use Rattle.alu.specs.Logic.{and_of}
use Rattle.alu.proofs.logic.and.Goals as goal

pub returns : goal.returns
unfolding and_of
returns c = rw (← and_mod, ← c.low.ensures.value) c.plain.ensures
