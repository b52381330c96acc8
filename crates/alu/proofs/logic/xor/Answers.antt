use lib.Bits.{xor_mod}
use Rattle.alu.specs.Logic.{xor_of}
use Rattle.alu.proofs.logic.xor.Goals as goal

pub returns : goal.returns
unfolding xor_of
returns c = rw (← xor_mod, ← c.low.ensures.value) c.plain.ensures
