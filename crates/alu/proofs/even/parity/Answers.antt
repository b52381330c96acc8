use mathlib.Core.Path.{◌∙◌}
use Rattle.alu.specs.inner.Parity.{parity_of}
use Rattle.alu.proofs.Ones.{even_low, even_halves}
use Rattle.alu.proofs.even.parity.Goals as goal

pub returns-in-Byte : goal.returns-in-Byte
unfolding parity_of
returns-in-Byte c = rw c.in-Byte.is (c.even_ones.ensures ∙ even_low 8 c.args.x)

pub returns-in-Word : goal.returns-in-Word
unfolding parity_of
returns-in-Word c = rw c.in-Word.is (c.even_ones-in-Word.ensures ∙ even_halves 8 c.args.x)

pub returns-in-Long : goal.returns-in-Long
unfolding parity_of
returns-in-Long c = rw c.in-Long.is
