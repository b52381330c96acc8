use Rattle.alu.specs.Extend.{extz_of}
use Rattle.alu.proofs.extend.extz.Goals as goal

pub returns-in-Byte : goal.returns-in-Byte
unfolding extz_of
returns-in-Byte c = rw c.in-Byte.is

pub returns-in-Word : goal.returns-in-Word
unfolding extz_of
returns-in-Word c = rw c.in-Word.is

pub returns-in-Long : goal.returns-in-Long
unfolding extz_of
returns-in-Long c = rw c.in-Long.is
