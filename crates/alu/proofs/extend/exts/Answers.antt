use Rattle.alu.specs.Extend.{extz_of, exts_of}
use Rattle.alu.proofs.extend.exts.Goals as goal

pub returns-in-Byte : goal.returns-in-Byte
unfolding exts_of extz_of
returns-in-Byte c = rw c.in-Byte.is c.extended.ensures

pub returns-in-Word : goal.returns-in-Word
unfolding exts_of extz_of
returns-in-Word c = rw c.in-Word.is c.extended-in-Word.ensures

pub returns-in-Long : goal.returns-in-Long
unfolding exts_of extz_of
returns-in-Long c = rw c.in-Long.is c.extended-in-Long.ensures
