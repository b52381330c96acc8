use Rattle.exec.proofs.low_at.Goals as goal

pub returns-in-Byte : goal.returns-in-Byte
returns-in-Byte c = rw c.in-Byte.is

pub returns-in-Word : goal.returns-in-Word
returns-in-Word c = rw c.in-Word.is
