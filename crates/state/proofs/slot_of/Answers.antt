use mathlib.Core.Path.{refl}
use Rattle.state.specs.Register.{slot_of}
use Rattle.state.proofs.slot_of.Goals as goal

pub returns-in-Byte : goal.returns-in-Byte
unfolding slot_of
returns-in-Byte c = rw (c.in-Byte.is, c.byte_part.ensures) refl

pub returns-in-Word : goal.returns-in-Word
unfolding slot_of
returns-in-Word c = rw (c.in-Word.is, c.index_of.ensures) refl

pub returns-in-Long : goal.returns-in-Long
unfolding slot_of
returns-in-Long c = rw (c.in-Long.is, c.index_of-in-Long.ensures) refl
