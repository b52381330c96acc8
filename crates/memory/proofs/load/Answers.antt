-- `memory::load` meets its contract: by the arms of the size.
use mathlib.Core.Path.{refl, ◌∙◌}
use Rattle.memory.specs.Access.{load_of}
use Rattle.memory.proofs.load.Goals as goal

pub returns-in-Byte : goal.returns-in-Byte
unfolding load_of
returns-in-Byte c = c.load_bytes.ensures ∙ rw c.in-Byte.is refl

pub returns-in-Word : goal.returns-in-Word
unfolding load_of
returns-in-Word c = c.load_bytes-in-Word.ensures ∙ rw c.in-Word.is refl

pub returns-in-Long : goal.returns-in-Long
unfolding load_of
returns-in-Long c = c.load_bytes-in-Long.ensures ∙ rw c.in-Long.is refl
