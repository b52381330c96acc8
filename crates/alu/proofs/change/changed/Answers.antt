use mathlib.Core.Path.{refl}
use Rattle.alu.proofs.change.changed.Goals as goal

pub returns-in-Inc : goal.returns-in-Inc
returns-in-Inc c = rw (c.settled.ensures.0, c.settled.ensures.1, c.inc.ensures, c.steps_of.ensures, c.unpack.ensures, c.in-Inc.is) (refl, refl)

pub returns-in-Dec : goal.returns-in-Dec
returns-in-Dec c = rw (c.settled-in-Dec.ensures.0, c.settled-in-Dec.ensures.1, c.dec.ensures, c.steps_of-in-Dec.ensures, c.unpack-in-Dec.ensures, c.in-Dec.is) (refl, refl)

pub returns-in-ShiftBy : goal.returns-in-ShiftBy
returns-in-ShiftBy c = rw (c.settled-in-ShiftBy.ensures.0, c.settled-in-ShiftBy.ensures.1, c.shift_by.ensures, c.in-ShiftBy.is) (refl, refl)

pub returns-in-Extz : goal.returns-in-Extz
returns-in-Extz c = rw (c.settled-in-Extz.ensures.0, c.settled-in-Extz.ensures.1, c.keeping.ensures, c.extz.ensures, c.unpack-in-Extz.ensures, c.in-Extz.is) (refl, refl)

pub returns-in-Exts : goal.returns-in-Exts
returns-in-Exts c = rw (c.settled-in-Exts.ensures.0, c.settled-in-Exts.ensures.1, c.keeping-in-Exts.ensures, c.exts.ensures, c.unpack-in-Exts.ensures, c.in-Exts.is) (refl, refl)
