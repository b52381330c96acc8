use mathlib.Core.Path.{refl}
use Rattle.saved.proofs.fits_old.Goals as goal

pub returns : goal.returns
returns c = rw c.marks_byte.ensures refl
