-- The tables of marks, computed.
use mathlib.Core.Path.{refl}
use Rattle.cases.specs.Marks.{marks_set, marks_cleared, marks_kept, marks_stop, marks_passed, marks_invalid, MarksHold}
use Rattle.cases.proofs.Computed.{left, said, each}

pub marks_hold : MarksHold
unfolding marks_set marks_cleared marks_kept marks_stop marks_passed marks_invalid left said
marks_hold = (
  each marks_set refl,
  each marks_cleared refl,
  each marks_kept refl,
  each marks_stop refl,
  each marks_passed refl,
  each marks_invalid refl,
)
