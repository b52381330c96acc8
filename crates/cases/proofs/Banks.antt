-- The table of registers by a code byte, computed.
use mathlib.Core.Path.{refl}
use Rattle.cases.specs.Banks.{elsewhere, dashed, counting, unnamed, BanksHold}
use Rattle.cases.proofs.Computed.{left, said, each}

pub banks_hold : BanksHold
unfolding elsewhere dashed counting unnamed left said
banks_hold = (each elsewhere refl, each dashed refl, each counting refl, each unnamed refl)
