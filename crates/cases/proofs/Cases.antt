-- The document's cases, computed.
use mathlib.Core.Path.{refl}
use Rattle.cases.specs.Cases.{cases, CasesHold}
use Rattle.cases.proofs.Computed.{left, said, each}

pub cases_hold : CasesHold
unfolding cases left said
cases_hold = (each (cases 0x00) refl, each (cases 0xD7) refl, each (cases 0x300) refl)
