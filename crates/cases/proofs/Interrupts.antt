-- The tables of interrupts, computed.
use mathlib.Core.Path.{refl}
use mathlib.Core.List.{[], ◌∷◌}
use Rattle.step.specs.Step.{step_of}
use Rattle.cases.specs.Interrupts.{enables, pushes, pops, returns, masked, accepted, turned_away, nestings, gaps, InterruptsHold, HandlerMet}
use Rattle.cases.proofs.Computed.{left, said, each, came, told, each_tale}

pub interrupts_hold : InterruptsHold
unfolding enables pushes pops returns masked accepted turned_away nestings gaps left said came told
interrupts_hold = (
  each enables refl,
  each pushes refl,
  each pops refl,
  each returns refl,
  each_tale masked refl,
  each_tale accepted refl,
  each_tale turned_away refl,
  each_tale nestings refl,
  each_tale gaps refl,
)

pub handler_met : HandlerMet
unfolding left came step_of
handler_met = (
  refl,
  record { came = refl; registers = refl; spare = refl; nesting = refl; stack = refl; rest = 0x00 ∷ []; reti = refl },
)
