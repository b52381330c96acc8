-- Whether another round is done in the same call.
use Rattle.std.specs.Prelude.{ℕ, Bool, true, false, ◌&&◌, ltb}
use Rattle.memory.specs.declared.Place.{Place}
use Rattle.memory.specs.declared.Place.TheVariants.{Ram, Rom, Missing}
use Rattle.code.specs.declared.Form.{Form}
use Rattle.state.specs.declared.State.{State}
use Rattle.block.specs.Block.{goes_on}

-- whether a place is in ROM
abbrev pub in_rom : Place → Bool
in_rom (Ram o) = false
in_rom (Rom o) = true
in_rom (Missing x) = false

-- a form goes on, and there are rounds left for it
abbrev pub again_of : Form → ℕ → State → Bool
again_of f left s = ltb 0 left && goes_on f s
