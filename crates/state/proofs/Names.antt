-- Each name of the table is the register that stands there, by computation.
use mathlib.Core.Path.{refl}
use Rattle.state.specs.State.{reset_state, long_of, with_long}
use Rattle.state.specs.Register.{get_bits, set_bits, slot_in, set_slot, slot_of, register_at, set_register}
use Rattle.state.specs.Named.{byte_named, named, held_in, with_held}
use Rattle.state.specs.Names.{NamesHold}

pub names_hold : NamesHold
unfolding reset_state get_bits set_bits slot_in set_slot slot_of register_at set_register byte_named named held_in with_held long_of with_long
names_hold = (refl, refl, refl)
