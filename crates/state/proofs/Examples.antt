-- Worked cases, by computation.
use mathlib.Core.Path.{◌≡◌, refl}
use Rattle.little.specs.declared.Size.TheVariants.{Byte, Word, Long}
use Rattle.state.specs.State.{reset_state, long_of, with_long}
use Rattle.state.specs.Register.{get_bits, set_bits, slot_in, set_slot, slot_of, register_at, get_register, set_register}

-- HL 7350H: H is 73H; L 0FFH leaves H; XHL keeps its high half; XSP is 100H after reset
names :
    (get_register (set_register (reset_state 0) Word 3 0x7350) Byte 6 ≡ 0x73)
    × (get_register (set_register (set_register (reset_state 0) Word 3 0x7350) Byte 7 0xFF) Word 3 ≡ 0x73FF)
    × (get_register (set_register (set_register (reset_state 0) Long 3 0x12345678) Word 3 0x9ABC) Long 3 ≡ 0x12349ABC)
    × (get_register (reset_state 0) Long 7 ≡ 0x100)
    × (get_register (reset_state 0) Word 7 ≡ 0x100)
unfolding get_bits set_bits slot_in set_slot slot_of register_at set_register reset_state long_of with_long
names = (refl, refl, refl, refl, refl)
