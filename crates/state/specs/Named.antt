-- Every part of every bank, by a code byte (request K1). 000's picture of this map is lost: docs/DECISIONS.md says what it stands on.
use Rattle.std.specs.Prelude.{ℕ, ◌+◌, ◌-◌, ◌*◌, ◌/◌, ◌%◌, List, Bool, ◌&&◌, ◌||◌, cond, get_or, ltb, leb, eqb}
use Rattle.little.specs.declared.Size.{Size}
use Rattle.little.specs.declared.Size.TheVariants.{Byte, Word, Long}
use Rattle.state.specs.{declared.State.State, State.long_of, State.with_long, Register.get_bits, Register.set_bits}

-- The twenty longs are eighty bytes, the low byte of a long first: sixteen of each bank, XWA XBC XDE XHL, and sixteen of XIX XIY XIZ
-- XSP. A code's high digit says which sixteen: D those of the bank before the current one, E of the current one, F the last, and 0 to 3
-- those of the bank with that number
abbrev pub sixteen_of : ℕ → ℕ → ℕ
sixteen_of bank d = cond (eqb d 0xD) ((bank + 3) % 4) (cond (eqb d 0xE) bank (cond (eqb d 0xF) 4 (d % 4)))

-- and its low digit which of them: the byte of the eighty that a code stands for
unfoldable pub byte_named : ℕ → ℕ → ℕ
byte_named bank code = 16 * sixteen_of bank (code / 16) + code % 16

-- 40 to CF name nothing, and a register of n bytes has a code that is a multiple of n
abbrev pub is_named : ℕ → ℕ → Bool
is_named n code = (ltb code 0x40 || leb 0xD0 code) && eqb (code % n) 0

-- a part of the registers: which of the twenty longs, its first bit there, and how many bits; or none at all
pub data Bits : Type 0 where
  bits : ℕ → ℕ → ℕ → Bits
  nowhere : Bits

-- what a code names that has n bytes, where a bank is the current one: those bytes of the eighty
unfoldable pub named : ℕ → ℕ → ℕ → Bits
named bank n code = cond (is_named n code) (bits (byte_named bank code / 4) (8 * (byte_named bank code % 4)) (8 * n)) nowhere

-- what it holds, among twenty longs, and the state with v written to it; what is nowhere holds 0 and is not written
unfoldable pub held_in : List ℕ → Bits → ℕ
held_in registers (bits i o k) = get_bits o k (get_or registers i 0)
held_in registers nowhere = 0

unfoldable pub with_held : State → Bits → ℕ → State
with_held s (bits i o k) v = with_long s i (set_bits o k (long_of s i) v)
with_held s nowhere v = s

-- the code of the register that 01 has as r, 0 to 7, of a size: W A B C D E H L are E1 E0 E5 E4 E9 E8 ED EC; WA BC DE HL IX IY IZ SP,
-- and their longs, are E0 E4 E8 EC F0 F4 F8 FC
abbrev pub code_for : Size → ℕ → ℕ
code_for Byte r = 0xE0 + 4 * (r / 2) + (1 - r % 2)
code_for Word r = 0xE0 + 4 * r
code_for Long r = 0xE0 + 4 * r
