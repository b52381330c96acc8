-- Registers by size and code, through one naming of the parts of the twenty longs.
use Rattle.std.specs.Prelude.{ℕ, ◌+◌, ◌*◌, ◌/◌, ◌%◌, ◌^◌, cond, List, get_or, ltb, eqb}
use Rattle.little.specs.declared.Size.{Size}
use Rattle.little.specs.declared.Size.TheVariants.{Byte, Word, Long}
use Rattle.state.specs.{declared.Bank.Bank, declared.State.State, State.long_of, State.with_long}
use Rattle.state.specs.declared.Slot.{Slot}
use Rattle.state.specs.declared.Part.{Part}
use Rattle.state.specs.declared.Part.TheVariants.{Byte0, Byte1, Byte2, Byte3, Half0, Half1, Whole}

-- the k bits of x from bit o on
unfoldable pub get_bits : ℕ → ℕ → ℕ → ℕ
get_bits o k x = x / 2 ^ o % 2 ^ k

-- x with those bits replaced by the k low bits of v: what is above them, v, what is below them
unfoldable pub set_bits : ℕ → ℕ → ℕ → ℕ → ℕ
set_bits o k x v = (x / 2 ^ o / 2 ^ k * 2 ^ k + v % 2 ^ k) * 2 ^ o + x % 2 ^ o

-- where a part starts, and how many bits it has
abbrev pub span_of : Part → ℕ × ℕ
span_of Byte0 = (0, 8)
span_of Byte1 = (8, 8)
span_of Byte2 = (16, 8)
span_of Byte3 = (24, 8)
span_of Half0 = (0, 16)
span_of Half1 = (16, 16)
span_of Whole = (0, 32)

abbrev pub start_of : Part → ℕ
start_of p = (span_of p).0

abbrev pub width_of : Part → ℕ
width_of p = (span_of p).1

-- what a slot of twenty longs holds
unfoldable pub slot_in : List ℕ → Slot → ℕ
slot_in registers t = get_bits (start_of t.part) (width_of t.part) (get_or registers t.index 0)

-- what a slot holds
abbrev pub get_slot : State → Slot → ℕ
get_slot s t = slot_in s.registers t

-- the state with v written there
unfoldable pub set_slot : State → Slot → ℕ → State
set_slot s t v = with_long s t.index (set_bits (start_of t.part) (width_of t.part) (long_of s t.index) v)

-- codes 0 to 3 are XWA XBC XDE XHL of the bank, 4 to 7 are XIX XIY XIZ XSP
abbrev pub index_of : ℕ → ℕ → ℕ
index_of bank code = cond (ltb code 4) (4 * bank + code) (12 + code)

-- the high byte of a word has an even code, the low byte an odd one
abbrev pub byte_part : ℕ → Part
byte_part code = cond (eqb (code % 2) 0) Byte1 Byte0

-- Byte: W A B C D E H L, the high and the low byte of WA BC DE HL. Word: WA BC DE HL IX IY IZ SP, the low halves. Long: the whole
unfoldable pub slot_of : ℕ → Size → ℕ → Slot
slot_of bank Byte code = record { index = 4 * bank + code / 2; part = byte_part code }
slot_of bank Word code = record { index = index_of bank code; part = Half0 }
slot_of bank Long code = record { index = index_of bank code; part = Whole }

-- the register of a size and a code, in the current bank
abbrev pub named_in : State → Size → ℕ → Slot
named_in s size code = slot_of (s.bank.0 % 4) size (code % 8)

-- what that register holds, among twenty longs and in a bank
unfoldable pub register_at : List ℕ → Bank → Size → ℕ → ℕ
register_at registers bank size code = slot_in registers (slot_of (bank.0 % 4) size (code % 8))

-- and in a state
abbrev pub get_register : State → Size → ℕ → ℕ
get_register s size code = register_at s.registers s.bank size code

-- the state with v written to it
unfoldable pub set_register : State → Size → ℕ → ℕ → State
set_register s size code v = set_slot s (named_in s size code) v
