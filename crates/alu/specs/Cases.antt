-- Worked cases, as one table: what is computed, and the value and the F that it must have. All numbers but the widths are in hex.
use Rattle.std.specs.Prelude.{Bool, true, false, ◌&&◌, List, [], ◌∷◌, ℕ, zero, suc, ◌+◌, ◌*◌, ◌^◌, eqb}
use Rattle.flags.specs.{declared.Computed.Computed, declared.Flags.Flags, Flag.packed_of, Flag.flags_of, Flag.rcf_of, Flag.scf_of, Flag.ccf_of}
use Rattle.flags.specs.{Flag.zcf_of, Flag.copied_of, Flag.compared_of, Width.one, Condition.holds_of}
use Rattle.alu.specs.{Operation.operated, Shift.shift_of}
use Rattle.alu.specs.{Shift.places_of, Count.inc_of, Count.dec_of, Change.changed}
use Rattle.alu.specs.declared.Arith.TheVariants.{Add, Adc, Sub, Sbc, And, Xor, Or, Cp}
use Rattle.alu.specs.declared.Shift.TheVariants.{Sla, Sra, Sll, Srl}
use Rattle.alu.specs.declared.change.Change.{TheVariants.Extz, TheVariants.Exts}

-- a row of the table: what was computed has this value and this F, with its marks above it: 1xx marks H, 2xx V
abbrev is : Computed → ℕ → ℕ → Bool
is got value f = eqb got.value value && eqb (packed_of got.flags) f

-- flags with no value
abbrev only : Flags → Computed
only flags = record { value = 0; flags = flags }

-- the conditions below n that hold, as the bits of a number
unfoldable pub holding : ℕ → Flags → ℕ
holding zero f = 0
holding (suc n) f = one (holds_of f n) * 2 ^ n + holding n f

-- the table, in which every row must come out true
unfoldable pub alu_cases : List Bool
alu_cases =
    -- P1 to P9
    is (operated And 16 0x7350 0x3456 false) 0x3050 0x14 ∷ is (operated Or 16 0x7350 0x3456 false) 0x7756 0x04 ∷
    is (operated Xor 16 0x7350 0x3456 false) 0x4706 0x04 ∷ is (shift_of Sla 16 0x1234 (places_of 0x04)) 0x2340 0x05 ∷
    is (shift_of Sra 16 0x8230 (places_of 0x04)) 0xF823 0x84 ∷ is (shift_of Sla 8 0xFF (places_of 0x00)) 0x00 0x44 ∷
    is (operated Add 8 0x7F 0x01 false) 0x80 0x94 ∷ is (operated Sub 8 0x00 0x01 false) 0xFF 0x93 ∷
    is (inc_of (flags_of 0xD7) 16 0xFFFF 1) 0x0000 0xD7 ∷
    -- the book's worked examples
    is (operated Add 16 0x2000 0x3456 false) 0x5456 0x00 ∷ is (operated Adc 16 0x2000 0x3456 true) 0x5457 0x00 ∷
    is (operated Sub 16 0x7654 0x5000 false) 0x2654 0x02 ∷ is (operated Sbc 16 0x7654 0x5000 true) 0x2653 0x02 ∷
    is (operated Cp 16 0x1234 0x1234 false) 0x0000 0x42 ∷ is (inc_of (flags_of 0x00) 16 0x1234 5) 0x1239 0x00 ∷
    is (dec_of (flags_of 0xC5) 16 0x5678 4) 0x5674 0xC5 ∷ is (changed Extz 16 0x6789 (flags_of 0x13)) 0x0089 0x13 ∷
    is (changed Extz 32 0x12345678 (flags_of 0x13)) 0x00005678 0x13 ∷ is (changed Exts 16 0x6789 (flags_of 0x13)) 0xFF89 0x13 ∷
    is (shift_of Sll 16 0x1234 (places_of 0x04)) 0x2340 0x05 ∷ is (shift_of Srl 16 0x1238 (places_of 0x04)) 0x0123 0x05 ∷
    is (only (ccf_of (flags_of 0x00))) 0 0x101 ∷ is (only (ccf_of (ccf_of (flags_of 0x00)))) 0 0x100 ∷
    is (only (zcf_of (flags_of 0x00))) 0 0x101 ∷
    -- ends of ranges, longs, and what is kept
    is (operated Add 32 0xFFFFFFFF 1 true) 0 0x141 ∷ is (operated Adc 32 0x7FFFFFFF 0 true) 0x80000000 0x184 ∷
    is (operated Sbc 32 0 0xFFFFFFFF true) 0 0x143 ∷ is (operated Sub 8 0x80 0x01 true) 0x7F 0x16 ∷
    is (operated Sbc 8 0x7F 0xFF true) 0x7F 0x13 ∷ is (operated Cp 16 0x8000 1 true) 0x7FFF 0x16 ∷
    is (operated And 32 0xFFFFFFFF 0x80000001 true) 0x80000001 0x290 ∷
    is (operated Or 32 0xF0F0F0F0 0x0F0F0F0F true) 0xFFFFFFFF 0x280 ∷ is (operated Xor 32 0xDEADBEEF 0xDEADBEEF true) 0 0x240 ∷
    is (shift_of Sra 32 0x80000000 (places_of 0x00)) 0xFFFF8000 0x280 ∷
    is (shift_of Srl 32 0x80018000 (places_of 0x10)) 0x00008001 0x201 ∷ is (shift_of Sra 8 0x85 (places_of 0x01)) 0xC2 0x81 ∷
    is (inc_of (flags_of 0x01) 8 0xFF 1) 0x00 0x51 ∷ is (inc_of (flags_of 0x00) 8 0x7F 1) 0x80 0x94 ∷
    is (dec_of (flags_of 0x00) 8 0x00 1) 0xFF 0x92 ∷ is (dec_of (flags_of 0x01) 8 0x80 8) 0x78 0x17 ∷
    is (inc_of (flags_of 0x83) 32 0xFFFFFFFF 8) 0x00000007 0x83 ∷ is (changed Exts 32 0x12347FFF (flags_of 0x00)) 0x00007FFF 0x00 ∷
    is (changed Exts 32 0x00008000 (flags_of 0x00)) 0xFFFF8000 0x00 ∷ is (only (rcf_of (flags_of 0xFF))) 0 0xC4 ∷
    is (only (scf_of (flags_of 0xFE))) 0 0xC5 ∷ is (only (zcf_of (flags_of 0xD7))) 0 0x1C4 ∷
    is (only (copied_of (flags_of 0xD7) true)) 0 0xC5 ∷ is (only (copied_of (flags_of 0xD7) false)) 0 0xC1 ∷
    is (only (compared_of (flags_of 0x01) (operated Cp 8 0x33 0x33 false).flags true)) 0 0x47 ∷
    is (only (compared_of (flags_of 0x00) (operated Cp 8 0x33 0x44 false).flags false)) 0 0x92 ∷
    -- marks: of H and V cleared where they get a value; V's kept by RCF to ZCF; both by a word's count and by extensions
    is (only (rcf_of (flags_of 0x300))) 0 0x200 ∷ is (only (scf_of (flags_of 0x300))) 0 0x201 ∷
    is (only (ccf_of (flags_of 0x200))) 0 0x301 ∷ is (only (zcf_of (flags_of 0x240))) 0 0x340 ∷
    is (only (copied_of (flags_of 0x3C1) true)) 0 0xC5 ∷
    is (only (compared_of (flags_of 0x300) (operated Cp 16 0x33 0x33 false).flags true)) 0 0x46 ∷
    is (inc_of (flags_of 0x301) 8 0xFF 1) 0x00 0x51 ∷ is (dec_of (flags_of 0x301) 16 0x0000 1) 0xFFFF 0x301 ∷
    is (inc_of (flags_of 0x200) 32 0xFFFFFFFF 1) 0x00000000 0x200 ∷ is (changed Exts 32 0x8000 (flags_of 0x100)) 0xFFFF8000 0x100 ∷
    -- the sixteen conditions: of no flag, S, V, S and V, Z, C
    eqb (holding 16 (flags_of 0x00)) 0xFF00 ∷ eqb (holding 16 (flags_of 0x80)) 0xD926 ∷
    eqb (holding 16 (flags_of 0x04)) 0xE916 ∷ eqb (holding 16 (flags_of 0x84)) 0xCF30 ∷
    eqb (holding 16 (flags_of 0x40)) 0xB34C ∷ eqb (holding 16 (flags_of 0x01)) 0x7788 ∷ []
