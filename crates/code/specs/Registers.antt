-- The byte after a register form's register.
use Rattle.std.specs.Prelude.{ℕ, zero, suc, ◌+◌, ◌*◌, ◌/◌, ◌%◌, List, [], ◌∷◌, Bool, true, false, eqb}
use Rattle.little.specs.{declared.Size.Size, declared.Size.TheVariants.Byte, declared.Size.TheVariants.Word, declared.Size.TheVariants.Long, Width.bytes_of}
use Rattle.state.specs.Named.{is_named}
use Rattle.feed.specs.Cycle.{is_table}
use Rattle.feed.specs.declared.scale.{Scale.Scale, Scale.TheVariants.Mul, Scale.TheVariants.Muls, Scale.TheVariants.Div, Scale.TheVariants.Divs}
use Rattle.feed.specs.declared.cycle.{Cycle.Cycle, Stride.Stride, Stride.TheVariants.One, Stride.TheVariants.Two, Stride.TheVariants.Four}
use Rattle.feed.specs.declared.cycle.Cycle.TheVariants.{Minc, Mdec}
use Rattle.alu.specs.declared.{Arith.Arith, Shift.Shift}
use Rattle.alu.specs.declared.Arith.TheVariants.{Add, Adc, Sub, Sbc, And, Xor, Or, Cp}
use Rattle.alu.specs.declared.Shift.TheVariants.{Sla, Sra, Sll, Srl}
use Rattle.alu.specs.declared.change.Change.TheVariants.{Inc, Dec, ShiftBy, Extz, Exts}
use Rattle.code.specs.{declared.Op.TheVariants.Puts, declared.Side.TheVariants.First, declared.Side.TheVariants.With}
use Rattle.code.specs.declared.Operand.TheVariants.{Register, Named, Constant, Memory}
use Rattle.code.specs.{declared.Operand.Operand, Said.whole, Said.number, Rows.one, Rows.run, Rows.columns, Rows.Row}
use Rattle.code.specs.{Rows.◌⇒◌, Rows.by_rows, Rows.only, Rows.no_byte, Rows.only_word}
use Rattle.code.specs.declared.Use.TheVariants.{Number, From, Load, Compute, Changed, Scaled, ScaledWith, Cycled}

-- ADD ADC SUB SBC AND XOR OR CP by number, 0 to 7
abbrev pub arith_of : ℕ → Arith
arith_of zero = Add
arith_of (suc zero) = Adc
arith_of (suc (suc zero)) = Sub
arith_of (suc (suc (suc zero))) = Sbc
arith_of (suc (suc (suc (suc zero)))) = And
arith_of (suc (suc (suc (suc (suc zero))))) = Xor
arith_of (suc (suc (suc (suc (suc (suc zero)))))) = Or
arith_of (suc (suc (suc (suc (suc (suc (suc n))))))) = Cp

-- SLA SRA SLL SRL by number, 0 to 3
abbrev pub shift_kind : ℕ → Shift
shift_kind zero = Sla
shift_kind (suc zero) = Sra
shift_kind (suc (suc zero)) = Sll
shift_kind (suc (suc (suc n))) = Srl

-- a byte 00 to 0F
unfoldable pub places_rows : Size → Operand → Shift → List Row
places_rows z o shift = (run 0x00 0x0F ⇒ λ n. whole (Puts (Changed (ShiftBy shift n))) z o) ∷ []

-- MUL MULS DIV DIVS by number, 0 to 3
abbrev pub scale_kind : ℕ → Scale
scale_kind zero = Mul
scale_kind (suc zero) = Muls
scale_kind (suc (suc zero)) = Div
scale_kind (suc (suc (suc n))) = Divs

-- the steps 1, 2 and 4 by number, 0 to 2
abbrev pub stride_kind : ℕ → Stride
stride_kind zero = One
stride_kind (suc zero) = Two
stride_kind (suc (suc n)) = Four

-- whether a register of a size is the lower half of one twice as wide, which is then what MUL to DIVS name by it: A C E L of WA BC DE HL,
-- every word of a long, and what has a code byte that names the wider one too. No register is wider than a long
abbrev pub is_low : Size → Operand → Bool
is_low Byte (Register r) = eqb (r % 2) 1
is_low Word (Register r) = true
is_low Long (Register r) = false
is_low Byte (Named c) = is_named 2 c
is_low Word (Named c) = is_named 4 c
is_low Long (Named c) = false
is_low z (Constant n) = false
is_low z (Memory m) = false

-- a number less its step, low byte first. The low byte of an allowed one is itself allowed, so that it is judged at once
unfoldable pub last_rows : Size → Operand → Stride → (ℕ → Cycle) → ℕ → List Row
last_rows z o s how lo = (run 0x00 0xFF ⇒ λ hi. only (is_table s (lo + 256 * hi)) (whole (Puts (Cycled (how (lo + 256 * hi)))) z o)) ∷ []

unfoldable pub table_rows : Size → Operand → Stride → (ℕ → Cycle) → List Row
table_rows z o s how = (run 0x00 0xFF ⇒ λ lo. only (is_table s lo) (by_rows (last_rows z o s how lo))) ∷ []

-- request K7: 08 MUL, 09 MULS, 0A DIV, 0B DIVS of r, as the lower half of its register, and a constant; 40+R MUL, 48+R MULS, 50+R DIV, 58+R
-- DIVS of R, as the lower half of its register, by r. 38, 39, 3A MINC1, MINC2, MINC4 and 3C, 3D, 3E MDEC1, MDEC2, MDEC4, and the number
-- less the step (word only)
unfoldable pub feed_rows : Size → Operand → List Row
feed_rows z o =
    (run 0x08 0x0B ⇒ λ b. only (is_low z o) (number (bytes_of z) (λ n. whole (Puts (ScaledWith (scale_kind (b % 4)) n)) z o)))
    ∷ (run 0x40 0x5F ⇒ λ b. only (is_low z (Register (b % 8))) (whole (Puts (Scaled (scale_kind (b / 8 % 4)) (b % 8))) z o))
    ∷ (run 0x38 0x3A ⇒ λ b. only (only_word z) (by_rows (table_rows z o (stride_kind (b % 4)) (Minc (stride_kind (b % 4))))))
    ∷ (run 0x3C 0x3E ⇒ λ b. only (only_word z) (by_rows (table_rows z o (stride_kind (b % 4)) (Mdec (stride_kind (b % 4))))))
    ∷ []

-- 03 constant (load); 88+R load R from r; 98+R load r from R; 80, 90 .. F0 +R: ADD .. CP of R with r; C8 to CF and a constant:
-- ADD .. CP of r; 60+n INC, 68+n DEC; EC SLA, ED SRA, EE SLL, EF SRL and a byte 00 to 0F; 12 EXTZ, 13 EXTS (word and long only)
unfoldable pub register_rows : Size → Operand → List Row
register_rows z o =
    (one 0x03 ⇒ λ b. number (bytes_of z) (λ n. whole (Puts (Number n)) z o))
    ∷ (run 0x88 0x8F ⇒ λ b. whole (Puts (Load (b % 8))) z o)
    ∷ (run 0x98 0x9F ⇒ λ b. whole (Puts (From (b % 8))) z o)
    ∷ (columns 0x80 ⇒ λ b. whole (Puts (Compute (arith_of (b / 16 % 8)) (First (b % 8)))) z o)
    ∷ (run 0xC8 0xCF ⇒ λ b. number (bytes_of z) (λ n. whole (Puts (Compute (arith_of (b % 8)) (With n))) z o))
    ∷ (run 0x60 0x67 ⇒ λ b. whole (Puts (Changed (Inc (b % 8)))) z o)
    ∷ (run 0x68 0x6F ⇒ λ b. whole (Puts (Changed (Dec (b % 8)))) z o)
    ∷ (run 0xEC 0xEF ⇒ λ b. by_rows (places_rows z o (shift_kind (b % 4))))
    ∷ (one 0x12 ⇒ λ b. only (no_byte z) (whole (Puts (Changed Extz)) z o))
    ∷ (one 0x13 ⇒ λ b. only (no_byte z) (whole (Puts (Changed Exts)) z o))
    ∷ feed_rows z o
