-- The eight operations on two operands of k bits, with the carry that was.
use Rattle.std.specs.Prelude.{ℕ, Bool, false}
use Rattle.flags.specs.{declared.Computed.Computed, Sums.sum_of, Sums.difference_of}
use Rattle.alu.specs.{declared.Arith.Arith, Logic.and_of, Logic.or_of, Logic.xor_of}
use Rattle.alu.specs.declared.Arith.TheVariants.{Add, Adc, Sub, Sbc, And, Xor, Or, Cp}

-- ADD, SUB and CP leave the carry out, ADC and SBC take it; CP is SUB, and its value is put nowhere (step)
unfoldable pub operated : Arith → ℕ → ℕ → ℕ → Bool → Computed
operated Add k a b c = sum_of k a b false
operated Adc k a b c = sum_of k a b c
operated Sub k a b c = difference_of k a b false
operated Sbc k a b c = difference_of k a b c
operated And k a b c = and_of k a b
operated Xor k a b c = xor_of k a b
operated Or k a b c = or_of k a b
operated Cp k a b c = difference_of k a b false
