-- AND, OR and XOR of two operands of k bits.
use Rattle.std.specs.Prelude.{ℕ, Bool, true, false, bit_and, bit_or, bit_xor}
use Rattle.flags.specs.{declared.Computed.Computed, Width.low, Sums.computed_of, Undefined.by_parity, Undefined.undefined_of}
use Rattle.alu.specs.Parity.{even_ones}

-- a result of k bits whose V is its parity: 1 where the ones are even; N 0
unfoldable pub plain : ℕ → ℕ → Bool → Bool → Computed
plain k r h c = computed_of k (undefined_of (by_parity k)) r h (even_ones k r) false c

-- AND: H 1, C 0
unfoldable pub and_of : ℕ → ℕ → ℕ → Computed
and_of k a b = plain k (bit_and (low k a) (low k b)) true false

-- OR: H 0, C 0
unfoldable pub or_of : ℕ → ℕ → ℕ → Computed
or_of k a b = plain k (bit_or (low k a) (low k b)) false false

-- XOR: H 0, C 0
unfoldable pub xor_of : ℕ → ℕ → ℕ → Computed
xor_of k a b = plain k (bit_xor (low k a) (low k b)) false false
