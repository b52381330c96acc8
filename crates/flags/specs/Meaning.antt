-- What carry, borrow, half carry and overflow mean, for every width of k bits. Each statement is proved in proofs/Meaning.antt.
use Rattle.std.specs.Prelude.{ℕ, ◌+◌, ◌-◌, ◌*◌, ◌%◌, ◌^◌, ◌≤◌, ◌<◌, ◌≡◌, Bool, not, cond, ◌&&◌, leb, ltb}
use Rattle.flags.specs.{Width.low, Width.negative, Width.one, Sums.sum_of, Sums.difference_of}

-- the value and the carry together are the exact sum
abbrev pub SumIsExact : Type 0
SumIsExact = (k a b : ℕ) (c : Bool) → (sum_of k a b c).value + 2 ^ k * one (sum_of k a b c).flags.c ≡ low k a + low k b + one c

-- the value is the exact difference, with 2 ^ k borrowed where the borrow is 1
abbrev pub DifferenceIsExact : Type 0
DifferenceIsExact = (k a b : ℕ) (c : Bool) → (difference_of k a b c).value + low k b + one c ≡ low k a + 2 ^ k * one (difference_of k a b c).flags.c

-- the same of the low four bits, with H: the carry from bit 3 to bit 4, and the borrow
abbrev pub SumHalf : Type 0
SumHalf = (k a b : ℕ) (c : Bool) → 4 ≤ k → k < 32 → (sum_of k a b c).value % 16 + 16 * one (sum_of k a b c).flags.h ≡ a % 16 + b % 16 + one c

-- the same of a difference: the borrow from bit 4
abbrev pub DifferenceHalf : Type 0
DifferenceHalf =
    (k a b : ℕ) (c : Bool) → 4 ≤ k → k < 32 → (difference_of k a b c).value % 16 + b % 16 + one c ≡ a % 16 + 16 * one (difference_of k a b c).flags.h

-- a number x of k bits stands for x, or for x - 2 ^ k where its top bit is one: what is taken off
abbrev pub off : ℕ → ℕ → ℕ
off k x = cond (negative k x) (2 ^ k) 0

-- whether the whole number p - m is one of k bits with a sign: at least - 2 ^ (k - 1), and below 2 ^ (k - 1)
abbrev pub signed_fits : ℕ → ℕ → ℕ → Bool
signed_fits k p m = leb m (p + 2 ^ (k - 1)) && ltb p (m + 2 ^ (k - 1))

-- V of a sum is 1 exactly where (x - off x) + (y - off y) + c does not fit
abbrev pub SumOverflows : Type 0
SumOverflows =
    (k a b : ℕ) (c : Bool) → 0 < k → (sum_of k a b c).flags.v ≡ not (signed_fits k (low k a + low k b + one c) (off k (low k a) + off k (low k b)))

-- V of a difference is 1 exactly where (x - off x) - (y - off y) - c does not fit
abbrev pub DifferenceOverflows : Type 0
DifferenceOverflows =
    (k a b : ℕ) (c : Bool) → 0 < k →
    (difference_of k a b c).flags.v ≡ not (signed_fits k (low k a + off k (low k b)) (low k b + one c + off k (low k a)))
