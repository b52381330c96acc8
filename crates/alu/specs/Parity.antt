-- The number of ones, whose parity is V of logic and shifts.
use Rattle.std.specs.Prelude.{ℕ, zero, suc, ◌+◌, ◌/◌, ◌%◌, Bool, eqb}

-- how many of the k low bits of x are ones
unfoldable pub ones_of : ℕ → ℕ → ℕ
ones_of zero x = 0
ones_of (suc k) x = x % 2 + ones_of k (x / 2)

-- their number is even
unfoldable pub even_ones : ℕ → ℕ → Bool
even_ones k x = eqb (ones_of k x % 2) 0
