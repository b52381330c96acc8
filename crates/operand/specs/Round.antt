-- Numbers step round at their own width.
use Rattle.std.specs.Prelude.{ℕ, ◌+◌, ◌-◌, ◌%◌, ◌^◌}

-- a number of k bits less n, and plus n, round at its width
abbrev pub less : ℕ → ℕ → ℕ → ℕ
less k x n = (x + (2 ^ k - n)) % 2 ^ k

abbrev pub plus : ℕ → ℕ → ℕ → ℕ
plus k x n = (x + n) % 2 ^ k
