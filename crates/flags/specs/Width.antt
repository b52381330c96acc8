-- A number's part of a width of k bits, its sign, and a bit as a number.
use Rattle.std.specs.Prelude.{ℕ, ◌-◌, ◌%◌, ◌^◌, Bool, cond, leb}

-- the low k bits of x
abbrev pub low : ℕ → ℕ → ℕ
low k x = x % 2 ^ k

-- whether the top bit of a number of k bits is one, and that bit at its weight
abbrev pub negative : ℕ → ℕ → Bool
negative k x = leb (2 ^ (k - 1)) x

abbrev pub weighed : ℕ → ℕ → ℕ
weighed k x = cond (negative k x) (2 ^ (k - 1)) 0

-- a bit as a number: 1 for true
abbrev pub one : Bool → ℕ
one b = cond b 1 0
