-- A number with a sign as the functions of feed::scale have it: how large it is, and apart from that whether it is below zero. The top
-- bit of its bits has the weight t.
use Rattle.std.specs.Prelude.{ℕ, ◌-◌, ◌*◌, Bool, cond, ◌&&◌, ltb, leb}

-- how large x is
abbrev pub magnitude_of : ℕ → ℕ → ℕ
magnitude_of t x = cond (leb t x) (2 * t - x) x

-- the bits of a number so large
abbrev pub with_sign : ℕ → Bool → ℕ → ℕ
with_sign t minus m = cond (minus && ltb 0 m) (2 * t - m) m

-- the largest that fits
abbrev pub largest_of : ℕ → Bool → ℕ
largest_of t minus = cond minus t (t - 1)
