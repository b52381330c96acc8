-- EXTZ and EXTS: the low half of k bits, with zeros or with its sign above it.
use Rattle.std.specs.Prelude.{ℕ, ◌+◌, ◌-◌, ◌/◌, ◌^◌, cond}
use Rattle.flags.specs.Width.{low, negative}

-- EXTZ: the low half, with zeros above it
unfoldable pub extz_of : ℕ → ℕ → ℕ
extz_of k a = low (k / 2) a

-- EXTS: ones above it where its top bit is one; 2 ^ k - 2 ^ (k / 2) has ones in the high half
unfoldable pub exts_of : ℕ → ℕ → ℕ
exts_of k a = cond (negative (k / 2) (extz_of k a)) (extz_of k a + (2 ^ k - 2 ^ (k / 2))) (extz_of k a)
