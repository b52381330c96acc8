-- MINC and MDEC (request K7): a pointer x of k bits goes round in a table whose number of bytes, num, is a power of two. A code has num less
-- the step s: `last`, the place of the last entry.
use Rattle.std.specs.Prelude.{ℕ, zero, suc, ◌+◌, ◌-◌, ◌*◌, ◌%◌, ◌^◌, Bool, false, cond, ◌&&◌, ◌||◌, leb, eqb}
use Rattle.flags.specs.Width.{low}
use Rattle.feed.specs.declared.cycle.{Stride.Stride, Cycle.Cycle}
use Rattle.feed.specs.declared.cycle.Stride.TheVariants.{One, Two, Four}
use Rattle.feed.specs.declared.cycle.Cycle.TheVariants.{Minc, Mdec}

-- the step
abbrev pub stride_step : Stride → ℕ
stride_step One = 1
stride_step Two = 2
stride_step Four = 4

-- MINC: if (x mod num) = (num - s) then x - (num - s) else x + s
unfoldable pub minc_of : ℕ → ℕ → ℕ → ℕ → ℕ
minc_of k s last a =
    let x = low k a in
    cond (eqb (x % (last + s)) last) (x - last) ((x + s) % 2 ^ k)

-- MDEC: if (x mod num) = 0 then x + (num - s) else x - s
unfoldable pub mdec_of : ℕ → ℕ → ℕ → ℕ → ℕ
mdec_of k s last a =
    let x = low k a in
    cond (eqb (x % (last + s)) 0) ((x + last) % 2 ^ k) ((2 ^ k + x - s) % 2 ^ k)

-- both, as a code has them
abbrev pub cycled : Cycle → ℕ → ℕ → ℕ
cycled (Minc s last) k a = minc_of k (stride_step s) last a
cycled (Mdec s last) k a = mdec_of k (stride_step s) last a

-- whether num is 2 to the power of 1, 2 .. or n
unfoldable pub is_power : ℕ → ℕ → Bool
is_power zero num = false
is_power (suc n) num = eqb num (2 ^ suc n) || is_power n num

-- whether 000 allows it: 2 to the power of n, up to 15, from 1 on for the step 1, from 2 on for 2, from 3 on for 4
unfoldable pub is_table : Stride → ℕ → Bool
is_table s last = is_power 15 (last + stride_step s) && leb (2 * stride_step s) (last + stride_step s)
