-- V of logic and shifts, as the function that looks it up promises it.
use Rattle.std.specs.Prelude.{ℕ, Bool, not, ◌&&◌}
use Rattle.flags.specs.Undefined.{by_parity, undefined_of, marks_v}
use Rattle.alu.specs.Parity.{even_ones}

-- even ones where the book defines it, and 0 where it does not
unfoldable pub parity_of : ℕ → ℕ → Bool
parity_of k x = not (marks_v (undefined_of (by_parity k))) && even_ones k x
