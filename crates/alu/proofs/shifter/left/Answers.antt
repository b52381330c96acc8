use Prim.Native.Nat.{◌-◌}
use native.Mathlib.Omega.{arith}
use lib.Bits.{and_mask, and_le_r}
use Rattle.flags.proofs.Widths.{low_twice}
use Rattle.alu.proofs.shifter.left.Goals as goal

pub overflow_mul-result : goal.overflow_mul-result
overflow_mul-result c = omega (arith, and_le_r c.args.x (c.args.top - 1))

pub returns : goal.returns
returns c k p e = rw (e, and_mask c.args.x (k - 1), low_twice k c.args.x p)
