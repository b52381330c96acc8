use native.Mathlib.Omega.{arith}
use Prim.Native.Nat.{◌<◌}
use Rattle.little.proofs.Laws.{four}
use Rattle.little.proofs.read.Goals as goal

-- each byte is below 256
bytes : (c : goal.After-byte_at-b3) → (c.byte_at-b0.result < 256) × ((c.byte_at-b1.result < 256) × ((c.byte_at-b2.result < 256) × (c.byte_at-b3.result < 256)))
bytes c =
    let k = c.type_inv.part in
    omega (arith, k 0, k 1, k 2, k 3)

pub overflow_mul-result : goal.overflow_mul-result
overflow_mul-result c = omega (arith, bytes c)

pub overflow_add-result : goal.overflow_add-result
overflow_add-result c = omega (arith, bytes c)

pub overflow_mul-result-2 : goal.overflow_mul-result-2
overflow_mul-result-2 c = omega (arith, bytes c)

pub overflow_add-result-2 : goal.overflow_add-result-2
overflow_add-result-2 c = omega (arith, bytes c)

pub overflow_mul-result-3 : goal.overflow_mul-result-3
overflow_mul-result-3 c = omega (arith, bytes c)

pub overflow_add-result-3 : goal.overflow_add-result-3
overflow_add-result-3 c = omega (arith, bytes c)

pub returns : goal.returns
returns c = omega (arith, four c.args.part.now)
