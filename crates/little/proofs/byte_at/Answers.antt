use native.Mathlib.Omega.{arith}
use mathlib.Core.Path.{sym}
use lib.ListN.{get_or-eq_default}
use Rattle.little.proofs.byte_at.Goals as goal

pub overflow_cast-result : goal.overflow_cast-result
overflow_cast-result c = omega (arith, c.type_inv.part c.args.i)

pub returns-else-i-part : goal.returns-else-i-part
returns-else-i-part c = sym (get_or-eq_default c.args.part.now 0 c.if-i-part.false)
