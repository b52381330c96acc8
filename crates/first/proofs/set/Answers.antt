use mathlib.Core.Path.{refl}
use native.Mathlib.Omega.{arith}
use Rattle.code.proofs.Judge.{bytes_bounds, number_whole, number_short}
use Rattle.number.proofs.Laws.{as_many}
use Rattle.first.proofs.set.Goals as goal

pub overflow_add-result : goal.overflow_add-result
overflow_add-result c = omega (arith, bytes_bounds c.args.size _ c.bytes-n.ensures)

pub returns-in-Some : goal.returns-in-Some
returns-in-Some c = rw (← c.bytes-n.ensures) (number_whole _ _ _ _ _ _ _ _ _ (as_many _ _ _ (bytes_bounds c.args.size _ c.bytes-n.ensures) c.number.ensures) c.in-Some.is refl)

pub returns-in-None : goal.returns-in-None
returns-in-None c = rw (← c.bytes-n.ensures) (number_short _ _ _ _ _ (as_many _ _ _ (bytes_bounds c.args.size _ c.bytes-n.ensures) c.number.ensures) c.in-None.is)
