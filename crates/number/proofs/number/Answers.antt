use native.Mathlib.Omega.{arith}
use Rattle.code.proofs.Judge.{number_there, number_missing}
use Rattle.number.proofs.number.Goals as goal

pub returns-then-m-code : goal.returns-then-m-code
returns-then-m-code c = rw (← c.up_to_four-m.ensures.0) (number_there _ _ _ _ (omega arith) c.read.ensures)

pub returns-else-m-code : goal.returns-else-m-code
returns-else-m-code c = rw (← c.up_to_four-m.ensures.0) (number_missing _ _ _ (omega arith))

pub returns-else-at-code : goal.returns-else-at-code
returns-else-at-code c = rw (← c.up_to_four-m.ensures.0) (number_missing _ _ _ (omega arith))
