use native.Mathlib.Omega.{arith}
use Rattle.code.proofs.Judge.{next_there, next_short}
use Rattle.registers.proofs.rest.read.Goals as goal

pub returns-then-code-le1 : goal.returns-then-code-le1
returns-then-code-le1 c = λ o e. next_short _ _ _ (omega arith)

pub returns : goal.returns
returns c = λ o e. next_there _ _ _ _ (omega arith) (c.second.ensures o e)
