use mathlib.Core.Path.{refl}
use native.Mathlib.Omega.{arith}
use Rattle.code.proofs.Judge.{number_whole, number_short}
use Rattle.number.proofs.Laws.{as_many}
use Rattle.first.proofs.control.Goals as goal

pub returns-in-Some : goal.returns-in-Some
returns-in-Some c = number_whole _ _ _ _ _ _ _ _ _ (as_many _ _ _ (omega arith) c.number.ensures) c.in-Some.is refl

pub returns-in-None : goal.returns-in-None
returns-in-None c = number_short _ _ _ _ _ (as_many _ _ _ (omega arith) c.number.ensures) c.in-None.is
