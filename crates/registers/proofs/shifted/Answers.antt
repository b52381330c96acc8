use mathlib.Core.Path.{refl}
use native.Mathlib.Omega.{arith}
use Rattle.code.specs.Registers.{places_rows}
use Rattle.code.specs.Said.{judge}
use Rattle.code.proofs.Judge.{run_there, run_unlisted, next_short}
use Rattle.registers.proofs.shifted.Goals as goal

pub returns-then-code-le2 : goal.returns-then-code-le2
returns-then-code-le2 c = λ o. next_short _ _ _ (omega arith)

pub returns-then-places-gt15 : goal.returns-then-places-gt15
unfolding places_rows
returns-then-places-gt15 c = λ o. run_unlisted _ _ _ _ (omega arith) (omega arith)

pub returns : goal.returns
unfolding places_rows judge
returns c = λ o. run_there _ _ c.args.code.now 2 (omega arith) _ (omega arith) refl
