use mathlib.Core.Path.{refl}
use native.Mathlib.Omega.{arith}
use Rattle.code.specs.Listed.{up_to_seven_rows}
use Rattle.code.specs.Said.{judge}
use Rattle.code.proofs.Judge.{run_there, run_unlisted, next_short}
use Rattle.first.proofs.up_to_seven.Goals as goal

pub returns-then-code-le1 : goal.returns-then-code-le1
returns-then-code-le1 c = next_short _ _ _ (omega arith)

pub returns-then-n-gt7 : goal.returns-then-n-gt7
unfolding up_to_seven_rows
returns-then-n-gt7 c = run_unlisted _ _ _ _ (omega arith) (omega arith)

pub returns : goal.returns
unfolding up_to_seven_rows judge
returns c = run_there _ _ c.args.code.now 1 (omega arith) _ (omega arith) refl
