use mathlib.Core.Path.{◌∙◌}
use native.Mathlib.Omega.{arith}
use Rattle.code.specs.Said.{judge}
use Rattle.code.proofs.RegisterRows.{shift, no_shift}
use Rattle.registers.proofs.case_e8.Goals as goal

pub returns-then-c-lt236 : goal.returns-then-c-lt236
unfolding judge
returns-then-c-lt236 c = λ o. rw (no_shift _ _ c.args.c (omega arith) (omega arith))

pub returns : goal.returns
returns c = λ o. rw (shift _ _ c.args.c (omega arith) (omega arith)) (c.shifted.ensures o ∙ rw c.shift_of.ensures)
