use native.Mathlib.Omega.{arith}
use Rattle.code.specs.Said.{judge}
use Rattle.forms.proofs.MemoryRows.{store_byte, store_word, store_long, no_store}
use Rattle.forms.proofs.store_case.Goals as goal

pub returns-in-8 : goal.returns-in-8
unfolding judge
returns-in-8 c = λ m s. rw (store_byte _ _ c.in-8.is)

pub returns-in-10 : goal.returns-in-10
unfolding judge
returns-in-10 c = λ m s. rw (store_word _ _ c.in-10.is)

pub returns-in-12 : goal.returns-in-12
unfolding judge
returns-in-12 c = λ m s. rw (store_long _ _ c.in-12.is)

pub returns-in_default : goal.returns-in_default
unfolding judge
returns-in_default c = λ m s. rw (no_store _ _ (omega arith) c.in_default.in_default-own.rest)
