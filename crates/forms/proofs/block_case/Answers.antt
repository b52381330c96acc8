use native.Mathlib.Omega.{arith}
use Rattle.code.specs.Said.{judge}
use Rattle.forms.proofs.BlockRows.{copies_hl, copies_iy, no_copies, compares_r, no_compares}
use Rattle.forms.proofs.block_case.Goals as goal

pub returns-then-r-eq3 : goal.returns-then-r-eq3
unfolding judge
returns-then-r-eq3 c = λ m s. rw (copies_hl _ _ _ _ c.requires (omega arith) c.if-r-eq3.true) (c.block.ensures m)

pub returns-then-r-eq5 : goal.returns-then-r-eq5
unfolding judge
returns-then-r-eq5 c = λ m s. rw (copies_iy _ _ _ _ c.requires (omega arith) c.if-r-eq5.true) (c.block-then-r-eq5.ensures m)

pub returns-then-c-lt20 : goal.returns-then-c-lt20
unfolding judge
returns-then-c-lt20 c = λ m s. rw (no_copies _ _ _ _ c.requires (omega arith) c.if-r-eq3.false c.if-r-eq5.false)

pub returns-then-r-lt2 : goal.returns-then-r-lt2
unfolding judge
returns-then-r-lt2 c = λ m s. rw (no_compares _ _ _ _ c.requires (omega arith) c.if-r-lt2.true)

pub returns : goal.returns
unfolding judge
returns c = λ m s. rw (compares_r _ _ _ _ c.requires (omega arith) c.if-r-lt2.false) (c.block-2.ensures m)
