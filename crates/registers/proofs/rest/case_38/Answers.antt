use Rattle.code.specs.Said.{judge}
use Rattle.code.proofs.FeedRows.{by_table, no_table}
use Rattle.registers.proofs.rest.case_38.Goals as goal

pub returns-then-c-eq3 : goal.returns-then-c-eq3
unfolding judge
returns-then-c-eq3 c = λ o. rw (no_table _ o _ c.requires c.if-c-eq3.true)

pub returns-in-Byte : goal.returns-in-Byte
unfolding judge
returns-in-Byte c = λ o. rw (by_table _ o _ c.requires c.if-c-eq3.false, c.in-Byte.is)

pub returns-in-Word : goal.returns-in-Word
returns-in-Word c = λ o. rw (by_table _ o _ c.requires c.if-c-eq3.false, c.in-Word.is, ← c.stride_of.ensures) (c.table.ensures _ o)

pub returns-in-Long : goal.returns-in-Long
unfolding judge
returns-in-Long c = λ o. rw (by_table _ o _ c.requires c.if-c-eq3.false, c.in-Long.is)
