use Rattle.code.specs.Said.{judge}
use Rattle.registers.proofs.only.Goals as goal

pub returns-then-listed : goal.returns-then-listed
unfolding judge
returns-then-listed c z o s = rw c.if-listed.true

pub returns-else-listed : goal.returns-else-listed
unfolding judge
returns-else-listed c z o s = rw c.if-listed.false
