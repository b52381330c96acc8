use mathlib.Core.Path.{refl}
use native.Mathlib.Omega.{arith}
use Rattle.code.specs.Registers.{register_rows}
use Rattle.code.specs.Rows.{lookup}
use Rattle.code.specs.Said.{judge}
use Rattle.code.proofs.Judge.{bytes_bounds, number_whole, number_short}
use Rattle.code.proofs.RegisterRows.{no_load}
use Rattle.number.proofs.Laws.{as_many}
use Rattle.registers.proofs.case_00.Goals as goal

pub overflow_add-result : goal.overflow_add-result
overflow_add-result c = omega (arith, bytes_bounds c.args.size _ c.bytes-n.ensures)

pub returns-in-Some : goal.returns-in-Some
unfolding register_rows lookup
returns-in-Some c = λ o. rw (c.if-c-eq3.true, ← c.bytes-n.ensures) (number_whole _ _ _ _ _ _ _ _ _ (as_many _ _ _ (bytes_bounds c.args.size _ c.bytes-n.ensures) c.number.ensures) c.in-Some.is refl)

pub returns-in-None : goal.returns-in-None
unfolding register_rows lookup
returns-in-None c = λ o. rw (c.if-c-eq3.true, ← c.bytes-n.ensures) (number_short _ _ _ _ _ (as_many _ _ _ (bytes_bounds c.args.size _ c.bytes-n.ensures) c.number.ensures) c.in-None.is)

pub returns : goal.returns
unfolding judge
returns c = λ o. rw (no_load _ _ _ (omega arith) c.if-c-eq3.false)
