use Rattle.alu.proofs.Shifts.{shift_none, goes_more}
use Rattle.alu.proofs.shifter.+places.Goals as goal

pub returns-then-num-eq0 : goal.returns-then-num-eq0
returns-then-num-eq0 t c w k g = shift_none w k _ _ _ _ c.if-num-eq0.true c.one.ensures.0

pub returns-else-num-eq0 : goal.returns-else-num-eq0
returns-else-num-eq0 t c = goes_more _ _ _ _ _ _ c.place-p.result _ c.if-num-eq0.false c.place-p.ensures c.places.ensures
