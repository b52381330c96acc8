use Rattle.alu.proofs.Shifts.{place_left, place_right}
use Rattle.alu.proofs.shifter.place.Goals as goal

pub returns-then-goes_left : goal.returns-then-goes_left
returns-then-goes_left c w k g = place_left w k _ _ _ _ _ c.if-goes_left.true c.left.ensures g

pub returns-else-goes_left : goal.returns-else-goes_left
returns-else-goes_left c w k g = place_right w k _ _ _ _ _ c.if-goes_left.false c.right.ensures g
