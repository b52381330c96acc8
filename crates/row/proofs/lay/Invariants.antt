use Rattle.row.proofs.Laying.{Laying}
use Rattle.row.proofs.lay.Given as goal

abbrev pub invariant-loop-i : goal.invariant-loop-i
invariant-loop-i l = Laying l.initial.out l.i-items l.out l.at l.i-index
