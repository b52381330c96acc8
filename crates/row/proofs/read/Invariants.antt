use lib.ListN.{length}
use Rattle.row.proofs.Through.{Holding}
use Rattle.row.proofs.read.Given as goal

abbrev pub invariant-loop-rest : goal.invariant-loop-rest
invariant-loop-rest l = Holding l.code l.list.held l.list.count l.rest

abbrev pub decreases-loop-rest : goal.decreases-loop-rest
decreases-loop-rest l = length l.rest
