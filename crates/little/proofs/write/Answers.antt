use Rattle.std.proofs.Common.{◌∙◌, arith}
use Rattle.std.proofs.Math.ListN.{length-set}
use Rattle.little.proofs.Laws.{write_more, write_done}
use Rattle.little.proofs.write.Goals as goal

pub loop-byte-preserved : goal.loop-byte-preserved
loop-byte-preserved c =
    let l = c.loop-byte in
    simp length-set (write_more l.part l.byte-index l.rest (omega arith) ∙ l.invariant)

pub returns : goal.returns
returns c = let l = c.loop-byte in write_done l.part l.byte-index l.rest (omega arith) l.invariant
