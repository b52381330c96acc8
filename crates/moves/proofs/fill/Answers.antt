use Rattle.std.proofs.Common.{◌≡◌, get_or, sym, ◌∙◌, arith}
use Rattle.std.proofs.Math.ListN.{get_or-eq_default}
use Rattle.moves.proofs.Filling.{fill_more}
use Rattle.moves.proofs.fill.Goals as goal
use Rattle.moves.proofs.fill.Goals.{then-i-from, else-i-from}

pub loop-i-preserved : goal.loop-i-preserved
loop-i-preserved c =
    let l = c.loop-i in
    let from = c.args.from.now in
    let byte : c.if-i-from.to ≡ get_or from l.i 0 =
    elim c.if-i-from.branch [
      | then-i-from w ↦ w.to-is
      | else-i-from w ↦ w.to-is ∙ sym (get_or-eq_default from 0 w.if-i-from.false)
    ] in
    fill_more l.room from _ l.i _ (omega arith) l.auto.room byte l.invariant
