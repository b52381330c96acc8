use native.Mathlib.Omega.{arith}
use mathlib.Core.Path.{ap, sym, ◌∙◌}
use lib.ListN.{replicate}
use Rattle.row.specs.Row.{most}
use Rattle.row.proofs.Through.{holding_none, holding_more}
use Rattle.row.proofs.read.Goals as goal

pub loop-rest-init : goal.loop-rest-init
loop-rest-init c = holding_none c.args.code.now _ (ap (replicate most) c.blank.ensures)

pub loop-rest-preserved : goal.loop-rest-preserved
loop-rest-preserved c = holding_more c.loop-rest.invariant c.in-Ok.i c.if-list-ge-MOST.false (grind arith) (sym c.decode.ensures ∙ c.in-Ok.is)
