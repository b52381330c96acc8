use Rattle.std.proofs.Common.{refl, arith}
use Rattle.state.specs.inner.Lent.{interrupted}
use Rattle.interrupt.proofs.Laws.{returned_by}
use Rattle.interrupt.proofs.reti.Goals as goal

pub returns : goal.returns
returns c rest =
    let a = c.args in
    let raised = c.raise.ensures (interrupted rest a.regs.now a.counter.now a.bank.now a.level.now a.flags.now a.nesting.now) in
    let u = interrupted rest c.raise.new.regs a.counter.now a.bank.now a.level.now a.flags.now a.nesting.now in
    let left = returned_by u c.in_ok-sr.sr c.in_ok-sr.to _ _ _ _ c.in_ok-sr.ensures.six_fits c.restore.ensures refl in
    grind (arith, raised, left)
