use Rattle.std.proofs.Common.{arith}
use Rattle.state.specs.inner.Lent.{interrupted}
use Rattle.interrupt.specs.Interrupt.{interrupt_of}
use Rattle.interrupt.proofs.interrupt.Goals as goal

pub returns-in-PushSr : goal.returns-in-PushSr
unfolding interrupt_of
returns-in-PushSr c rest =
    let a = c.args in
    grind (arith, c.push_sr.ensures (interrupted rest a.regs.now a.counter.now a.bank.now a.level.now a.flags.now a.nesting.now))

pub returns-in-PopSr : goal.returns-in-PopSr
unfolding interrupt_of
returns-in-PopSr c rest =
    let a = c.args in
    grind (arith, c.pop_sr.ensures (interrupted rest a.regs.now a.counter.now a.bank.now a.level.now a.flags.now a.nesting.now))
