use Rattle.std.proofs.Common.{arith}
use Rattle.memory.specs.Access.{load_of}
use Rattle.state.specs.inner.Lent.{ruled_with}
use Rattle.stack.specs.Stack.{pop_of}
use Rattle.interrupt.proofs.pop_sr.Goals as goal

pub returns : goal.returns
unfolding pop_of load_of
returns c rest =
    let a = c.args in
    let popped = c.in_ok-v.ensures.end (ruled_with rest a.regs.now a.bank.now a.level.now a.flags.now) in
    let restored = c.restore.ensures (ruled_with rest c.popped.new.regs a.bank.now a.level.now a.flags.now) in
    grind (arith, popped, restored)
