use Rattle.std.proofs.Common.{arith}
use Rattle.state.specs.inner.Lent.{banked_at_with}
use Rattle.stack.specs.Stack.{stack_of}
use Rattle.stack.proofs.stack.Goals as goal

pub returns-in-PushF : goal.returns-in-PushF
unfolding stack_of
returns-in-PushF c rest =
    let a = c.args in
    grind (arith, c.push_f.ensures (banked_at_with rest a.regs.now a.bank a.counter.now a.flags.now))

pub returns-in-PopF : goal.returns-in-PopF
unfolding stack_of
returns-in-PopF c rest =
    let a = c.args in
    grind (arith, c.pop_f.ensures (banked_at_with rest a.regs.now a.bank a.counter.now a.flags.now))

pub returns-in-Push : goal.returns-in-Push
unfolding stack_of
returns-in-Push c rest =
    let a = c.args in
    grind (arith, c.push.ensures (banked_at_with rest a.regs.now a.bank a.counter.now a.flags.now))

pub returns-in-Pop : goal.returns-in-Pop
unfolding stack_of
returns-in-Pop c rest =
    let a = c.args in
    grind (arith, c.pop.ensures (banked_at_with rest a.regs.now a.bank a.counter.now a.flags.now))

pub returns-in-Call16 : goal.returns-in-Call16
unfolding stack_of
returns-in-Call16 c rest =
    let a = c.args in
    grind (arith, c.call.ensures (banked_at_with rest a.regs.now a.bank a.counter.now a.flags.now))

pub returns-in-Call24 : goal.returns-in-Call24
unfolding stack_of
returns-in-Call24 c rest =
    let a = c.args in
    grind (arith, c.call-in-Call24.ensures (banked_at_with rest a.regs.now a.bank a.counter.now a.flags.now))

pub returns-in-Calr : goal.returns-in-Calr
unfolding stack_of
returns-in-Calr c rest =
    let a = c.args in
    grind (arith, c.call-in-Calr.ensures (banked_at_with rest a.regs.now a.bank a.counter.now a.flags.now))

pub returns-in-Ret : goal.returns-in-Ret
unfolding stack_of
returns-in-Ret c rest =
    let a = c.args in
    grind (arith, c.ret.ensures (banked_at_with rest a.regs.now a.bank a.counter.now a.flags.now))
