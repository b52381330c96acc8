use Rattle.std.proofs.Common.{arith}
use Rattle.state.specs.inner.Lent.{banked_with}
use Rattle.stack.specs.Stack.{push_f_of}
use Rattle.stack.proofs.push_f.Goals as goal

pub returns : goal.returns
unfolding push_f_of
returns c rest =
    let a = c.args in
    grind (arith, c.push.ensures (banked_with rest a.regs.now a.bank a.flags))
