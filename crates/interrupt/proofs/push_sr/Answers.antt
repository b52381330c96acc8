use Rattle.std.proofs.Common.{arith}
use Rattle.state.specs.inner.Lent.{ruled_with}
use Rattle.interrupt.specs.Interrupt.{push_sr_of}
use Rattle.interrupt.proofs.push_sr.Goals as goal

pub returns : goal.returns
unfolding push_sr_of
returns c rest =
    let a = c.args in
    grind (arith, c.push.ensures (ruled_with rest a.regs.now a.bank.0 a.level.0 a.flags))
