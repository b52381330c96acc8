use mathlib.Core.Path.{sym, ◌∙◌}
use Rattle.compute.proofs.Registers.{with_there}
use Rattle.compute.proofs.register.with.Goals as goal

pub returns-then-stores : goal.returns-then-stores
returns-then-stores c o bank there rest ram rom =
    let a = c.args in
    let done = c.operate-w in
    let read = c.read-v in
    with_there a.size o a.r bank there rest a.regs.now a.flags.now ram rom
    read.result done.result _ c.write.new.registers read.ensures c.write.ensures.put_within
    a.op a.n (sym c.stores.ensures ∙ c.if-stores.true) done.ensures.0 done.ensures.1
