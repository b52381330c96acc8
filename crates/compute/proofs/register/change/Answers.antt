use Rattle.compute.proofs.Registers.{changed_there}
use Rattle.compute.proofs.register.change.Goals as goal

pub returns : goal.returns
returns c o bank there rest ram rom =
    let a = c.args in
    changed_there a.size o a.r bank there rest a.regs.now a.flags.now ram rom
    c.read-v.result c.changed-w.result _ c.write.new.registers
    c.read-v.ensures c.write.ensures.put_within
    a.how c.changed-w.ensures.0 c.changed-w.ensures.1
