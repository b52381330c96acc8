use Rattle.compute.proofs.Registers.{cycled_there}
use Rattle.compute.proofs.scaling.cycle.Goals as goal

pub returns : goal.returns
returns c o bank there rest f ram rom =
    let a = c.args in
    cycled_there a.size o a.r bank there rest a.regs.now f ram rom a.how c.read-v.result c.cycled.result c.write.new.registers
    c.read-v.ensures c.cycled.ensures c.write.ensures.put_within
