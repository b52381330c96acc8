use Rattle.compute.proofs.Registers.{scaled_wider}
use Rattle.compute.proofs.scaling.scale_at.Goals as goal

pub returns : goal.returns
returns c o bank there rest ram rom =
    let a = c.args in
    scaled_wider a.size o a.to bank there rest a.regs.now a.flags.now ram rom c.twice-wider.result c.twice-wider.ensures
    a.how a.v c.read-x.result c.scaled-w.result _ c.write.new.registers
    c.read-x.ensures c.scaled-w.ensures.0 c.scaled-w.ensures.1 c.write.ensures.put_within
